-- The borders of lines and words hold by computation.
-- Assumes nothing.
use mathlib.Core.Path.{refl}
use Rattle.text.specs.Text.{every}
use Rattle.text.specs.Decimal.{value_from, is_digit, parsed_of}
use Rattle.hexes.specs.Hex.{is_pairs, bytes_in, pairs_of}
use Rattle.dumps.specs.Digits.{half_of, is_half}
use Rattle.search.specs.Words.{before, same_of}
use Rattle.wire.specs.Writing.{writes}
use Rattle.lines.specs.Gathered.{grown_of, piece_of, ends_in, used_of, gathered_of}
use Rattle.lines.specs.Words.{blanks, gap_behind, count_of, behind_blank, from_word, first_word, word_of, as_signed, signed_of, is_none, bytes_of}
use Rattle.lines.specs.Borders.{Borders}

pub borders : Borders
unfolding every value_from is_digit parsed_of half_of is_half is_pairs bytes_in pairs_of before same_of blanks gap_behind count_of behind_blank from_word first_word word_of as_signed signed_of is_none bytes_of writes grown_of piece_of ends_in used_of gathered_of
borders = record { counts = refl; words = refl; digits = refl; numbers = refl; signs = refl; halves = refl; pairs = refl; no_pairs = refl; dash = refl; pieces = refl; stays_long = refl }
