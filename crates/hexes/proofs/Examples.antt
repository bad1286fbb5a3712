-- Worked examples: the definitions, computed.
-- Assumes nothing.
use mathlib.Core.Path.{◌≡◌, refl}
use mathlib.Core.List.{[], ◌∷◌}
use Rattle.text.specs.Text.{every}
use Rattle.hexes.specs.Hex.{digit_of, hex_of, is_pairs, bytes_in, pairs_of}
use Rattle.dumps.specs.Digits.{half_of, is_half}
use Rattle.hexes.specs.declared.HexError.TheVariants.{Wrong, NoRoom}
use Rattle.std.specs.Prelude.{Ok, Err}

-- the bytes 10 and 255 are "0aff"; "0aFF" are they too; "0af" are none; and two do not fit into one
bytes_written : hex_of (10 ∷ 255 ∷ []) ≡ 48 ∷ 97 ∷ 102 ∷ 102 ∷ []
unfolding hex_of digit_of
bytes_written = refl

bytes_read : pairs_of (48 ∷ 97 ∷ 70 ∷ 70 ∷ []) (1 ∷ 2 ∷ 3 ∷ []) ≡ (Ok 2, 10 ∷ 255 ∷ 3 ∷ [])
unfolding pairs_of is_pairs every is_half half_of bytes_in
bytes_read = refl

odd : pairs_of (48 ∷ 97 ∷ 102 ∷ []) (1 ∷ 2 ∷ 3 ∷ []) ≡ (Err Wrong, 1 ∷ 2 ∷ 3 ∷ [])
unfolding pairs_of is_pairs
odd = refl

no_room : pairs_of (48 ∷ 97 ∷ 70 ∷ 70 ∷ []) (1 ∷ []) ≡ (Err NoRoom, 1 ∷ [])
unfolding pairs_of is_pairs every is_half half_of
no_room = refl
