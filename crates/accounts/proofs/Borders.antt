-- The borders hold by computation.
-- Assumes nothing.
use mathlib.Core.Path.{refl}
use Rattle.halves.specs.Stream.{id_of}
use Rattle.entries.specs.Entry.{final_of}
use Rattle.streams.specs.Conn.{count_of, handed_out_of}
use Rattle.opening.specs.Opening.{opening_of}
use Rattle.streams.specs.Conn.{limits_fit}
use Rattle.views.specs.View.{end_of}
use Rattle.rules.specs.Rules.{rule1, rule2, blocked_of, for_sender_of}
use Rattle.verdicts.specs.Verdict.{verdict_of, conn_heard}
use Rattle.calls.specs.Calls.{raise_of, reply_of}
use Rattle.replies.specs.Replies.{settled_of, ruled_of, replied_of}
use Rattle.limits.specs.Fits.{open_fit, conn_fits, summed_of, concluded_of}
use Rattle.entries.specs.Fitting.{is_fresh, entry_fits_as}
use Rattle.accounts.specs.Borders.{Borders}

pub borders : Borders
unfolding id_of final_of count_of handed_out_of limits_fit opening_of end_of rule1 rule2 blocked_of for_sender_of verdict_of conn_heard raise_of reply_of settled_of ruled_of replied_of is_fresh entry_fits_as open_fit conn_fits summed_of concluded_of
borders = record {
  views = refl;
  spaces = refl;
  spaces_ecn = refl;
  blocked = refl;
  sending = refl;
  opens_ends = refl;
  opens_blocks = refl;
  opens_sends = refl;
  closes_none = refl;
  acknowledged = refl;
  credit = refl;
  count = refl;
  stream = refl;
  known_size = refl;
  closed = refl;
  next = refl;
  last_number = refl;
  no_number = refl;
  opened_most = refl;
  opened_above = refl;
  end_fits = refl;
  size_fits = refl;
  unopened = refl;
  limit_fits = refl;
  open_fits = refl;
  sum_fits = refl;
  total_fits = refl;
}
