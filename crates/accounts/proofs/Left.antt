-- What each frame leaves holds by computation.
-- Assumes nothing.
use mathlib.Core.Path.{refl}
use Rattle.entries.specs.Entry.{final_of, reached}
use Rattle.streams.specs.Conn.{count_of}
use Rattle.views.specs.View.{end_of}
use Rattle.rules.specs.Rules.{rule1, rule2, rule3, rule4, rule5, ends_of, blocked_of, for_sender_of}
use Rattle.verdicts.specs.Verdict.{verdict_of, conn_heard, entry_heard, settled_of, judged_of}
use Rattle.accounts.specs.Left.{Left}

pub left : Left
unfolding final_of reached count_of end_of rule1 rule2 rule3 rule4 rule5 ends_of blocked_of for_sender_of verdict_of conn_heard entry_heard settled_of judged_of
left = record {
  grows = refl;
  grows_opening = refl;
  grows_ours = refl;
  grows_one_way = refl;
  grows_below = refl;
  at_furthest = refl;
  below_furthest = refl;
  at_zero = refl;
  final = refl;
  final_at_furthest = refl;
  final_again = refl;
  below_final = refl;
  stream = refl;
  stream_final = refl;
  reset = refl;
  reset_again = refl;
  blocks = refl;
  blocks_one_way = refl;
  blocks_ours = refl;
  sends = refl;
  sends_ours = refl;
  sends_ours_alone = refl;
  acknowledges = refl;
  acknowledges_handshake = refl;
  acknowledges_data = refl;
  closes = refl;
  asks_nothing = refl;
  conn_heard_law = refl;
  entry_heard_law = refl;
  conn_heard_closed = refl;
  refused_state = refl;
  refused_limit = refl;
  refused_size = refl;
  refused_size_known = refl;
  refused_credit = refl;
  refused_total = refl;
  refused_reset = refl;
  refused_blocked = refl;
  refused_blocked_ours = refl;
  refused_sends = refl;
  refused_sends_limit = refl;
  refused_acknowledges = refl;
  refused_acknowledges_counts = refl;
}
