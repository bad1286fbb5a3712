-- The local calls' rows hold by computation.
-- Assumes nothing.
use mathlib.Core.Path.{refl}
use Rattle.halves.specs.Stream.{id_of}
use Rattle.entries.specs.Entry.{final_of}
use Rattle.streams.specs.Conn.{count_of, handed_out_of}
use Rattle.calls.specs.Calls.{raise_of, reply_of}
use Rattle.replies.specs.Replies.{settled_of, ruled_of, replied_of}
use Rattle.accounts.specs.Calls.{Calls}

pub calls : Calls
unfolding id_of final_of count_of handed_out_of raise_of reply_of settled_of ruled_of replied_of
calls = record {
  credit = refl;
  credit_most = refl;
  credit_above = refl;
  credit_same = refl;
  credit_lower = refl;
  stream = refl;
  stream_most = refl;
  stream_above = refl;
  stream_same = refl;
  stream_known = refl;
  stream_not_open = refl;
  stream_not_served = refl;
  stream_last = refl;
  stream_no_id = refl;
  count_two_way = refl;
  count_two_way_most = refl;
  count_two_way_above = refl;
  count_two_way_same = refl;
  count_one_way = refl;
  count_one_way_most = refl;
  count_one_way_above = refl;
  count_one_way_same = refl;
  count_one_way_lower = refl;
  count_not_served = refl;
  count_types = refl;
  next_two_way_first = refl;
  next_two_way_second = refl;
  next_two_way = refl;
  next_two_way_last = refl;
  next_two_way_none = refl;
  next_one_way_first = refl;
  next_one_way_second = refl;
  next_one_way = refl;
  next_one_way_last = refl;
  next_one_way_none = refl;
  next_not_served = refl;
  next_types = refl;
  closed_by_peer = refl;
  closed_open_stream = refl;
  closed_with_code = refl;
  closed_full = refl;
  not_served_first = refl;
  not_served_above = refl;
  not_served_same = refl;
  known_first = refl;
  known_empty = refl;
  above_first = refl;
  raises = refl;
  known_others = refl;
  credit_closed = refl;
  count_closed = refl;
  looks_at = refl;
  hands_first = refl;
  hands_out = refl;
  hands_out_closed = refl;
  hands_out_code = refl;
  hands_last = refl;
  hands_none = refl;
  hands_others = refl;
}
