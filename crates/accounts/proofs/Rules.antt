-- The rules' borders hold by computation.
-- Assumes nothing.
use mathlib.Core.Path.{refl}
use Rattle.entries.specs.Entry.{final_of}
use Rattle.streams.specs.Conn.{count_of}
use Rattle.rules.specs.Rules.{rule1, rule2, rule3, rule4, rule5, ends_of, blocked_of, for_sender_of}
use Rattle.verdicts.specs.Verdict.{verdict_of}
use Rattle.accounts.specs.Rules.{Rules}

pub rules : Rules
unfolding final_of count_of rule1 rule2 rule3 rule4 rule5 ends_of blocked_of for_sender_of verdict_of
rules = record {
  first_rule = refl;
  second_rule = refl;
  second_rule_open = refl;
  no_streams = refl;
  last_ordinals = refl;
  last_ids = refl;
  sizes = refl;
  after_final = refl;
  another_final = refl;
  final_below = refl;
  never_final = refl;
  any_end = refl;
  third_rule = refl;
  third_rule_final = refl;
  third_rule_unknown = refl;
  ended_empty = refl;
  ended_empty_final = refl;
  fourth_rule = refl;
  fourth_rule_raised = refl;
  fifth_rule = refl;
  fifth_rule_alone = refl;
  no_growth = refl;
  no_growth_final = refl;
  before_all = refl;
  before_third = refl;
  before_fourth = refl;
  before_fifth = refl;
  third_before_fourth = refl;
  third_before_fifth = refl;
  resets = refl;
  resets_again = refl;
  resets_growth = refl;
  resets_others = refl;
  blocked = refl;
  blocked_last = refl;
  sending = refl;
  sending_last = refl;
  acknowledged = refl;
}
