-- What opening says loses nothing: a number is that of one answer.
-- Assumes nothing.
use mathlib.Core.Path.{◌≡◌}
use Rattle.answers.specs.Answers.{Said}
use Rattle.answers.proofs.Numbers.{answer_of, again}
use Rattle.answers.proofs.Said.{one_value}
use Rattle.streams.specs.declared.Conn.{Conn}
use Rattle.opening.specs.Said.{opened_says}
use Rattle.opening.specs.declared.Opened.{Opened}

opened_of : Said Conn → Opened
opened_of s = record { answer = answer_of s.number; conn = s.values }

opened_again : (x : Opened) → opened_of (opened_says x) ≡ x
unfolding opened_of
opened_again x = λ i. record { answer = again x.answer i; conn = x.conn }

pub one_opened : (x y : Opened) → opened_says x ≡ opened_says y → x ≡ y
one_opened = one_value opened_says opened_of opened_again
