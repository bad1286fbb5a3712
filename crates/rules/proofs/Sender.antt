-- The frames for our sending half of a stream, by what the tests of the code tell: the half, whether the peer opens its streams, and whether this one is open.
-- Assumes nothing.
use Prim.Native.Nat.{ℕ, ◌≤◌, ◌<◌}
use mathlib.Core.Path.{◌≡◌}
use mathlib.Core.Bool.{true, false, and-false}
use borrow.Author.Tests.{eq-eqb, ne_eqb, le-leb, lt-leb}
use Rattle.answers.specs.declared.Answer.TheVariants.{Accepted, StreamLimit, StreamState}
use Rattle.streams.specs.declared.Conn.{Conn}
use Rattle.halves.specs.Stream.{half_of, ordinal_of, peers}
use Rattle.streams.specs.Conn.{count_of}
use Rattle.rules.specs.Rules.{rule2, for_sender_of}

module _ (c : Conn) (id : ℕ) where
  pub never_ours : half_of id ≡ 2 → StreamState ≡ for_sender_of c id
  unfolding for_sender_of
  never_ours h = simp (eq-eqb _ _ h)

  pub above_count : (half_of id ≡ 2 → ⊥) → count_of c (half_of id) ≤ ordinal_of id → peers (half_of id) ≡ true → StreamLimit ≡ for_sender_of c id
  unfolding for_sender_of rule2
  above_count h l p = rw (p, ne_eqb (half_of id) 2 h, le-leb _ _ l)

  pub not_opened : (half_of id ≡ 2 → ⊥) → count_of c (half_of id) ≤ ordinal_of id → peers (half_of id) ≡ false → StreamState ≡ for_sender_of c id
  unfolding for_sender_of rule2
  not_opened h l p = rw (p, ne_eqb (half_of id) 2 h, le-leb _ _ l)

  pub passes : (half_of id ≡ 2 → ⊥) → ordinal_of id < count_of c (half_of id) → Accepted ≡ for_sender_of c id
  unfolding for_sender_of rule2
  passes h l = simp (ne_eqb (half_of id) 2 h, lt-leb _ _ l, and-false)
