-- Each accepted frame ends above its place and within the bytes, so as many frames as there are bytes reach their end; and what stops the walk before it is refused or closes the connection.
-- Assumes nothing.
use Prim.Native.Nat.{ℕ, zero, suc, ◌+◌, ◌-◌, ◌≤◌}
use mathlib.Core.Path.{◌≡◌, refl, sym, ◌∙◌, ap}
use mathlib.Core.Bool.{Bool, true, false, not}
use mathlib.Core.List.{List}
use native.Mathlib.Omega.{arith}
use lib.ListN.{length}
use lib.Dec.{leb}
use borrow.Author.Tests.{not-true, not-false, leb-true}
use Rattle.answers.specs.Answers.{accepts}
use Rattle.answers.proofs.Choice.{holds}
use Rattle.kinds.specs.declared.Kind.{Kind}
use Rattle.frames.proofs.Sound.{sound}
use Rattle.streams.specs.Conn.{is_open}
use Rattle.packets.specs.declared.Begun.{Begun}
use Rattle.receive.specs.Taking.{begun_of}
use Rattle.accounts.specs.History.{State}
use Rattle.accounts.proofs.Tests.{not_both}
use Rattle.answers.proofs.Accepts.{accepts_true}
use Rattle.demands.specs.Hosts.{Act, answered, acted, place_told, kept}
use Rattle.demands.specs.Hosts.Act.{TakeFrame, TakePacket}
use Rattle.demands.specs.Heard.{Run, next_shown, shown_by, one_by_one, calls_of}
use Rattle.demands.proofs.Frames.{Live}
use Rattle.demands.proofs.OneByOne.{is_live, is_frames, frames_are, header_refused, still_live, whole_is, next_shown_law}
use Rattle.hosts.specs.Whole.{WalkedWhole}
use Rattle.arrivals.proofs.Expected.{expected}

-- ---- frames one by one

abbrev Ends : List ℕ → State → Run → Type 0
Ends s h r = accepts r.answer ≡ true → is_open (kept h (calls_of r)).conn.mark ≡ true → r.place ≡ length s

to_end : (k : ℕ) (h : State) → Live h → (s : List ℕ) (at : ℕ) (kind : Kind) → at ≤ length s → length s ≤ k + at → Ends s h (one_by_one k h s at kind)
unfolding one_by_one kept
to_end zero h v s at kind l m = λ a p. omega arith
to_end (suc k) h v s at kind l m =
    holds (Ends s h) (leb (length s) at) _ _ (λ e a p. omega (arith, leb-true (length s) at e)) (λ e.
    holds (Ends s h) (not (accepts (answered h x))) _ _ (λ c a p. absurd (not_both _ a (not-true _ c))) (λ c.
    holds After (not (is_open (acted h x).conn.mark)) _ _ (λ o a p. absurd (not_both _ p (not-true _ o))) (λ o a p.
    let b = not-false _ c in
    let w = whole_is h v s at kind b in
    let q = sound h.conn.role s at kind w.reads in
    let n = next_shown_law h v s at kind b in
    to_end k (acted h x) (still_live h v s at kind b (not-false _ o)) s (next_shown at (shown_by h s at kind)) kind (omega (arith, n, q.within)) (omega (arith, n, q.above)) a p)))
  where
    x : Act
    x = TakeFrame s at kind

    After : Run → Type 0
    After r = accepts r.answer ≡ true → is_open (kept (acted h x) (calls_of r)).conn.mark ≡ true → r.place ≡ length s

-- ---- a packet

pub walked_whole : WalkedWhole
walked_whole h rs first s four = record {
  to_the_end = λ a p. go (accepts g.answer) refl a p;
  none_walked = λ a. (header_refused h rs first s a).place;
  none_answered = λ a. (header_refused h rs first s a).answer;
  none_left = λ a. (header_refused h rs first s a).left;
  none_recorded = λ a. (header_refused h rs first s a).records;
}
  where
    g : Begun
    g = begun_of h.conn rs h.table first s

    begins_within : accepts g.answer ≡ true → g.at ≤ length s
    begins_within b = let n = expected h.conn rs _ first s (accepts_true _ b) in omega (arith, n.there, n.behind)

    go : (b : Bool) → accepts g.answer ≡ b → accepts (answered h (TakePacket rs first s)) ≡ true → is_open (acted h (TakePacket rs first s)).conn.mark ≡ true → place_told h rs first s ≡ length s
    go true b a p =
        let f = is_frames h rs first s four b in
        let r = frames_are h rs first s four b in
        f.place ∙ ap (λ (y : Run). y.place) r
        ∙ to_end (length s - g.at) h (is_live h rs first s four b) s g.at g.kind (begins_within b) (omega arith)
        (ap (λ (y : Run). accepts y.answer) (sym r) ∙ ap accepts (sym f.answer) ∙ a)
        (ap (λ (y : Run). is_open (kept h (calls_of y)).conn.mark) (sym r) ∙ ap (λ (y : State). is_open y.conn.mark) (sym f.state) ∙ p)
    go false b a p = absurd (not_both _ a (ap accepts (header_refused h rs first s b).answer ∙ b))
