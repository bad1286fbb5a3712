-- A page as it fills: it stops where it is full, at the end of the payload or after as many rows as were asked for, and else goes on with one row more.
-- Assumes nothing.
use mathlib.Core.Path.{◌≡◌, refl, ◌∙◌, ap}
use mathlib.Core.Bool.{true, false, or-true}
use mathlib.Core.List.{List}
use Prim.Native.Nat.{ℕ, zero, suc, ◌-◌, ◌≤◌, ◌<◌}
use native.Mathlib.Omega.{arith}
use borrow.Author.Tests.{le-leb, lt-leb}
use lib.ListN.{length}
use Rattle.wire.specs.Writing.{Bytes, writes}
use Rattle.owned.specs.declared.Owned.{Owned}
use Rattle.steps.specs.declared.TookFrame.{TookFrame}
use Rattle.report.specs.Listing.{taken_row_of}
use Rattle.pages.specs.Pages.{taken_from, with_row, one_more_of, page_from}
use Rattle.pages.specs.declared.Page.{Page}
use Rattle.std.specs.Prelude.{Result}
use Rattle.answers.specs.declared.Answer.{Answer}

module _ (p : Page) (s out : List ℕ) where
  pub stops_full : (k : ℕ) → p.full ≡ true → page_from k p s out ≡ (p, out)
  unfolding page_from
  stops_full zero f = refl
  stops_full (suc k) f = rw f

  pub stops_end : (k : ℕ) → length s ≤ p.at → page_from k p s out ≡ (p, out)
  unfolding page_from
  stops_end zero h = refl
  stops_end (suc k) h = rw (le-leb (length s) p.at h, or-true)

  pub none_left : (k : ℕ) → k ≤ 0 → page_from k p s out ≡ (p, out)
  unfolding page_from
  none_left zero h = refl
  none_left (suc k) h = absurd (omega arith)

  pub goes_on : (k : ℕ) → 0 < k → p.full ≡ false → p.at < length s → {q : Page} {after : List ℕ} → (q, after) ≡ one_more_of p s out → page_from (k - 1) q s after ≡ page_from k p s out
  unfolding page_from
  goes_on zero h f l e = absurd (omega arith)
  goes_on (suc k) h f l e = let z : suc k - 1 ≡ k = omega arith in rw (← e, z, f, lt-leb (length s) p.at l) refl

  -- a row more, from what taking the frame and writing its row answered
  pub by_row : (taken : Owned TookFrame) → taken ≡ taken_from p s → {w : Result ℕ Answer} {after : List ℕ} → (w, after) ≡ writes (Bytes (taken_row_of p.at taken.told)) out p.used
      → {q : Page} → with_row p s taken w ≡ q → (q, after) ≡ one_more_of p s out
  unfolding one_more_of
  by_row taken e g f =
      rw (← f) (ap (λ (o : Result ℕ Answer × List ℕ). (with_row p s taken o.0, o.1)) g
      ∙ ap (λ (h : Owned TookFrame). let w = writes (Bytes (taken_row_of p.at h.told)) out p.used in (with_row p s h w.0, w.1)) e)
