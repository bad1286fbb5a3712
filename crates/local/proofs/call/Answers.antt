-- `local::call` meets its contract: 120 changes nothing; else the entry that the call looks at is taken out, judged and put back.
use Prim.Native.Nat.{ℕ, ◌<◌}
use native.Mathlib.Omega.{arith}
use mathlib.Core.Path.{◌≡◌, refl, sym, ◌∙◌}
use mathlib.Core.Bool.{true}
use mathlib.Core.List.{List}
use lib.ListN.{length, get_or, set}
use Rattle.std.proofs.lemmas.List.{get_or_default}
use Rattle.streams.specs.declared.Conn.{Conn}
use Rattle.entries.specs.declared.Entry.{Entry}
use Rattle.entries.specs.Entry.{fresh}
use Rattle.calls.specs.declared.Call.{Call}
use Rattle.calls.specs.Calls.{stream_in, seated_call}
use Rattle.replies.specs.declared.Replied.{Replied}
use Rattle.replies.specs.Replies.{replied_of}
use Rattle.limits.specs.Fits.{fits}
use Rattle.local.specs.Calling.{called_at, called_table, call_place}
use Rattle.tables.proofs.Long.{fits_long, place_within}
use Rattle.local.proofs.call.Goals as goal

-- the entry that a call looks at is there
inside : (c : Conn) (t : List Entry) (call : Call) (i : ℕ) → i ≡ call_place c call → fits c t ≡ true → i < length t
inside c t call i e f = omega (arith, e, place_within (stream_in (seated_call c.role call)), fits_long c t f)

-- what is judged with that entry is what the definition says
judged : (c : Conn) (t : List Entry) (call : Call) (i : ℕ) (d : Entry) (j : Replied) → i ≡ call_place c call → fits c t ≡ true → i < length t → j ≡ replied_of c (get_or t i d) call
    → (j.called ≡ called_at c t call) × (set t i j.entry ≡ called_table c t call)
unfolding called_at called_table
judged c t call i d j e f l h = rw (h, get_or_default t i d (fresh 0) l, e, f) (refl, refl)

pub returns-then-not-fits : goal.returns-then-not-fits
unfolding called_at called_table
returns-then-not-fits c = rw (sym c.fits.ensures ∙ c.if-not-fits.true) (refl, refl)

pub offset_bounds-t-i : goal.offset_bounds-t-i
offset_bounds-t-i c = omega (arith, c.place-i.ensures, place_within (stream_in (seated_call c.args.c.role c.args.call)))

pub slice_copy_out-judge : goal.slice_copy_out-judge
slice_copy_out-judge c = inside c.args.c c.args.t.now c.args.call c.place-i.result c.place-i.ensures (sym c.fits.ensures ∙ c.if-not-fits.false)

pub offset_bounds-t-i-2 : goal.offset_bounds-t-i-2
offset_bounds-t-i-2 c = omega (arith, c.place-i.ensures, place_within (stream_in (seated_call c.args.c.role c.args.call)))

pub bounds-t-i : goal.bounds-t-i
bounds-t-i c = inside c.args.c c.args.t.now c.args.call c.place-i.result c.place-i.ensures (sym c.fits.ensures ∙ c.if-not-fits.false)

pub returns : goal.returns
returns c =
    let f : fits c.args.c c.args.t.now ≡ true = sym c.fits.ensures ∙ c.if-not-fits.false in
    judged c.args.c c.args.t.now c.args.call c.place-i.result _ c.judge-j.result c.place-i.ensures f (inside c.args.c c.args.t.now c.args.call c.place-i.result c.place-i.ensures f) c.judge-j.ensures
