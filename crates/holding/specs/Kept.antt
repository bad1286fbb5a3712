-- What a frame's bytes are answered and leave, and what a read hands over, docs/RULES.md, "Ordered bytes": what is held is that of `clashes` `Held`.
use Rattle.std.specs.Prelude.{ℕ, ◌+◌, ◌-◌, max, Bool, not, ◌&&◌, List, length, ltb, leb, eqb, Option, Some, None, Result, Ok, Err}
use Rattle.std.proofs.lemmas.List.Edits.{sets}
use Rattle.answers.specs.Choice.{◌⇒◌∣◌}
use Rattle.places.specs.Places.{marked, run_of}
use Rattle.seams.specs.Seam.{read_of}
use Rattle.clashes.specs.Held.{held_at, clash_of, room_for}
use Rattle.keeping.specs.After.{ring_after, marks_after}
use Rattle.holding.specs.declared.OfferError.{OfferError}
use Rattle.holding.specs.declared.OfferError.TheVariants.{Outside, Contradicts}

-- the answer to a frame
unfoldable pub offered_of : List ℕ → List ℕ → ℕ → ℕ → List ℕ → ℕ → ℕ → ℕ → Result ℕ OfferError
offered_of ring marks read held s from len offset =
    not (room_for ring marks read held s from len offset) ⇒ Err Outside
    ∣ clash_of (held_at ring marks read held) s from len offset ⇒ Err Contradicts
    ∣ Ok (max held (offset + len))

-- it is kept where it fits and contradicts nothing that is held
unfoldable pub keeps : List ℕ → List ℕ → ℕ → ℕ → List ℕ → ℕ → ℕ → ℕ → Bool
keeps ring marks read held s from len offset = room_for ring marks read held s from len offset && not (clash_of (held_at ring marks read held) s from len offset)

-- the ring and the marks after it: a refusal leaves both
unfoldable pub ring_kept : List ℕ → List ℕ → ℕ → ℕ → List ℕ → ℕ → ℕ → ℕ → List ℕ
ring_kept ring marks read held s from len offset =
    keeps ring marks read held s from len offset ⇒ ring_after ring read s from len offset
    ∣ ring

unfoldable pub marks_kept : List ℕ → List ℕ → ℕ → ℕ → List ℕ → ℕ → ℕ → ℕ → List ℕ
marks_kept ring marks read held s from len offset =
    keeps ring marks read held s from len offset ⇒ marks_after marks read held len offset
    ∣ marks

-- 4,096 bytes and 64 words, of which no place above the ring is held
unfoldable pub can_hand : List ℕ → List ℕ → ℕ → ℕ → Bool
can_hand ring marks read held = eqb (length ring) 4096 && (eqb (length marks) 64 && leb held (read + 4096))

-- the answer to a read with so much room: the longest run of held bytes, all or none
unfoldable pub handed_of : List ℕ → List ℕ → ℕ → ℕ → ℕ → Option ℕ
handed_of ring marks read held room =
    not (can_hand ring marks read held) ⇒ Some 0
    ∣ ltb room (run_of (marked marks) read (held - read)) ⇒ None
    ∣ Some (run_of (marked marks) read (held - read))

-- the output with what is handed over at its front
unfoldable pub front_of : List ℕ → ℕ → List ℕ → Option ℕ → List ℕ
front_of ring read out None = out
front_of ring read out (Some n) = sets out 0 (read_of ring read n)

unfoldable pub handed_out : List ℕ → List ℕ → ℕ → ℕ → List ℕ → List ℕ
handed_out ring marks read held out = front_of ring read out (handed_of ring marks read held (length out))
