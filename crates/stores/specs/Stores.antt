-- The stores of all streams, docs/RULES.md, "Ordered bytes": 4,096 bytes and 64 words of marks for each of 192, one stream after the other.
-- What is offered to the stream at a place, and what is read of it, is that of one stream on its part; the other parts are as they were.
use Rattle.std.specs.Prelude.{ℕ, ◌*◌, Bool, ◌&&◌, List, ◌++◌, length, take, drop, ltb, eqb, Option, Some, Result, Err}
use Rattle.answers.specs.Choice.{◌⇒◌∣◌}
use Rattle.holding.specs.Kept.{offered_of, ring_kept, marks_kept, handed_of, handed_out}
use Rattle.holding.specs.declared.OfferError.{OfferError}
use Rattle.holding.specs.declared.OfferError.TheVariants.{Outside}

-- the n elements of the stream at a place
unfoldable pub part_of : ℕ → List ℕ → ℕ → List ℕ
part_of n xs place = take n (drop (place * n) xs)

-- all elements, with those of the stream at a place replaced
unfoldable pub with_part : ℕ → List ℕ → ℕ → List ℕ → List ℕ
with_part n xs place ys = take (place * n) xs ++ (ys ++ drop n (drop (place * n) xs))

-- the bytes and the words of 192 streams, and the place of one
unfoldable pub stores_fit : List ℕ → List ℕ → ℕ → Bool
stores_fit rings marks place = eqb (length rings) 786432 && (eqb (length marks) 12288 && ltb place 192)

-- the answer to a frame for the stream at a place
unfoldable pub offered_in : List ℕ → List ℕ → ℕ → ℕ → ℕ → List ℕ → ℕ → ℕ → ℕ → Result ℕ OfferError
offered_in rings marks place read held s from len offset =
    stores_fit rings marks place ⇒ offered_of (part_of 4096 rings place) (part_of 64 marks place) read held s from len offset
    ∣ Err Outside

-- the bytes and the marks of all streams after it
unfoldable pub rings_kept : List ℕ → List ℕ → ℕ → ℕ → ℕ → List ℕ → ℕ → ℕ → ℕ → List ℕ
rings_kept rings marks place read held s from len offset =
    stores_fit rings marks place ⇒ with_part 4096 rings place (ring_kept (part_of 4096 rings place) (part_of 64 marks place) read held s from len offset)
    ∣ rings

unfoldable pub marks_kept_in : List ℕ → List ℕ → ℕ → ℕ → ℕ → List ℕ → ℕ → ℕ → ℕ → List ℕ
marks_kept_in rings marks place read held s from len offset =
    stores_fit rings marks place ⇒ with_part 64 marks place (marks_kept (part_of 4096 rings place) (part_of 64 marks place) read held s from len offset)
    ∣ marks

-- the answer to a read of the stream at a place, and the output after it
unfoldable pub handed_in : List ℕ → List ℕ → ℕ → ℕ → ℕ → List ℕ → Option ℕ
handed_in rings marks place read held out =
    stores_fit rings marks place ⇒ handed_of (part_of 4096 rings place) (part_of 64 marks place) read held (length out)
    ∣ Some 0

unfoldable pub handed_out_in : List ℕ → List ℕ → ℕ → ℕ → ℕ → List ℕ → List ℕ
handed_out_in rings marks place read held out =
    stores_fit rings marks place ⇒ handed_out (part_of 4096 rings place) (part_of 64 marks place) read held out
    ∣ out
