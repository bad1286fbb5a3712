-- Packet numbers, RFC 9000 17.1, A.2 and A.3: what a truncated number stands for, and how many bytes to send.
use Rattle.std.specs.Prelude.{ℕ, zero, suc, ◌+◌, ◌-◌, ◌*◌, ◌/◌, ◌%◌, ◌^◌, ◌&&◌, ltb, leb, ℤ, pos, negsuc, Result, Ok, Err}
use Rattle.answers.specs.Choice.{◌⇒◌∣◌}
use Rattle.answers.specs.declared.Answer.TheVariants.{NoSuchNumber, AboveCeiling}
use Rattle.numbers.specs.declared.Size.{Size}
use Rattle.numbers.specs.declared.Size.TheVariants.{One, Two, Three, Four}
use Rattle.answers.specs.declared.Answer.{Answer}

-- a packet number has 1 to 4 bytes (17.1)
abbrev pub bytes_in : Size → ℕ
bytes_in One = 1
bytes_in Two = 2
bytes_in Three = 3
bytes_in Four = 4

-- how many truncated numbers there are of a size: A.3's pn_win, W below
abbrev pub window_of : Size → ℕ
window_of size = 256 ^ bytes_in size

-- the number that agrees with E above the truncated bits; of t itself only those bits count, as a header has no others
abbrev pub candidate_of : ℕ → ℕ → ℕ → ℕ
candidate_of E W t = E / W * W + t % W

-- A.3: add W if the candidate is at or below E - W/2 and below 2^62 - W; otherwise subtract W if it is above E + W/2 and at least W.
-- Differences may be negative, so sums are compared instead.
unfoldable pub nearest_of : ℕ → ℕ → ℕ → ℕ
nearest_of E W t =
    let c = candidate_of E W t in
    leb (c + W / 2) E && ltb (c + W) (2 ^ 62) ⇒ c + W
    ∣ ltb (E + W / 2) c && leb W c ⇒ c - W
    ∣ c

-- a result above 2^62-1 is 111
abbrev pub in_range : ℕ → Result ℕ Answer
in_range n =
    ltb n (2 ^ 62) ⇒ Ok n
    ∣ Err NoSuchNumber

-- what t stands for, with E one above the largest number recorded (0 if none)
unfoldable pub recovered_of : ℕ → Size → ℕ → Result ℕ Answer
recovered_of E size t = in_range (nearest_of E (window_of size) t)

-- no length is 103
abbrev pub none : Result Size Answer
none = Err AboveCeiling

-- 2(pn - acked), where next is one above acked
abbrev pub twice_of : ℕ → ℕ → ℕ
twice_of pn next = 2 * (pn + 1 - next)

-- A.2: the least n of 1 to 4 with 2(pn - acked) at most 256^n; none if there is none, pn is above 2^62-1, or acked is not below pn
unfoldable pub length_after : ℕ → ℕ → Result Size Answer
length_after pn next =
    leb (2 ^ 62) pn ⇒ none
    ∣ ltb pn next ⇒ none
    ∣ leb (twice_of pn next) (window_of One) ⇒ Ok One
    ∣ leb (twice_of pn next) (window_of Two) ⇒ Ok Two
    ∣ leb (twice_of pn next) (window_of Three) ⇒ Ok Three
    ∣ leb (twice_of pn next) (window_of Four) ⇒ Ok Four
    ∣ none

-- acked is -1 before any acknowledgement; one below -1 has no length
unfoldable pub length_of : ℕ → ℤ → Result Size Answer
length_of pn (pos a) = length_after pn (a + 1)
length_of pn (negsuc zero) = length_after pn 0
length_of pn (negsuc (suc k)) = none
