-- What was read can be written: a line for each type says that taking its frame apart gives back what was read, but for a STREAM's type.
-- Assumes nothing.
use mathlib.Core.Path.{◌≡◌, refl, sym, ◌∙◌, ap, subst}
use mathlib.Core.Bool.{Bool, true, false, not, ◌&&◌, true≢false, and-eq-true_iff}
use mathlib.Core.List.{List, [], ◌∷◌}
use Prim.Native.Nat.{ℕ, suc, ◌+◌, ◌*◌, ◌-◌, ◌/◌, ◌%◌, ◌^◌, ◌≤◌, ◌<◌}
use native.Mathlib.Omega.{arith}
use borrow.Author.Tests.{leb-true, le-leb, ltb-false, not-true}
use lib.Dec.{ltb, leb, eqb}
use lib.ListN.{length, get_or}
use Rattle.answers.specs.Choice.{◌⇒◌∣◌}
use Rattle.answers.proofs.Choice.{holds, below_or_not}
use Rattle.answers.proofs.Distinct.{impossible}
use Rattle.wire.specs.Number.{number_at, with_number}
use Rattle.wire.proofs.Sound as number
use Rattle.row.specs.Row.{in_range}
use Rattle.ranges.specs.Ranges.{ranges_at}
use Rattle.ranges.specs.Listed.{listed, fits}
use Rattle.ranges.proofs.Listed.{read_fits}
use Rattle.layouts.specs.Layout.{layouts, layout_of, known}
use Rattle.fields.specs.Faults.{above_of, fault_of}
use Rattle.layouts.specs.Body.{with_body, optional_at, numbers_at, body_at, sized_at, counted_at, remainder_at, identity_at, ranged_at, are, holds_at}
use Rattle.frames.specs.Fields.{frame_of, read_as}
use Rattle.layouts.specs.declared.Numbers.{Numbers}
use Rattle.layouts.specs.declared.Tail.{Tail}
use Rattle.layouts.specs.declared.Tail.TheVariants.{Nothing, Counted, Remainder, Eight, Identity, Ranges}
use Rattle.layouts.specs.declared.Body.{Body}
use Rattle.fields.specs.declared.Parts.{Parts}
use Rattle.frames.specs.declared.Frame.{Frame}
use Rattle.frames.specs.declared.Frame.TheVariants.{Stream}
use Rattle.frames.specs.Reading.{any_frame_at}
use Rattle.frames.specs.Sound.{FieldsRead}
use Rattle.frames.proofs.Sound.{fields_got, any_got}
use Rattle.ranges.proofs.Sound.{with_ranges_law}
use Rattle.sizes.proofs.Bodies.{wholly}
use Rattle.sizes.proofs.Bounds.{identity_short}
use Rattle.contents.proofs.Taking.{fine}
use Rattle.contents.specs.Parts.{stream_type, way_type, holding_parts, parts_of}
use Rattle.contents.specs.Content.{body_of, token_inside, inside_of, content_of, contents}
use Rattle.contents.specs.Taken.{fitting, takes}
use Rattle.contents.specs.Again.{first, at_in, len_in, token_in, again}
use Rattle.std.specs.Prelude.{Option, Some, None}

-- a line for each number from k up to e
data Lines (Q : ℕ → Type 0) : ℕ → ℕ → Type 0 where
  done : {k : ℕ} → Lines Q k k
  ◌says◌and◌ : (k : ℕ) {e : ℕ} → Q k → Lines Q (suc k) e → Lines Q k e

infixr 5 ◌says◌and◌
line : {Q : ℕ → Type 0} {k e : ℕ} → Lines Q k e → (n : ℕ) → k ≤ n → n < e → Q n
line done n h i = absurd (omega arith)
line {Q} {k} (_ says q and qs) n h i = below_or_not k n (λ l. line qs n (omega arith) i) (λ l. subst Q {x = k} {y = n} (omega arith) q)

-- the same parts under another type
abbrev typed : ℕ → Parts → Parts
typed ty p = record { ty = ty; a = p.a; b = p.b; c = p.c; d = p.d; at = p.at; len = p.len; token = p.token; x = p.x; y = p.y; z = p.z }

-- the length of a tail's bytes that is no number on the wire is bounded by the rules of fields
abbrev Low : Tail → ℕ → Type 0
Low Nothing len = Unit
Low Counted len = Unit
Low Remainder len = len < 2 ^ 62
Low Eight len = Unit
Low Identity len = len < 2 ^ 62
Low Ranges len = Unit

abbrev Line : ℕ → Type 0
Line ty =
    eqb (ty / 8) 1 ≡ false → (p : Parts)
    → (parts_of (frame_of (again (typed ty p) p.at p.token)) ≡ again (typed ty p) p.at p.token)
    × ((a b len : ℕ) → fault_of ty a b len ≡ false → Low (layout_of ty).tail len)

lines : Lines Line 0 31
unfolding layouts layout_of frame_of fault_of way_type
lines =
    -- 0x00 PADDING to 0x07 NEW_TOKEN
    0x00 says (λ e p. (refl, λ a b len h. tt)) and
    0x01 says (λ e p. (refl, λ a b len h. tt)) and
    0x02 says (λ e p. (refl, λ a b len h. tt)) and
    0x03 says (λ e p. (refl, λ a b len h. tt)) and
    0x04 says (λ e p. (refl, λ a b len h. tt)) and
    0x05 says (λ e p. (refl, λ a b len h. tt)) and
    0x06 says (λ e p. (refl, λ a b len h. tt)) and
    0x07 says (λ e p. (refl, λ a b len h. tt)) and
    -- 0x08 to 0x0f STREAM
    0x08 says (λ e p. absurd (true≢false e)) and
    0x09 says (λ e p. absurd (true≢false e)) and
    0x0a says (λ e p. absurd (true≢false e)) and
    0x0b says (λ e p. absurd (true≢false e)) and
    0x0c says (λ e p. absurd (true≢false e)) and
    0x0d says (λ e p. absurd (true≢false e)) and
    0x0e says (λ e p. absurd (true≢false e)) and
    0x0f says (λ e p. absurd (true≢false e)) and
    -- 0x10 MAX_DATA to 0x17 STREAMS_BLOCKED
    0x10 says (λ e p. (refl, λ a b len h. tt)) and
    0x11 says (λ e p. (refl, λ a b len h. tt)) and
    0x12 says (λ e p. (refl, λ a b len h. tt)) and
    0x13 says (λ e p. (refl, λ a b len h. tt)) and
    0x14 says (λ e p. (refl, λ a b len h. tt)) and
    0x15 says (λ e p. (refl, λ a b len h. tt)) and
    0x16 says (λ e p. (refl, λ a b len h. tt)) and
    0x17 says (λ e p. (refl, λ a b len h. tt)) and
    -- 0x18 NEW_CONNECTION_ID
    0x18 says (λ e p. (refl, λ a b len h. omega (arith, identity_short a b len h))) and
    -- 0x19 RETIRE_CONNECTION_ID to 0x1e HANDSHAKE_DONE
    0x19 says (λ e p. (refl, λ a b len h. tt)) and
    0x1a says (λ e p. (refl, λ a b len h. tt)) and
    0x1b says (λ e p. (refl, λ a b len h. tt)) and
    0x1c says (λ e p. (refl, λ a b len h. tt)) and
    0x1d says (λ e p. (refl, λ a b len h. tt)) and
    0x1e says (λ e p. (refl, λ a b len h. tt)) and
    done

-- a number that was read, or was not there
record OneRead (s : List ℕ) (at : ℕ) (there : Bool) (v next : ℕ) : Type 0 where
  low : v < 2 ^ 62
  kept : (there ⇒ v ∣ 0) ≡ v
  within : at ≤ length s → next ≤ length s

one_read : (s : List ℕ) (at : ℕ) (there : Bool) {v next : ℕ} → optional_at s at there ≡ Some (v, next) → OneRead s at there v next
unfolding optional_at
one_read s at true e = let r = number.sound s at e in record { low = r.low; kept = refl; within = λ h. r.within }
one_read s at false {v} {next} e =
    let z : 0 ≡ v = ap (λ (m : Option (ℕ × ℕ)). with_number m 0 (λ v next. v)) e in
    let n : at ≡ next = ap (λ (m : Option (ℕ × ℕ)). with_number m 0 (λ v next. next)) e in
    record { low = omega arith; kept = z; within = λ h. omega arith }

-- four numbers that were read
record FourRead (s : List ℕ) (at n a b c d next : ℕ) : Type 0 where
  a_low : a < 2 ^ 62
  b_low : b < 2 ^ 62
  c_low : c < 2 ^ 62
  d_low : d < 2 ^ 62
  a_kept : first 0 n a ≡ a
  b_kept : first 1 n b ≡ b
  c_kept : first 2 n c ≡ c
  d_kept : first 3 n d ≡ d
  within : at ≤ length s → next ≤ length s

module _ (s : List ℕ) (at n : ℕ) where
  abbrev IfAre : Option Numbers → Type 0
  IfAre (Some n') = FourRead s at n n'.a n'.b n'.c n'.d n'.next
  IfAre None = Unit

  all_read : IfAre (numbers_at s at n)
  unfolding numbers_at
  all_read =
      number.with_number_law IfAre (optional_at s at (ltb 0 n)) None _ tt (λ a p e.
      number.with_number_law IfAre (optional_at s p (ltb 1 n)) None _ tt (λ b q f.
      number.with_number_law IfAre (optional_at s q (ltb 2 n)) None _ tt (λ c r g.
      number.with_number_law IfAre (optional_at s r (ltb 3 n)) None _ tt (λ d next h.
      let i = one_read s at (ltb 0 n) e in
      let j = one_read s p (ltb 1 n) f in
      let k = one_read s q (ltb 2 n) g in
      let l = one_read s r (ltb 3 n) h in
      record {
        a_low = i.low;
        b_low = j.low;
        c_low = k.low;
        d_low = l.low;
        a_kept = i.kept;
        b_kept = j.kept;
        c_kept = k.kept;
        d_kept = l.kept;
        within = λ w. l.within (k.within (j.within (i.within w)));
      }))))

  four_read : {a b c d next : ℕ} → numbers_at s at n ≡ are a b c d next → FourRead s at n a b c d next
  four_read e = subst IfAre e all_read

-- a body that was read: its places are those that its tail has, they lie inside, a length on the wire is in range, and its runs fit
record BodyRead (s : List ℕ) (tail : Tail) (p : Parts) : Type 0 where
  at_kept : at_in tail p.at ≡ p.at
  len_kept : len_in tail p.len ≡ p.len
  token_kept : token_in tail p.token ≡ p.token
  inside : inside_of (length s) tail p ≡ true
  low : Low tail p.len → p.len < 2 ^ 62
  runs : fitting tail p.a p.c p.d (body_of s tail p) ≡ true

-- two bodies that are one have the same places
held : {at len token next at₁ len₁ token₁ next₁ : ℕ} → holds_at at len token next ≡ holds_at at₁ len₁ token₁ next₁ → (at ≡ at₁) × (len ≡ len₁) × (token ≡ token₁)
held e = (
  ap (λ (b : Option Body). with_body b 0 (λ at len token next. at)) e,
  ap (λ (b : Option Body). with_body b 0 (λ at len token next. len)) e,
  ap (λ (b : Option Body). with_body b 0 (λ at len token next. token)) e,
)

wrong : {at len token next : ℕ} → None ≡ holds_at at len token next → ⊥
wrong e = impossible cc

module _ (s : List ℕ) (q : ℕ) (p : Parts) (next : ℕ) where
  abbrev found : Option Body
  found = holds_at p.at p.len p.token next

  sized : (at k : ℕ) → sized_at (length s) at k ≡ found → (p.at ≡ at) × (p.len ≡ k) × (p.token ≡ 0) × (at + k ≤ length s)
  unfolding sized_at
  sized at k =
      holds (λ (b : Option Body). b ≡ found → (p.at ≡ at) × (p.len ≡ k) × (p.token ≡ 0) × (at + k ≤ length s)) (ltb (length s) (at + k)) None _
      (λ e f. absurd (wrong f)) (λ e f. let h = held f in (sym h.0, sym h.1, sym h.2, ltb-false (length s) (at + k) e))

  counted : counted_at s q ≡ found → BodyRead s Counted p
  unfolding counted_at
  counted =
      number.with_number_law (λ (b : Option Body). b ≡ found → BodyRead s Counted p) (number_at s q) None _ (λ f. absurd (wrong f)) (λ k at e f.
      let r = sized at k f in
      record {
        at_kept = refl;
        len_kept = refl;
        token_kept = sym r.2;
        inside = wholly (length s) Counted p (omega (arith, r.0, r.1, r.3)) refl;
        low = λ h. omega (arith, (number.sound s q e).low, r.1);
        runs = refl;
      })

  remainder : remainder_at (length s) q ≡ found → BodyRead s Remainder p
  unfolding remainder_at
  remainder =
      holds (λ (b : Option Body). b ≡ found → BodyRead s Remainder p) (ltb (length s) q) None _ (λ e f. absurd (wrong f)) (λ e f.
      let h = held f in
      record {
        at_kept = refl;
        len_kept = refl;
        token_kept = h.2;
        inside = wholly (length s) Remainder p (omega (arith, h.0, h.1, ltb-false (length s) q e)) refl;
        low = λ h. h;
        runs = refl;
      })

  eight : sized_at (length s) q 8 ≡ found → BodyRead s Eight p
  eight f =
      let r = sized q 8 f in
      record {
        at_kept = refl;
        len_kept = sym r.1;
        token_kept = sym r.2;
        inside = wholly (length s) Eight p (omega (arith, r.0, r.1, r.3)) refl;
        low = λ h. omega (arith, r.1);
        runs = refl;
      }

  identity : identity_at s q ≡ found → BodyRead s Identity p
  unfolding identity_at
  identity =
      holds (λ (b : Option Body). b ≡ found → BodyRead s Identity p) (ltb (length s) (q + 1 + get_or s q 0 + 16)) None _ (λ e f. absurd (wrong f)) (λ e f.
      let b = held f in
      let h = ltb-false (length s) (q + 1 + get_or s q 0 + 16) e in
      record {
        at_kept = refl;
        len_kept = refl;
        token_kept = refl;
        inside = wholly (length s) Identity p (omega (arith, b.0, b.1, h)) (le-leb (p.token + 16) (length s) (omega (arith, b.2, h)));
        low = λ l. l;
        runs = refl;
      })

  ranged : q ≤ length s → ranged_at s q p.a p.c p.d ≡ found → BodyRead s Ranges p
  unfolding ranged_at
  ranged w =
      holds (λ (b : Option Body). b ≡ found → BodyRead s Ranges p) (ltb p.a p.d) None _ (λ e f. absurd (wrong f)) (λ e.
      with_ranges_law (λ (b : Option Body). b ≡ found → BodyRead s Ranges p) (ranges_at s p.c q (p.a - p.d)) None _ (λ f. absurd (wrong f)) (λ m g f.
      let b = held f in
      record {
        at_kept = refl;
        len_kept = b.1;
        token_kept = b.2;
        inside = wholly (length s) Ranges p (omega (arith, b.0, b.1)) refl;
        low = λ h. omega (arith, b.1);
        runs = rw (le-leb p.d p.a (ltb-false p.a p.d e)) (subst (λ (at : ℕ). fits (p.a - p.d) p.c (listed s at (2 * p.c)) ≡ true) b.0 (read_fits s p.c q (p.a - p.d) g));
      }))

body_read : (s : List ℕ) (q : ℕ) (tail : Tail) (p : Parts) (next : ℕ) → q ≤ length s → body_at s q tail p.a p.c p.d ≡ holds_at p.at p.len p.token next → BodyRead s tail p
body_read s q Nothing p next w e =
    let b = held e in
    record { at_kept = b.0; len_kept = b.1; token_kept = b.2; inside = wholly (length s) Nothing p (omega (arith, b.0, b.1)) refl; low = λ h. omega (arith, b.1); runs = refl }
body_read s q Counted p next w e = counted s q p next e
body_read s q Remainder p next w e = remainder s q p next e
body_read s q Eight p next w e = eight s q p next e
body_read s q Identity p next w e = identity s q p next e
body_read s q Ranges p next w e = ranged s q p next w e

eight_low : (a b c d x y z len : ℕ) → a < 2 ^ 62 → b < 2 ^ 62 → c < 2 ^ 62 → d < 2 ^ 62 → x < 2 ^ 62 → y < 2 ^ 62 → z < 2 ^ 62 → len < 2 ^ 62 → in_range (a ∷ b ∷ c ∷ d ∷ x ∷ y ∷ z ∷ len ∷ []) ≡ true
unfolding in_range
eight_low a b c d x y z len h i j k l m n o =
    rw (
      le-leb a (2 ^ 62 - 1) (omega arith),
      le-leb b (2 ^ 62 - 1) (omega arith),
      le-leb c (2 ^ 62 - 1) (omega arith),
      le-leb d (2 ^ 62 - 1) (omega arith),
      le-leb x (2 ^ 62 - 1) (omega arith),
      le-leb y (2 ^ 62 - 1) (omega arith),
      le-leb z (2 ^ 62 - 1) (omega arith),
      le-leb len (2 ^ 62 - 1) (omega arith),
    )

-- a STREAM frame is written under a type with LEN
with_len : (offset : ℕ) (fin : Bool) → ((layout_of (stream_type offset fin)).tail ≡ Counted) × (eqb (stream_type offset fin / 8) 1 ≡ true)
unfolding layouts layout_of stream_type
with_len offset fin = go (ltb 0 offset) fin
  where
    go : (far fin : Bool) → ((layout_of (far ⇒ (fin ⇒ 0x0f ∣ 0x0e) ∣ (fin ⇒ 0x0b ∣ 0x0a))).tail ≡ Counted) × (eqb ((far ⇒ (fin ⇒ 0x0f ∣ 0x0e) ∣ (fin ⇒ 0x0b ∣ 0x0a)) / 8) 1 ≡ true)
    go true true = (refl, refl)
    go true false = (refl, refl)
    go false true = (refl, refl)
    go false false = (refl, refl)

-- an end that is not above 2^62-1
end_low : (offset len : ℕ) → above_of offset len ≡ false → offset + len ≤ 2 ^ 62 - 1
unfolding above_of
end_low offset len e = ltb-false (2 ^ 62 - 1) (offset + len) e

stream : (t : List ℕ) (id offset : ℕ) (fin : Bool) (at len : ℕ) → id < 2 ^ 62 → at + len ≤ length t → above_of offset len ≡ false → takes (contents t (Stream id offset fin at len)) ≡ true
unfolding fault_of
stream t id offset fin at len h w a =
    let l = with_len offset fin in
    let p = holding_parts (stream_type offset fin) id offset at len in
    let s = end_low offset len a in
    fine (content_of t p) (rw l.0 (wholly (length t) Counted p w refl))
    (eight_low id offset 0 0 0 0 0 len h (omega arith) (omega arith) (omega arith) (omega arith) (omega arith) (omega arith) (omega arith))
    (rw l.1 a)
    ∙ rw l.0 refl

module _ (t : List ℕ) (at ty : ℕ) (f : Frame) (n : ℕ) (w : at ≤ length t) (k : known ty ≡ true) (r : FieldsRead t at ty f ty n) where
  abbrev got : Parts
  got = record { ty = ty; a = r.a; b = r.b; c = r.c; d = r.d; at = r.start; len = r.len; token = r.token; x = r.x; y = r.y; z = r.z }

  before : FourRead t at (layout_of ty).numbers r.a r.b r.c r.d r.p
  before = four_read t at (layout_of ty).numbers r.numbers

  behind : FourRead t r.q (layout_of ty).after r.x r.y r.z r.rest n
  behind = four_read t r.q (layout_of ty).after r.after

  body : BodyRead t (layout_of ty).tail got
  body = body_read t r.p (layout_of ty).tail got r.q (before.within w) r.body

  normal : again got r.start r.token ≡ got
  normal = λ i. record {
    ty = ty;
    a = before.a_kept i;
    b = before.b_kept i;
    c = before.c_kept i;
    d = before.d_kept i;
    at = body.at_kept i;
    len = body.len_kept i;
    token = body.token_kept i;
    x = behind.a_kept i;
    y = behind.b_kept i;
    z = behind.c_kept i;
  }

  plain : eqb (ty / 8) 1 ≡ false → takes (contents t f) ≡ true
  unfolding known
  plain e =
      let l = line lines ty (omega arith) (omega (arith, leb-true ty 30 k)) e got in
      let same : parts_of f ≡ got = ap parts_of r.made ∙ subst (λ (p : Parts). parts_of (frame_of p) ≡ p) normal l.0 in
      subst (λ (p : Parts). takes (content_of t p) ≡ true) (sym same)
      (fine (content_of t got) body.inside
      (eight_low r.a r.b r.c r.d r.x r.y r.z r.len before.a_low before.b_low before.c_low before.d_low behind.a_low behind.b_low behind.c_low (body.low (l.1 r.a r.b r.len r.right)))
      r.right ∙ body.runs)

  -- a STREAM frame of any type says the same as one with LEN
  streamed : eqb (ty / 8) 1 ≡ true → takes (contents t f) ≡ true
  unfolding frame_of fault_of inside_of
  streamed e =
      let s : f ≡ Stream r.a r.b (eqb (ty % 2) 1) r.start r.len = r.made ∙ rw e in
      let i = (and-eq-true_iff (leb (r.start + r.len) (length t)) (token_inside (length t) (layout_of ty).tail got)).0 body.inside in
      let a : above_of r.b r.len ≡ false = rw e at r.right in
      rw s (stream t r.a r.b (eqb (ty % 2) 1) r.start r.len before.a_low (leb-true (r.start + r.len) (length t) i.0) a)

  fields_taken : takes (contents t f) ≡ true
  fields_taken = either (eqb (ty / 8) 1) refl
    where
      either : (b : Bool) → eqb (ty / 8) 1 ≡ b → takes (contents t f) ≡ true
      either true = streamed
      either false = plain

-- every frame that was read can be written
pub read_taken : (t : List ℕ) (at : ℕ) {f : Frame} {ty n : ℕ} → any_frame_at t at ≡ read_as f ty n → takes (contents t f) ≡ true
read_taken t at {f} {ty} {n} e =
    let g = any_got t at e in
    fields_taken t g.0 ty f n (number.sound t at g.1).within g.3 (fields_got t g.0 ty g.4)

-- so the end of a STREAM frame that was read is not above 2^62-1
pub stream_end : (t : List ℕ) (at : ℕ) {id offset place len ty n : ℕ} {fin : Bool} → any_frame_at t at ≡ read_as (Stream id offset fin place len) ty n → offset + len ≤ 2 ^ 62 - 1
unfolding takes fault_of
stream_end t at {id} {offset} {place} {len} {ty} {n} {fin} e =
    let f = contents t (Stream id offset fin place len) in
    let low = f.inside && in_range (f.a ∷ f.b ∷ f.c ∷ f.d ∷ f.x ∷ f.y ∷ f.z ∷ f.len ∷ []) in
    let right = not (fault_of f.ty f.a f.b f.len) in
    let a = (and-eq-true_iff (low && right) (fitting (layout_of f.ty).tail f.a f.c f.d f.body)).0 (read_taken t at e) in
    let b = (and-eq-true_iff low right).0 a.0 in
    let g : fault_of (stream_type offset fin) id offset len ≡ false = not-true _ b.1 in
    end_low offset len (rw (with_len offset fin).1 at g)
