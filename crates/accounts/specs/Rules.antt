-- docs/RULES.md, "Streams and credit": rules 1 to 5 and those of the frames that name a stream without an end, at their borders: each rule alone from both sides, and each before the next where both refuse. Beside each, its sentence.
use Rattle.std.specs.Prelude.{ℕ, ◌-◌, ◌^◌, ◌≡◌, Bool, true, false, List, [], ◌∷◌, map, Some, None}
use Rattle.kinds.specs.declared.Role.TheVariants.{Server}
use Rattle.answers.specs.Answers.{number_of}
use Rattle.kinds.specs.declared.Kind.TheVariants.{OneRtt}
use Rattle.frames.specs.declared.Frame.TheVariants.{ResetStream}
use Rattle.streams.specs.declared.Conn.{Conn}
use Rattle.streams.specs.declared.Mark.TheVariants.{Open}
use Rattle.kinds.specs.declared.Space.TheVariants.{Initial, Handshake, Application}
use Rattle.entries.specs.declared.Entry.{Entry}
use Rattle.entries.specs.Entry.{final_of, fresh}
use Rattle.rules.specs.declared.View.TheVariants.{Ends, Blocks, ForSender, Acks}
use Rattle.views.specs.View.{view_of}
use Rattle.rules.specs.Rules.{rule3, rule5}
use Rattle.verdicts.specs.Verdict.{verdict_of}
use Rattle.accounts.specs.Borders.{limits, held, entry, growing, heard}

-- the answers to some ends of stream 0, with FIN or without
abbrev pub ending : Conn → Entry → Bool → List ℕ → List ℕ
ending c e fin l = map (λ end. number_of (verdict_of c e (Ends 0 end fin))) l

-- the answers to resets of stream 0 at some final sizes
abbrev pub resetting : Conn → Entry → List ℕ → List ℕ
resetting c e l = map (λ size. number_of (verdict_of c e (view_of Server OneRtt (ResetStream 0 1 size)))) l

-- the answers to one end on some streams
abbrev pub ending_on : Conn → Entry → ℕ → Bool → List ℕ → List ℕ
ending_on c e end fin l = map (λ id. number_of (verdict_of c e (Ends id end fin))) l

-- all 64 streams of each type open
abbrev pub most : Conn
most = record { limits = limits 40 64 64 16 16 16; opened = 64 ∷ 64 ∷ 64 ∷ 64 ∷ []; total = 0; next = 0 ∷ 0 ∷ 0 ∷ []; mark = Open; role = Server }

pub record Rules : Type 0 where
  -- 1. "type 3, or type 1 not opened by us: 5": of type 1 two are open here, and of type 3 two
  pub first_rule : ending_on (held 0 2 0 2 0 Open) (fresh 16) 1 false (1 ∷ 5 ∷ 9 ∷ 3 ∷ 7 ∷ 11 ∷ []) ≡ 0 ∷ 0 ∷ 5 ∷ 5 ∷ 5 ∷ 5 ∷ []
  -- 2. "type 0 or 2, ordinal not below the advertised count: 4": the counts are 3 and 5, and how many are open does not matter
  pub second_rule : ending_on (held 0 2 0 2 0 Open) (fresh 16) 1 false (0 ∷ 8 ∷ 12 ∷ 16 ∷ 2 ∷ 14 ∷ 18 ∷ 22 ∷ []) ≡ 0 ∷ 0 ∷ 4 ∷ 4 ∷ 0 ∷ 0 ∷ 0 ∷ 4 ∷ []
  pub second_rule_open : ending_on (held 3 2 5 2 0 Open) (fresh 16) 1 false (8 ∷ 12 ∷ 18 ∷ 22 ∷ []) ≡ 0 ∷ 4 ∷ 0 ∷ 4 ∷ []
  -- .. and a count of 0 allows none
  pub no_streams : ending_on (record { limits = limits 40 0 0 16 16 16; opened = 0 ∷ 0 ∷ 0 ∷ 0 ∷ []; total = 0; next = 0 ∷ 0 ∷ 0 ∷ []; mark = Open; role = Server }) (fresh 16) 0 false (0 ∷ 1 ∷ 2 ∷ 3 ∷ []) ≡ 4 ∷ 5 ∷ 4 ∷ 5 ∷ []
  -- "ordinals 0 to 63": the last stream of each type and the one above it, and the highest ID of each type
  pub last_ordinals : ending_on most (fresh 16) 1 false (252 ∷ 256 ∷ 253 ∷ 257 ∷ 254 ∷ 258 ∷ 255 ∷ 259 ∷ []) ≡ 0 ∷ 4 ∷ 0 ∷ 5 ∷ 0 ∷ 4 ∷ 5 ∷ 5 ∷ []
  pub last_ids : ending_on most (fresh 16) 1 false ((2 ^ 62 - 4) ∷ (2 ^ 62 - 3) ∷ (2 ^ 62 - 2) ∷ (2 ^ 62 - 1) ∷ []) ≡ 4 ∷ 5 ∷ 4 ∷ 5 ∷ []
  -- a size that no stream can have stands for none; a known one may be 0
  pub sizes : map final_of (0 ∷ 10 ∷ (2 ^ 62 - 1) ∷ (2 ^ 64 - 2) ∷ (2 ^ 64 - 1) ∷ []) ≡ Some 0 ∷ Some 10 ∷ Some (2 ^ 62 - 1) ∷ Some (2 ^ 64 - 2) ∷ None ∷ []
  -- 3. "final size known and end above it" ..
  pub after_final : ending (held 3 0 0 0 10 Open) (entry 16 10 10) false (0 ∷ 5 ∷ 10 ∷ 11 ∷ []) ≡ 0 ∷ 0 ∷ 0 ∷ 6 ∷ []
  -- .. "or FIN with another end" ..
  pub another_final : ending (held 3 0 0 0 10 Open) (entry 16 10 10) true (0 ∷ 9 ∷ 10 ∷ 11 ∷ []) ≡ 6 ∷ 6 ∷ 0 ∷ 6 ∷ []
  -- .. "or FIN below the furthest end: 6"
  pub final_below : ending (held 3 0 0 0 10 Open) (growing 16 10) true (0 ∷ 9 ∷ 10 ∷ 11 ∷ 16 ∷ []) ≡ 6 ∷ 6 ∷ 0 ∷ 0 ∷ 0 ∷ []
  -- without FIN and without a known final size it refuses no end
  pub never_final : ending (held 3 0 0 0 10 Open) (growing 16 10) false (0 ∷ 9 ∷ 10 ∷ 11 ∷ 16 ∷ []) ≡ 0 ∷ 0 ∷ 0 ∷ 0 ∷ 0 ∷ []
  pub any_end : map (λ end. rule3 None 10 end false) (0 ∷ 9 ∷ 10 ∷ 11 ∷ (2 ^ 62 - 1) ∷ []) ≡ false ∷ false ∷ false ∷ false ∷ false ∷ []
  -- each arm alone: an end above the known size; FIN with another end, where less has come; FIN below what has come
  pub third_rule : map (λ end. rule3 (Some 10) 4 end false) (3 ∷ 4 ∷ 10 ∷ 11 ∷ []) ≡ false ∷ false ∷ false ∷ true ∷ []
  pub third_rule_final : map (λ end. rule3 (Some 10) 4 end true) (3 ∷ 4 ∷ 9 ∷ 10 ∷ 11 ∷ []) ≡ true ∷ true ∷ true ∷ false ∷ true ∷ []
  pub third_rule_unknown : map (λ end. rule3 None 4 end true) (3 ∷ 4 ∷ 5 ∷ []) ≡ true ∷ false ∷ false ∷ []
  -- a stream that ended with nothing
  pub ended_empty : ending (held 3 0 0 0 0 Open) (entry 16 0 0) false (0 ∷ 1 ∷ []) ≡ 0 ∷ 6 ∷ []
  pub ended_empty_final : ending (held 3 0 0 0 0 Open) (entry 16 0 0) true (0 ∷ 1 ∷ []) ≡ 0 ∷ 6 ∷ []
  -- 4. "end above the stream's credit: 3", alone: the connection credit 40 would allow each; the credit is the entry's, which may have been raised
  pub fourth_rule : ending (held 0 0 0 0 0 Open) (fresh 16) false (0 ∷ 15 ∷ 16 ∷ 17 ∷ 40 ∷ []) ≡ 0 ∷ 0 ∷ 0 ∷ 3 ∷ 3 ∷ []
  pub fourth_rule_raised : ending (held 1 0 0 0 0 Open) (fresh 20) true (16 ∷ 17 ∷ 20 ∷ 21 ∷ []) ≡ 0 ∷ 0 ∷ 0 ∷ 3 ∷ []
  -- 5. "total plus growth of the furthest end above the connection credit: 3", alone: the stream credit 16 would allow each; from 4 to 14 the growth is 10
  pub fifth_rule : ending (held 1 0 0 0 30 Open) (growing 16 4) false (4 ∷ 13 ∷ 14 ∷ 15 ∷ 16 ∷ []) ≡ 0 ∷ 0 ∷ 0 ∷ 3 ∷ 3 ∷ []
  pub fifth_rule_alone : map (λ total. map (rule5 40 total 6) (0 ∷ 6 ∷ 7 ∷ 8 ∷ [])) (39 ∷ 40 ∷ 41 ∷ []) ≡ (false ∷ false ∷ false ∷ true ∷ []) ∷ (false ∷ false ∷ true ∷ true ∷ []) ∷ (true ∷ true ∷ true ∷ true ∷ []) ∷ []
  -- .. and an end that brings no growth passes where nothing is left
  pub no_growth : ending (held 1 0 0 0 40 Open) (growing 16 4) false (0 ∷ 3 ∷ 4 ∷ 5 ∷ []) ≡ 0 ∷ 0 ∷ 0 ∷ 3 ∷ []
  pub no_growth_final : ending (held 1 0 0 0 40 Open) (growing 16 4) true (3 ∷ 4 ∷ 5 ∷ []) ≡ 6 ∷ 0 ∷ 3 ∷ []
  -- "in this order": an end that rules 3, 4 and 5 each refuse, on streams of type 3, of type 1 not open, above the counts of types 0 and 2, and on one that rules 1 and 2 pass ..
  pub before_all : ending_on (held 1 1 1 1 30 Open) (entry 16 10 10) 51 false (3 ∷ 7 ∷ 5 ∷ 12 ∷ 22 ∷ 0 ∷ []) ≡ 5 ∷ 5 ∷ 5 ∷ 4 ∷ 4 ∷ 6 ∷ []
  -- .. one that rule 3 alone refuses ..
  pub before_third : ending_on (held 1 1 1 1 10 Open) (entry 16 10 10) 9 true (3 ∷ 7 ∷ 5 ∷ 12 ∷ 22 ∷ 0 ∷ []) ≡ 5 ∷ 5 ∷ 5 ∷ 4 ∷ 4 ∷ 6 ∷ []
  -- .. rule 4 alone ..
  pub before_fourth : ending_on (held 1 1 1 1 0 Open) (fresh 16) 17 false (3 ∷ 7 ∷ 5 ∷ 12 ∷ 22 ∷ 0 ∷ []) ≡ 5 ∷ 5 ∷ 5 ∷ 4 ∷ 4 ∷ 3 ∷ []
  -- .. and rule 5 alone
  pub before_fifth : ending_on (held 1 1 1 1 30 Open) (fresh 16) 11 false (3 ∷ 7 ∷ 5 ∷ 12 ∷ 22 ∷ 0 ∷ []) ≡ 5 ∷ 5 ∷ 5 ∷ 4 ∷ 4 ∷ 3 ∷ []
  -- rule 3 before 4, and before 5; rules 4 and 5 give the same number, so that their order does not show
  pub third_before_fourth : ending (held 1 0 0 0 10 Open) (entry 16 10 10) false (16 ∷ 17 ∷ []) ≡ 6 ∷ 6 ∷ []
  pub third_before_fifth : ending (held 1 0 0 0 40 Open) (entry 16 10 10) true (9 ∷ 10 ∷ 11 ∷ []) ≡ 6 ∷ 0 ∷ 6 ∷ []
  -- "RESET_STREAM: the same, its final size taken as an end with FIN": rules 3, 4 and 5 ..
  pub resets : resetting (held 1 0 0 0 10 Open) (growing 16 10) (9 ∷ 10 ∷ 16 ∷ 17 ∷ []) ≡ 6 ∷ 0 ∷ 0 ∷ 3 ∷ []
  pub resets_again : resetting (held 1 0 0 0 10 Open) (entry 16 10 10) (9 ∷ 10 ∷ 11 ∷ []) ≡ 6 ∷ 0 ∷ 6 ∷ []
  pub resets_growth : resetting (held 1 0 0 0 38 Open) (growing 16 10) (12 ∷ 13 ∷ []) ≡ 0 ∷ 3 ∷ []
  -- .. and rules 1 and 2
  pub resets_others : map (λ id. number_of (verdict_of (held 1 1 1 1 10 Open) (growing 16 10) (view_of Server OneRtt (ResetStream id 1 9)))) (3 ∷ 1 ∷ 5 ∷ 8 ∷ 12 ∷ 18 ∷ 22 ∷ []) ≡ 5 ∷ 6 ∷ 5 ∷ 6 ∷ 4 ∷ 6 ∷ 4 ∷ []
  -- "STREAM_DATA_BLOCKED: rules 1 and 2": our one-way streams are 5 though open
  pub blocked : heard (held 0 2 0 2 0 Open) (Blocks 8 ∷ Blocks 12 ∷ Blocks 18 ∷ Blocks 22 ∷ Blocks 5 ∷ Blocks 9 ∷ Blocks 3 ∷ Blocks 7 ∷ Blocks 11 ∷ []) ≡ 0 ∷ 4 ∷ 0 ∷ 4 ∷ 0 ∷ 5 ∷ 5 ∷ 5 ∷ 5 ∷ []
  pub blocked_last : heard most (Blocks 252 ∷ Blocks 256 ∷ Blocks 253 ∷ Blocks 257 ∷ Blocks 254 ∷ Blocks 258 ∷ Blocks 255 ∷ Blocks (2 ^ 62 - 4) ∷ Blocks (2 ^ 62 - 3) ∷ Blocks (2 ^ 62 - 2) ∷ Blocks (2 ^ 62 - 1) ∷ []) ≡ 0 ∷ 4 ∷ 0 ∷ 5 ∷ 0 ∷ 4 ∷ 5 ∷ 4 ∷ 5 ∷ 4 ∷ 5 ∷ []
  -- "STOP_SENDING and MAX_STREAM_DATA: type 2 is 5", open or not, above its count too; "type 1 or 3 not opened by us is 5, then rule 2 for type 0": 2 of type 1 and 4 of type 3 are open
  pub sending : heard (held 0 2 2 4 0 Open) (ForSender 2 ∷ ForSender 10 ∷ ForSender 22 ∷ ForSender 5 ∷ ForSender 9 ∷ ForSender 15 ∷ ForSender 19 ∷ ForSender 8 ∷ ForSender 12 ∷ []) ≡ 5 ∷ 5 ∷ 5 ∷ 0 ∷ 5 ∷ 0 ∷ 5 ∷ 0 ∷ 4 ∷ []
  pub sending_last : heard most (ForSender 252 ∷ ForSender 256 ∷ ForSender 253 ∷ ForSender 257 ∷ ForSender 254 ∷ ForSender 258 ∷ ForSender 255 ∷ ForSender 259 ∷ ForSender (2 ^ 62 - 4) ∷ ForSender (2 ^ 62 - 3) ∷ ForSender (2 ^ 62 - 2) ∷ ForSender (2 ^ 62 - 1) ∷ []) ≡ 0 ∷ 4 ∷ 0 ∷ 5 ∷ 5 ∷ 5 ∷ 0 ∷ 5 ∷ 4 ∷ 5 ∷ 5 ∷ 5 ∷ []
  -- "An ACK of a number not yet handed out in its space is 10": 7, 8 and 9 are next
  pub acknowledged : heard (held 0 0 0 0 0 Open) (Acks Initial 0 ∷ Acks Initial 6 ∷ Acks Initial 7 ∷ Acks Handshake 7 ∷ Acks Handshake 8 ∷ Acks Application 8 ∷ Acks Application 9 ∷ Acks Application (2 ^ 62 - 1) ∷ []) ≡ 0 ∷ 0 ∷ 10 ∷ 0 ∷ 10 ∷ 0 ∷ 10 ∷ 10 ∷ []
