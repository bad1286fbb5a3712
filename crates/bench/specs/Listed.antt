-- Listings computed on the definitions, docs/RULES.md, "The listing": each row of a payload and its last line, for each of the three ways in which that can end.
use Rattle.std.specs.Prelude.{ℕ, ◌≡◌, true, false, List, [], ◌∷◌, ◌++◌, map, length, take, replicate}
use Rattle.answers.specs.declared.Answer.TheVariants.{Accepted, ProtocolViolation}
use Rattle.frames.specs.declared.Frame.TheVariants.{Ping}
use Rattle.streams.specs.declared.Mark.{Mark}
use Rattle.streams.specs.declared.Mark.TheVariants.{Open, Code, ByPeer}
use Rattle.streams.specs.Conn.{marked_as}
use Rattle.steps.specs.declared.Shown.{Shown}
use Rattle.steps.specs.declared.Shown.TheVariants.{Nothing, Typed, Whole}
use Rattle.report.specs.Listing.{too_long, heading_of, after_of, last_of, ending_of}
use Rattle.pages.specs.Pages.{small_of, page_of}
use Rattle.pages.specs.declared.Page.{Page}

-- a page before its first row
abbrev pub first : Page
first = record { conn = small_of.told.conn; table = small_of.table; at = 0; used = 0; full = false }

-- the first page of a payload's rows, on a page of n bytes
abbrev pub paged : ℕ → List ℕ → Page × List ℕ
paged n s = page_of first s (replicate n 0)

-- the rows of a payload and the last line after them, on a page of 100 bytes
abbrev pub written : List ℕ → List ℕ
written s = let r = paged 100 s in take r.0.used r.1 ++ ending_of (last_of (length s) r.0.conn.mark)

-- where the listing goes on in a payload of 9 bytes after a frame that was shown so, on a connection with this mark
abbrev pub goes_on : Mark → Shown → ℕ
goes_on mark shown = after_of (record { answer = Accepted; shown = shown; conn = marked_as first.conn mark }) 9

pub record Listed : Type 0 where
  -- the example of docs/RULES.md: PING, STREAM "hello" on stream 0, and a RESET_STREAM of stream 0 at 20, which breaks its credit: "0 1 0 0", "1 10 0 5", "9 4 3 5", "closed 3"
  pub example : written (0x01 ∷ 0x0a ∷ 0x00 ∷ 0x05 ∷ 0x68 ∷ 0x65 ∷ 0x6c ∷ 0x6c ∷ 0x6f ∷ 0x04 ∷ 0x04 ∷ 0x00 ∷ 0x14 ∷ [])
      ≡ 48 ∷ 32 ∷ 49 ∷ 32 ∷ 48 ∷ 32 ∷ 48 ∷ 10 ∷ 49 ∷ 32 ∷ 49 ∷ 48 ∷ 32 ∷ 48 ∷ 32 ∷ 53 ∷ 10 ∷ 57 ∷ 32 ∷ 52 ∷ 32 ∷ 51 ∷ 32 ∷ 53 ∷ 10 ∷ 99 ∷ 108 ∷ 111 ∷ 115 ∷ 101 ∷ 100 ∷ 32 ∷ 51 ∷ 10 ∷ []
  -- its first two frames alone: "0 1 0 0", "1 10 0 5", "open"
  pub stays_open : written (0x01 ∷ 0x0a ∷ 0x00 ∷ 0x05 ∷ 0x68 ∷ 0x65 ∷ 0x6c ∷ 0x6c ∷ 0x6f ∷ [])
      ≡ 48 ∷ 32 ∷ 49 ∷ 32 ∷ 48 ∷ 32 ∷ 48 ∷ 10 ∷ 49 ∷ 32 ∷ 49 ∷ 48 ∷ 32 ∷ 48 ∷ 32 ∷ 53 ∷ 10 ∷ 111 ∷ 112 ∷ 101 ∷ 110 ∷ 10 ∷ []
  -- "An empty payload prints the header and "closed 10""
  pub none : written []
      ≡ 99 ∷ 108 ∷ 111 ∷ 115 ∷ 101 ∷ 100 ∷ 32 ∷ 49 ∷ 48 ∷ 10 ∷ []
  -- STREAM, CONNECTION_CLOSE and a PING that is not taken any more: "0 10 0 1", "4 28 0 1", "closed by peer"
  pub by_peer : written (0x0a ∷ 0x00 ∷ 0x01 ∷ 0x61 ∷ 0x1c ∷ 0x00 ∷ 0x00 ∷ 0x00 ∷ 0x01 ∷ [])
      ≡ 48 ∷ 32 ∷ 49 ∷ 48 ∷ 32 ∷ 48 ∷ 32 ∷ 49 ∷ 10 ∷ 52 ∷ 32 ∷ 50 ∷ 56 ∷ 32 ∷ 48 ∷ 32 ∷ 49 ∷ 10 ∷ 99 ∷ 108 ∷ 111 ∷ 115 ∷ 101 ∷ 100 ∷ 32 ∷ 98 ∷ 121 ∷ 32 ∷ 112 ∷ 101 ∷ 101 ∷ 114 ∷ 10 ∷ []
  -- .. and its other type: "0 29 0 0", "closed by peer"
  pub by_application : written (0x1d ∷ 0x00 ∷ 0x00 ∷ [])
      ≡ 48 ∷ 32 ∷ 50 ∷ 57 ∷ 32 ∷ 48 ∷ 32 ∷ 48 ∷ 10 ∷ 99 ∷ 108 ∷ 111 ∷ 115 ∷ 101 ∷ 100 ∷ 32 ∷ 98 ∷ 121 ∷ 32 ∷ 112 ∷ 101 ∷ 101 ∷ 114 ∷ 10 ∷ []
  -- numbers of two digits: "0 10 0 16", "19 1 0 16", "20 10 0 16", "open"
  pub wider : written (0x0a ∷ 0x00 ∷ 0x10 ∷ 0x61 ∷ 0x61 ∷ 0x61 ∷ 0x61 ∷ 0x61 ∷ 0x61 ∷ 0x61 ∷ 0x61 ∷ 0x61 ∷ 0x61 ∷ 0x61 ∷ 0x61 ∷ 0x61 ∷ 0x61 ∷ 0x61 ∷ 0x61 ∷ 0x01 ∷ 0x0a ∷ 0x04 ∷ 0x00 ∷ [])
      ≡ 48 ∷ 32 ∷ 49 ∷ 48 ∷ 32 ∷ 48 ∷ 32 ∷ 49 ∷ 54 ∷ 10 ∷ 49 ∷ 57 ∷ 32 ∷ 49 ∷ 32 ∷ 48 ∷ 32 ∷ 49 ∷ 54 ∷ 10 ∷ 50 ∷ 48 ∷ 32 ∷ 49 ∷ 48 ∷ 32 ∷ 48 ∷ 32 ∷ 49 ∷ 54 ∷ 10 ∷ 111 ∷ 112 ∷ 101 ∷ 110 ∷ 10 ∷ []
  -- "its type ("-" if unreadable)": "0 - 7 0", "closed 7"
  pub unreadable : written (0x40 ∷ [])
      ≡ 48 ∷ 32 ∷ 45 ∷ 32 ∷ 55 ∷ 32 ∷ 48 ∷ 10 ∷ 99 ∷ 108 ∷ 111 ∷ 115 ∷ 101 ∷ 100 ∷ 32 ∷ 55 ∷ 10 ∷ []
  -- .. after PADDING: "0 0 0 0", "1 - 7 0", "closed 7"
  pub unreadable_later : written (0x00 ∷ 0x80 ∷ 0x00 ∷ [])
      ≡ 48 ∷ 32 ∷ 48 ∷ 32 ∷ 48 ∷ 32 ∷ 48 ∷ 10 ∷ 49 ∷ 32 ∷ 45 ∷ 32 ∷ 55 ∷ 32 ∷ 48 ∷ 10 ∷ 99 ∷ 108 ∷ 111 ∷ 115 ∷ 101 ∷ 100 ∷ 32 ∷ 55 ∷ 10 ∷ []
  -- a type that was read is shown though its fields were not, or it is not known, not admitted or not in shortest form: "0 10 7 0", "0 31 7 0", "0 7 10 0", "0 1 10 0"
  pub unread_fields : written (0x0a ∷ 0x00 ∷ 0x05 ∷ 0x68 ∷ [])
      ≡ 48 ∷ 32 ∷ 49 ∷ 48 ∷ 32 ∷ 55 ∷ 32 ∷ 48 ∷ 10 ∷ 99 ∷ 108 ∷ 111 ∷ 115 ∷ 101 ∷ 100 ∷ 32 ∷ 55 ∷ 10 ∷ []
  pub unknown : written (0x1f ∷ [])
      ≡ 48 ∷ 32 ∷ 51 ∷ 49 ∷ 32 ∷ 55 ∷ 32 ∷ 48 ∷ 10 ∷ 99 ∷ 108 ∷ 111 ∷ 115 ∷ 101 ∷ 100 ∷ 32 ∷ 55 ∷ 10 ∷ []
  pub not_admitted : written (0x07 ∷ 0x01 ∷ 0x61 ∷ [])
      ≡ 48 ∷ 32 ∷ 55 ∷ 32 ∷ 49 ∷ 48 ∷ 32 ∷ 48 ∷ 10 ∷ 99 ∷ 108 ∷ 111 ∷ 115 ∷ 101 ∷ 100 ∷ 32 ∷ 49 ∷ 48 ∷ 10 ∷ []
  pub not_shortest : written (0x40 ∷ 0x01 ∷ [])
      ≡ 48 ∷ 32 ∷ 49 ∷ 32 ∷ 49 ∷ 48 ∷ 32 ∷ 48 ∷ 10 ∷ 99 ∷ 108 ∷ 111 ∷ 115 ∷ 101 ∷ 100 ∷ 32 ∷ 49 ∷ 48 ∷ 10 ∷ []
  -- two PINGs on a page that holds both rows, "0 1 0 0" and "1 1 0 0", and on one that lacks a byte: the second row waits, nothing of it is written, and the next page begins with it
  pub page : (paged 16 (1 ∷ 1 ∷ [])).1 ≡ 48 ∷ 32 ∷ 49 ∷ 32 ∷ 48 ∷ 32 ∷ 48 ∷ 10 ∷ 49 ∷ 32 ∷ 49 ∷ 32 ∷ 48 ∷ 32 ∷ 48 ∷ 10 ∷ []
  pub page_full : (paged 15 (1 ∷ 1 ∷ [])).1 ≡ 48 ∷ 32 ∷ 49 ∷ 32 ∷ 48 ∷ 32 ∷ 48 ∷ 10 ∷ replicate 7 0
  pub page_waits : (paged 15 (1 ∷ 1 ∷ [])).0.full ≡ true
  pub page_next : (page_of (paged 15 (1 ∷ 1 ∷ [])).0 (1 ∷ 1 ∷ []) (replicate 9 0)).1 ≡ 49 ∷ 32 ∷ 49 ∷ 32 ∷ 48 ∷ 32 ∷ 48 ∷ 10 ∷ 0 ∷ []
  -- "at most 65,527 bytes, else the sole line "too long""
  pub too_long_law : map too_long (0 ∷ 65527 ∷ 65528 ∷ []) ≡ false ∷ false ∷ true ∷ []
  pub heading : heading_of 65527 ≡ 112 ∷ 108 ∷ 97 ∷ 99 ∷ 101 ∷ 32 ∷ 116 ∷ 121 ∷ 112 ∷ 101 ∷ 32 ∷ 99 ∷ 111 ∷ 100 ∷ 101 ∷ 32 ∷ 116 ∷ 111 ∷ 116 ∷ 97 ∷ 108 ∷ 10 ∷ []
  pub sole_line : heading_of 65528 ≡ 116 ∷ 111 ∷ 111 ∷ 32 ∷ 108 ∷ 111 ∷ 110 ∷ 103 ∷ 10 ∷ []
  -- the place after a frame that was shown whole, and else the end; and the end of a connection that is closed
  pub goes_on_law : map (goes_on Open) (Nothing ∷ Typed 1 ∷ Whole Ping 1 4 ∷ []) ++ map (λ mark. goes_on mark (Whole Ping 1 4)) (ByPeer ∷ Code ProtocolViolation 1 ∷ []) ≡ 9 ∷ 9 ∷ 4 ∷ 9 ∷ 9 ∷ []
  -- a payload without frames: code 10, "type 0 if none was read"; any other leaves the mark
  pub last : map (last_of 0) (Open ∷ []) ++ map (last_of 1) (Open ∷ ByPeer ∷ Code ProtocolViolation 7 ∷ []) ≡ Code ProtocolViolation 0 ∷ Open ∷ ByPeer ∷ Code ProtocolViolation 7 ∷ []
