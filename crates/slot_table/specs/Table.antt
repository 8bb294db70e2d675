-- The table of an input of slot records (document 01, "The lister"), how far a call comes with it, and the word that tells how it ended.
use Rattle.std.specs.Prelude.{ℕ, zero, suc, ◌+◌, ◌-◌, ◌%◌, ◌^◌, Bool, true, List, [], ◌∷◌, ◌++◌, length, take, drop, nat_lt}
use Rattle.wire.specs.Choice.{pick}
use Rattle.wire.specs.Walk.{Step, took, read_all, flat}
use Rattle.slots.specs.Slot.{record_size, slot_of}
use Rattle.slots.specs.declared.SlotAnswer.{SlotAnswer}
use Rattle.slots.specs.declared.SlotAnswer.TheVariants as S
use Rattle.slot_table.specs.Line.{space, line_end, number, line_of, stop_text, heading_text, line_room}
use Rattle.slot_table.specs.declared.Then.{Then}
use Rattle.slot_table.specs.declared.Then.TheVariants.{Write, Read, Whole, Stop}
use Rattle.slot_table.specs.declared.Listed.{Listed}
use Rattle.slot_table.specs.declared.Ending.{Ending}
use Rattle.slot_table.specs.declared.Ending.TheVariants as E

-- the number after a record's, of 64 bits: no input has so many
abbrev pub next : ℕ → ℕ
next nth = (nth + 1) % 2 ^ 64

-- the kept bytes of a record at the front
abbrev pub kept_bytes : ℕ → List ℕ → List ℕ
kept_bytes kept s = take kept (drop record_size s)

-- ---- the table of a whole input

-- a record is taken for its line; where there is none, all that is left for the line that ends the table
abbrev pub row_by : SlotAnswer → ℕ → List ℕ → Step ℕ (List ℕ)
row_by (S.Slot kept mode) nth s = took (record_size + kept) (line_of nth (kept_bytes kept s) mode) (next nth)
row_by S.More nth s = took (length s) (stop_text nth) nth
row_by S.Stop nth s = took (length s) (stop_text nth) nth
row_by S.End nth s = took (length s) (stop_text nth) nth

-- the lines of all records, from number nth on
unfoldable pub lines_of : ℕ → List ℕ → List ℕ
lines_of nth s = flat (λ line. line) (read_all (λ n t. row_by (slot_of t true) n t) nth s).rows

unfoldable pub table_of : List ℕ → List ℕ
table_of s = heading_text ++ lines_of 1 s

-- ---- a block of it

-- the lines put, the bytes of the block used, the number of the next record, and what is to be done then
pub record Listing : Type 0 where
  pub lines : List ℕ
  pub used : ℕ
  pub nth : ℕ
  pub then : Then

abbrev pub ended : List ℕ → ℕ → Then → Listing
ended lines nth then = record { lines = lines; used = 0; nth = nth; then = then }

-- after a record of so many bytes
abbrev pub ahead : List ℕ → ℕ → Listing → Listing
ahead line size l = record { lines = line ++ l.lines; used = size + l.used; nth = l.nth; then = l.then }

-- by what stands at the front; `go` lists what follows a record's line
abbrev pub listing_by : SlotAnswer → ℕ → List ℕ → (List ℕ → List ℕ → Listing) → Listing
listing_by (S.Slot kept mode) nth s go =
    ahead (line_of nth (kept_bytes kept s) mode) (record_size + kept) (go (line_of nth (kept_bytes kept s) mode) (drop (record_size + kept) s))
listing_by S.More nth s go = ended [] nth Read
listing_by S.Stop nth s go = ended (stop_text nth) nth Stop
listing_by S.End nth s go = ended [] nth Whole

-- f records at most, each while the output has room for any line
unfoldable pub listing_from : ℕ → Bool → ℕ → ℕ → List ℕ → Listing
listing_from zero last nth room s = ended [] nth Write
listing_from (suc f) last nth room s =
    pick (nat_lt room line_room) (ended [] nth Write)
    (listing_by (slot_of s last) nth s (λ line rest. listing_from f last (next nth) (room - length line) rest))

-- a block has fewer records than bytes
abbrev pub listing : Bool → ℕ → ℕ → List ℕ → Listing
listing last nth room s = listing_from (suc (length s)) last nth room s

-- as it is answered
abbrev pub listed_of : Listing → Listed
listed_of l = record { used = l.used; put = length l.lines; nth = l.nth; then = l.then }

-- ---- how it ended

-- "whole", "stop " and "unread ", "unwritten", with the record's number and the byte where it should stand, or the bytes that were read
unfoldable pub ending_text : Ending → List ℕ
ending_text E.Whole = 119 ∷ 104 ∷ 111 ∷ 108 ∷ 101 ∷ 10 ∷ []
ending_text (E.Stop nth byte) = (115 ∷ 116 ∷ 111 ∷ 112 ∷ 32 ∷ []) ++ (number nth (space ∷ []) ++ number byte (line_end ∷ []))
ending_text (E.Unread byte) = (117 ∷ 110 ∷ 114 ∷ 101 ∷ 97 ∷ 100 ∷ 32 ∷ []) ++ number byte (line_end ∷ [])
ending_text E.Unwritten = 117 ∷ 110 ∷ 119 ∷ 114 ∷ 105 ∷ 116 ∷ 116 ∷ 101 ∷ 110 ∷ 10 ∷ []
