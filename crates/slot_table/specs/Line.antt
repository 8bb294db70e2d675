-- The table of slot records (document 01, "The lister"), as ASCII bytes.
use Rattle.std.specs.Prelude.{ℕ, zero, suc, ◌+◌, ◌-◌, ◌*◌, ◌/◌, ◌%◌, Bool, List, [], ◌∷◌, ◌++◌, length, ◌==◌, nat_le, nat_lt, Option, Some, None, Result, Ok, Err}
use Rattle.wire.specs.Choice.{pick}
use Rattle.wire.specs.Extent.{within}
use Rattle.wire.specs.Refusal.{number_of}
use Rattle.wire.specs.Store.{laid}
use Rattle.wire.specs.declared.refusal.Refusal.{Refusal}
use Rattle.families.specs.declared.AddPath.{AddPath}
use Rattle.messages.specs.Header.{update_kind, kind_number, message_of, body_at}
use Rattle.messages.specs.declared.Message.{Message}
use Rattle.routes.specs.Promises.{rows_in, hosts_in, verdict_in}
use Rattle.routes.specs.declared.Routes.{Routes}
use Rattle.updates.specs.Update.{count_update}
use Rattle.updates.specs.declared.Update.{Update}
use Rattle.slot_table.specs.declared.State.{State}
use Rattle.slot_table.specs.declared.State.TheVariants.{Whole, Cut, Trailing}
use Rattle.slot_table.specs.declared.Entry.{Entry}
use Rattle.slot_table.specs.declared.Entry.TheVariants as E

-- ---- what a line says

abbrev pub state_of : Bool → Bool → State
state_of cut trailing = pick cut Cut (pick trailing Trailing Whole)

-- an UPDATE whose body is refused says no more than that
abbrev pub update_entry : Result Update Refusal → ℕ → State → Result Entry Refusal
update_entry (Ok u) claimed state = Ok (E.Update claimed state u (hosts_in u.withdrawn + hosts_in u.announced))
update_entry (Err r) claimed state = Err r

-- of a message that the crate's reading found in s
abbrev pub entry_by : Result Message Refusal → List ℕ → AddPath → Result Entry Refusal
entry_by (Ok m) body mode =
    pick (kind_number m.kind == update_kind) (update_entry (count_update body mode) m.claimed (state_of m.cut m.trailing))
    (Ok (E.Other m.kind m.claimed (state_of m.cut m.trailing)))
entry_by (Err r) body mode = Err r

unfoldable pub entry_of : List ℕ → AddPath → Result Entry Refusal
entry_of s mode = entry_by (message_of s) (within (body_at (message_of s)) s) mode

-- ---- its text

abbrev pub space : ℕ
space = 32

abbrev pub line_end : ℕ
line_end = 10

abbrev pub slash : ℕ
slash = 47

-- "refused "
abbrev pub refused_text : List ℕ
refused_text = 114 ∷ 101 ∷ 102 ∷ 117 ∷ 115 ∷ 101 ∷ 100 ∷ 32 ∷ []

-- "whole ", "cut " and "trailing "
abbrev pub state_text : State → List ℕ
state_text Whole = 119 ∷ 104 ∷ 111 ∷ 108 ∷ 101 ∷ 32 ∷ []
state_text Cut = 99 ∷ 117 ∷ 116 ∷ 32 ∷ []
state_text Trailing = 116 ∷ 114 ∷ 97 ∷ 105 ∷ 108 ∷ 105 ∷ 110 ∷ 103 ∷ 32 ∷ []

-- "- - -", and the end of the line
abbrev pub no_sections : List ℕ
no_sections = 45 ∷ 32 ∷ 45 ∷ 32 ∷ 45 ∷ 10 ∷ []

-- the digits of n before acc, made from the last one on; f is the most there are, and 48 is the digit 0
unfoldable pub digits : ℕ → ℕ → List ℕ → List ℕ
digits zero n acc = acc
digits (suc f) n acc = pick (nat_lt n 10) ((48 + n) ∷ acc) (digits f (n / 10) ((48 + n % 10) ∷ acc))

-- a number of 64 bits, and what follows it
abbrev pub number : ℕ → List ℕ → List ℕ
number n after = digits 20 n after

-- the number that digits stand for, after one that was read before them
abbrev pub numeral : ℕ → List ℕ → ℕ
numeral n [] = n
numeral n (d ∷ ds) = numeral (n * 10 + (d - 48)) ds

-- type, claimed length, kept bytes and state
unfoldable pub fields_text : ℕ → ℕ → ℕ → State → List ℕ
fields_text kind claimed kept state =
    number kind (space ∷ []) ++ (number claimed (space ∷ []) ++ (number kept (space ∷ []) ++ state_text state))

-- rows/verdict of a section
unfoldable pub section_text : Result Routes Refusal → List ℕ
section_text a = number (rows_in a) (slash ∷ []) ++ number (verdict_in a) (space ∷ [])

-- after the record's number; of an UPDATE the last field is how many rows of both sections have a host bit (document 02, K6)
unfoldable pub entry_text : ℕ → Result Entry Refusal → List ℕ
entry_text kept (Err r) = refused_text ++ number (number_of r) (line_end ∷ [])
entry_text kept (Ok (E.Other kind claimed state)) = fields_text (kind_number kind) claimed kept state ++ no_sections
entry_text kept (Ok (E.Update claimed state u host)) =
    fields_text update_kind claimed kept state ++ (section_text u.withdrawn ++ (section_text u.announced ++ number host (line_end ∷ [])))

-- the line of a record with those kept bytes
unfoldable pub line_of : ℕ → List ℕ → AddPath → List ℕ
line_of nth s mode = number nth (space ∷ []) ++ entry_text (length s) (entry_of s mode)

-- "stop " and the record's number
unfoldable pub stop_text : ℕ → List ℕ
stop_text nth = (115 ∷ 116 ∷ 111 ∷ 112 ∷ 32 ∷ []) ++ number nth (line_end ∷ [])

-- "no type claimed kept state withdrawn announced host"
unfoldable pub heading_text : List ℕ
heading_text =
    110 ∷ 111 ∷ 32 ∷ 116 ∷ 121 ∷ 112 ∷ 101 ∷ 32 ∷ 99 ∷ 108 ∷ 97 ∷ 105 ∷ 109 ∷ 101 ∷ 100 ∷ 32 ∷ 107 ∷ 101 ∷ 112 ∷ 116 ∷ 32 ∷ 115 ∷ 116 ∷ 97 ∷ 116 ∷ 101 ∷ 32 ∷ 119 ∷ 105 ∷ 116 ∷ 104 ∷ 100 ∷ 114 ∷ 97 ∷ 119 ∷ 110 ∷ 32 ∷ 97 ∷ 110 ∷ 110 ∷ 111 ∷ 117 ∷ 110 ∷ 99 ∷ 101 ∷ 100 ∷ 32 ∷ 104 ∷ 111 ∷ 115 ∷ 116 ∷ 10 ∷ []

-- ---- a line put at the front of an output

-- the places that an output must have
abbrev pub line_room : ℕ
line_room = 224

-- the bytes put, and the output: where it has too few places, nothing is put
unfoldable pub put_count : List ℕ → ℕ → Option ℕ
put_count line places = pick (nat_le line_room places) (Some (length line)) None

unfoldable pub put_out : List ℕ → List ℕ → List ℕ
put_out line out = pick (nat_le line_room (length out)) (laid out 0 line) out
