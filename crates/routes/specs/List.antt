-- A list of routes: items to the end of the bytes, under each Add-Path setting; and a section of an UPDATE. Over any way to read one item: the RFC's is
-- `up_to` a length.
use Rattle.std.specs.Prelude.{ℕ, ◌+◌, List, [], ◌∷◌, Bool, false, not, get_or, eqb, Result, Ok, Err}
use Rattle.wire.specs.Answer.{flag}
use Rattle.wire.specs.Choice.{pick}
use Rattle.wire.specs.Walk.{Step, took, stop, Reading, refused, read_all, notes, tally}
use Rattle.wire.specs.declared.refusal.Refusal.{Refusal}
use Rattle.wire.specs.declared.refusal.Refusal.TheVariants.{OneByteSection}
use Rattle.routes.specs.Prefix.{prefix_of, host_bits}
use Rattle.families.specs.Family.{guess_mark}
use Rattle.families.specs.declared.Form.{Form}
use Rattle.families.specs.declared.Form.TheVariants.{Plain, Tagged}
use Rattle.families.specs.declared.AddPath.{AddPath}
use Rattle.families.specs.declared.AddPath.TheVariants.{On, Off, Guess}
use Rattle.routes.specs.declared.Row.{Row}
use Rattle.routes.specs.declared.Prefix.{Prefix}

-- a way to read the item at the front, in a form
abbrev pub Reader : Type 0
Reader = List ℕ → Form → Result Prefix Refusal

-- that of a family whose longest prefix has max bits
abbrev pub up_to : ℕ → Reader
up_to max s form = prefix_of s max form

-- an item read in a form, as a step that leaves that form as the state
abbrev pub as_step : Form → Result Prefix Refusal → Step Form Row
as_step form (Ok p) = took p.used p.row form
as_step form (Err r) = stop r

unfoldable pub in_form : Reader → Form → List ℕ → Step Form Row
in_form read form s = as_step form (read s form)

-- Plain, at a byte other than 0
abbrev pub plain_here : Form → ℕ → Bool
plain_here Plain b = not (eqb b 0)
plain_here Tagged b = false

-- Tagged where the item is well formed with an id, and else Plain
abbrev pub tried : Result Prefix Refusal → Form
tried (Ok p) = Tagged
tried (Err r) = Plain

-- the form in which the guess reads the item at the front, from a state: in Plain, a byte other than 0 is read without id;
-- elsewhere the item is tried with id, and the same place is read without id where that is not well formed
unfoldable pub guess_form : Reader → Form → List ℕ → Form
guess_form read st s = pick (plain_here st (get_or s 0 0)) Plain (tried (read s Tagged))

-- the form in which a setting reads the item at the front
abbrev pub form_by : Reader → AddPath → Form → List ℕ → Form
form_by read On st s = Tagged
form_by read Off st s = Plain
form_by read Guess st s = guess_form read st s

-- the setting under which every item stands in a form
abbrev pub fixed : Form → AddPath
fixed Plain = Off
fixed Tagged = On

-- a row with a mark added to its first word
abbrev pub marked : ℕ → Row → Row
marked mark r = record { first = r.first + mark; id = r.id; w0 = r.w0; w1 = r.w1; w2 = r.w2; w3 = r.w3 }

-- a step whose row has the mark of the form that its item was taken in
abbrev pub marked_step : AddPath → Step Form Row → Step Form Row
marked_step mode (took used row form) = took used (marked (guess_mark mode form) row) form
marked_step mode (stop r) = stop r

unfoldable pub step_by : Reader → AddPath → Form → List ℕ → Step Form Row
step_by read mode st s = marked_step mode (in_form read (form_by read mode st s) s)

abbrev pub step_of : ℕ → AddPath → Form → List ℕ → Step Form Row
step_of max = step_by (up_to max)

-- the rows of a list before its refusal, and its verdict; the walk starts in Plain
unfoldable pub list_by : Reader → List ℕ → AddPath → Reading Row
list_by read s mode = read_all (step_by read mode) Plain s

abbrev pub list_of : List ℕ → ℕ → AddPath → Reading Row
list_of s max mode = list_by (up_to max) s mode

-- how many of its items have a host bit
unfoldable pub hosts_by : Reader → List ℕ → AddPath → ℕ
hosts_by read s mode = tally flag (notes host_bits (step_by read mode) Plain s)

abbrev pub hosts_of : List ℕ → ℕ → AddPath → ℕ
hosts_of s max mode = hosts_by (up_to max) s mode

-- one byte, and not 0
abbrev pub strange : List ℕ → Bool
strange [] = false
strange (b ∷ []) = not (eqb b 0)
strange (b ∷ c ∷ s) = false

-- a section of an UPDATE: a list, but that such a byte is refused before any item
unfoldable pub section_by : Reader → List ℕ → AddPath → Reading Row
section_by read s mode = pick (strange s) (refused OneByteSection) (list_by read s mode)

abbrev pub section_of : List ℕ → ℕ → AddPath → Reading Row
section_of s max mode = section_by (up_to max) s mode
