-- The mark of a guessed id in a row's first word (document 02, K8), and a store of rows without it.
use Rattle.std.specs.Prelude.{ℕ, zero, suc, ◌-◌, ◌*◌, ◌/◌, ◌%◌, List, [], ◌∷◌, Bool, true, false, eqb}
use Rattle.wire.specs.Walk.{Step, notes}
use Rattle.families.specs.Family.{guessed}
use Rattle.families.specs.declared.AddPath.{AddPath}
use Rattle.families.specs.declared.AddPath.TheVariants.{On, Off, Guess}
use Rattle.families.specs.declared.Form.{Form}
use Rattle.families.specs.declared.Form.TheVariants.{Plain, Tagged}
use Rattle.routes.specs.List.{up_to, in_form, form_by, step_of}
use Rattle.routes.specs.declared.Row.{Row}

-- whether a number has that bit
abbrev pub has_mark : ℕ → Bool
has_mark w = eqb (w / guessed % 2) 1

-- the number with that one bit off
abbrev pub unmarked : ℕ → ℕ
unmarked w = w - w / guessed % 2 * guessed

-- a row without the mark
abbrev pub bare : Row → Row
bare r = record { first = unmarked r.first; id = r.id; w0 = r.w0; w1 = r.w1; w2 = r.w2; w3 = r.w3 }

-- words of which `skip` are passed over, then the first of six has its mark off, and so on
unfoldable pub cleared_from : ℕ → List ℕ → List ℕ
cleared_from skip [] = []
cleared_from zero (w ∷ ws) = unmarked w ∷ cleared_from 5 ws
cleared_from (suc skip) (w ∷ ws) = w ∷ cleared_from skip ws

-- a store of rows, six words to a row, without the marks
abbrev pub cleared : List ℕ → List ℕ
cleared ws = cleared_from 0 ws

-- ---- the words of what is shown of it

-- whether an id is the guess's, by the setting and the form that an item was taken in
abbrev pub by_guess : AddPath → Form → Bool
by_guess On form = false
by_guess Off form = false
by_guess Guess Plain = false
by_guess Guess Tagged = true

-- the form that each item of a reading was taken in, before its refusal
abbrev pub forms_taken : ℕ → AddPath → List ℕ → List Form
forms_taken max mode s = notes (λ form _. form) (step_of max mode) Plain s

-- a step as it was before there was a mark: the item in the form that the setting chooses
abbrev pub step_before : ℕ → AddPath → Form → List ℕ → Step Form Row
step_before max mode st s = in_form (up_to max) (form_by (up_to max) mode st s) s
