-- An answer as a list of the values that the documents name, in their order, or a refusal number. Beside each type that a call answers stands a definition
-- that says which one its values are.
use Rattle.std.specs.Prelude.{ℕ, List, [], ◌∷◌, Bool, true, false, get_or, leb, Result, Ok, Err}
use Rattle.wire.specs.Choice.{pick}
use Rattle.wire.specs.Extent.{Extent, nothing}
use Rattle.wire.specs.Refusal.{number_of}
use Rattle.wire.specs.Store.{laid}
use Rattle.wire.specs.declared.refusal.Refusal.{Refusal}
use Rattle.wire.specs.declared.refusal.Refusal.TheVariants.{TooLong, NoRoom}

pub data Answer : Type 0 where
  given : List ℕ → Answer
  refusal : ℕ → Answer

-- the refusal number, 0 where there is none
abbrev pub number_in : Answer → ℕ
number_in (given values) = 0
number_in (refusal n) = n

-- the value at a place; a refusal has count 0 and no flag set
abbrev pub value_in : ℕ → Answer → ℕ
value_in i (given values) = get_or values i 0
value_in i (refusal n) = 0

-- a flag as a value
abbrev pub flag : Bool → ℕ
flag true = 1
flag false = 0

-- a lent store or output afterwards: values from its front where something is given, and as it was where it is refused
abbrev pub filled : Answer → List ℕ → List ℕ → List ℕ
filled (given fields) values store = laid store 0 values
filled (refusal n) values store = store

-- a part that is handed back: where something is given, and nothing where it is refused
abbrev pub handed : Answer → Extent → Extent
handed (given values) part = part
handed (refusal n) part = nothing

-- a result as an answer, by the values of what it holds
abbrev pub meaning_of : {X : Type 0} → (X → List ℕ) → Result X Refusal → Answer
meaning_of values (Ok x) = given (values x)
meaning_of values (Err r) = refusal (number_of r)

-- ---- a count, of rows, places or bytes

-- the one number that it names
abbrev pub count_meaning : Result ℕ Refusal → Answer
count_meaning = meaning_of (λ n. n ∷ [])

-- so many bytes, under a limit, into an output of so many places: 1, then 11
unfoldable pub limited : ℕ → ℕ → ℕ → Result ℕ Refusal
limited limit size places = pick (leb size limit) (pick (leb size places) (Ok size) (Err NoRoom)) (Err TooLong)
