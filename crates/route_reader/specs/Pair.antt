-- What the call on two sections answers and leaves: both, or neither store is touched.
use Rattle.std.specs.Prelude.{ℕ, List, [], ◌∷◌, Result, Ok, Err}
use Rattle.wire.specs.Answer.{Answer, refusal, meaning_of, count_meaning, filled}
use Rattle.wire.specs.Choice.{pick}
use Rattle.wire.specs.Refusal.{number_of}
use Rattle.wire.specs.Walk.{Reading, flat}
use Rattle.wire.specs.declared.refusal.Refusal.{Refusal}
use Rattle.wire.specs.declared.refusal.Refusal.TheVariants.{NoRoom}
use Rattle.routes.specs.Prefix.{words}
use Rattle.routes.specs.List.{up_to}
use Rattle.routes.specs.Promises.{rows_alone, rows_in, hosts_in, verdict_in, count_section, has_room}
use Rattle.families.specs.declared.AddPath.{AddPath}
use Rattle.routes.specs.declared.Row.{Row}
use Rattle.routes.specs.declared.Routes.{Routes}
use Rattle.route_reader.specs.declared.Sections.{Sections}

-- as documents 01 and 02 have it: the rows and the verdict of each section, and then the rows of each that have a host bit; a good section's verdict is 0,
-- and a malformed one has no rows
abbrev pub sections_meaning : Result Sections Refusal → Answer
sections_meaning =
    meaning_of (λ p. rows_in p.first ∷ verdict_in p.first ∷ rows_in p.second ∷ verdict_in p.second ∷ hosts_in p.first ∷ hosts_in p.second ∷ [])

-- each section by itself, and how many rows it has
abbrev pub first_meaning : Result Sections Refusal → Answer
first_meaning (Ok p) = count_meaning (rows_alone p.first)
first_meaning (Err r) = refusal (number_of r)

abbrev pub second_meaning : Result Sections Refusal → Answer
second_meaning (Ok p) = count_meaning (rows_alone p.second)
second_meaning (Err r) = refusal (number_of r)

-- each section as counted, where each good one has room
unfoldable pub read_pair_by : Result Routes Refusal → Result Routes Refusal → ℕ → ℕ → Result Sections Refusal
read_pair_by a b places places' =
    pick (has_room (rows_alone a) places) (pick (has_room (rows_alone b) places') (Ok (record { first = a; second = b })) (Err NoRoom)) (Err NoRoom)

unfoldable pub read_pair : List ℕ → List ℕ → ℕ → AddPath → ℕ → ℕ → Result Sections Refusal
read_pair s t max mode places places' = read_pair_by (count_section (up_to max) s mode) (count_section (up_to max) t mode) places places'

-- the stores afterwards, by the answer
abbrev pub read_pair_first : Result Sections Refusal → Reading Row → List ℕ → List ℕ
read_pair_first a r store = filled (first_meaning a) (flat words r.rows) store

abbrev pub read_pair_second : Result Sections Refusal → Reading Row → List ℕ → List ℕ
read_pair_second a r store = filled (second_meaning a) (flat words r.rows) store
