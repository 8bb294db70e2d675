-- What the calls on a step, a list or a section answer and leave, from the bytes and from the reading of them that `List` defines.
use Rattle.std.specs.Prelude.{ℕ, ◌+◌, ◌/◌, List, [], ◌∷◌, Bool, true, length, leb, Result, Ok, Err}
use Rattle.wire.specs.Answer.{Answer, number_in, value_in, filled, meaning_of, count_meaning}
use Rattle.wire.specs.Choice.{pick}
use Rattle.wire.specs.Refusal.{list_limit}
use Rattle.wire.specs.Verdict.{unless}
use Rattle.wire.specs.Walk.{Step, took, stop, Reading, flat}
use Rattle.wire.specs.declared.refusal.Refusal.{Refusal}
use Rattle.wire.specs.declared.refusal.Refusal.TheVariants.{TooLong, NoRoom}
use Rattle.families.specs.Family.{mark_of, guess_mark}
use Rattle.families.specs.declared.Form.{Form}
use Rattle.families.specs.declared.AddPath.{AddPath}
use Rattle.routes.specs.Prefix.{words}
use Rattle.routes.specs.List.{Reader, list_by, section_by, hosts_by}
use Rattle.routes.specs.declared.Row.{Row}
use Rattle.routes.specs.declared.Item.{Item}
use Rattle.routes.specs.declared.Routes.{Routes}

-- ---- a step

-- a step says how many bytes its item takes and the form it stands in, and not its row
abbrev pub sized : Step Form Row → Result Item Refusal
sized (took used row form) = Ok (record { used = used; form = form })
sized (stop r) = Err r

-- as documents 01 and 02 have it: the bytes that the item takes, and what its form adds to a row's first word
abbrev pub step_meaning : AddPath → Result Item Refusal → Answer
step_meaning mode = meaning_of (λ item. item.used ∷ (mark_of item.form + guess_mark mode item.form) ∷ [])

-- ---- a list or a section

-- counting: 1 first, then what the reading says
unfoldable pub count_answer : List ℕ → Reading Row → Result ℕ Refusal
count_answer s r = pick (leb (length s) list_limit) (unless r.verdict (length r.rows)) (Err TooLong)

-- a store of so many places has room for what was counted: room is a sixth of the places, rounded down; a refusal needs none
abbrev pub has_room : Result ℕ Refusal → ℕ → Bool
has_room (Ok n) places = leb n (places / 6)
has_room (Err r) places = true

-- reading into a store of so many places: 11 last
unfoldable pub read_answer : List ℕ → Reading Row → ℕ → Result ℕ Refusal
read_answer s r places = pick (has_room (count_answer s r) places) (count_answer s r) (Err NoRoom)

-- the store afterwards: the rows from its front where they were taken, and else as it was
unfoldable pub store_after : List ℕ → Reading Row → List ℕ → List ℕ
store_after s r store = filled (count_meaning (read_answer s r (length store))) (flat words r.rows) store

-- ---- with the rows that have a host bit

-- a list's answer, and how many of its rows have one
abbrev pub with_hosts : Result ℕ Refusal → ℕ → Result Routes Refusal
with_hosts (Ok n) hosts = Ok (record { rows = n; hosts = hosts })
with_hosts (Err r) hosts = Err r

-- such an answer without the latter
abbrev pub rows_alone : Result Routes Refusal → Result ℕ Refusal
rows_alone (Ok a) = Ok a.rows
rows_alone (Err r) = Err r

-- what counting and reading answer, of a list and of a section of an UPDATE
abbrev pub count_list : Reader → List ℕ → AddPath → Result Routes Refusal
count_list read s mode = with_hosts (count_answer s (list_by read s mode)) (hosts_by read s mode)

abbrev pub count_section : Reader → List ℕ → AddPath → Result Routes Refusal
count_section read s mode = with_hosts (count_answer s (section_by read s mode)) (hosts_by read s mode)

abbrev pub read_list : Reader → List ℕ → AddPath → ℕ → Result Routes Refusal
read_list read s mode places = with_hosts (read_answer s (list_by read s mode) places) (hosts_by read s mode)

abbrev pub read_section : Reader → List ℕ → AddPath → ℕ → Result Routes Refusal
read_section read s mode places = with_hosts (read_answer s (section_by read s mode) places) (hosts_by read s mode)

-- as documents 01 and 02 have it: how many rows, and how many of them have a host bit
abbrev pub routes_meaning : Result Routes Refusal → Answer
routes_meaning = meaning_of (λ a. a.rows ∷ a.hosts ∷ [])

-- the rows of an answer, those with a host bit, and its refusal number: 0 where there is none
abbrev pub rows_in : Result Routes Refusal → ℕ
rows_in a = value_in 0 (routes_meaning a)

abbrev pub hosts_in : Result Routes Refusal → ℕ
hosts_in a = value_in 1 (routes_meaning a)

abbrev pub verdict_in : Result Routes Refusal → ℕ
verdict_in a = number_in (routes_meaning a)
