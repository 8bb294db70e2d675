-- What counting the places of an index and building it answer and leave, from the list.
use Rattle.std.specs.Prelude.{ℕ, List, length, leb, Result, Ok, Err}
use Rattle.wire.specs.Answer.{count_meaning, filled}
use Rattle.wire.specs.Choice.{pick}
use Rattle.wire.specs.declared.refusal.Refusal.{Refusal}
use Rattle.wire.specs.declared.refusal.Refusal.TheVariants.{NoRoom}
use Rattle.families.specs.declared.Form.{Form}
use Rattle.routes.specs.List.{Reader, fixed, list_by}
use Rattle.routes.specs.Promises.{count_answer}
use Rattle.route_index.specs.Index.{index_by}

-- the places of a list that is taken, and the refusal of one that is not
abbrev pub places_for : Result ℕ Refusal → List ℕ → Result ℕ Refusal
places_for (Ok rows) index = Ok (length index)
places_for (Err r) index = Err r

-- counting: the list's refusals
unfoldable pub count_index : Reader → List ℕ → Form → Result ℕ Refusal
count_index read s form = places_for (count_answer s (list_by read s (fixed form))) (index_by read s form)

-- building into a store of so many places: 11 last
abbrev pub room_for : Result ℕ Refusal → ℕ → Result ℕ Refusal
room_for (Ok n) places = pick (leb n places) (Ok n) (Err NoRoom)
room_for (Err r) places = Err r

unfoldable pub build_index : Reader → List ℕ → Form → ℕ → Result ℕ Refusal
build_index read s form places = room_for (count_index read s form) places

-- the store afterwards: the index from its front where it was built, and else as it was
unfoldable pub index_after : Reader → List ℕ → Form → List ℕ → List ℕ
index_after read s form store = filled (count_meaning (build_index read s form (length store))) (index_by read s form) store
