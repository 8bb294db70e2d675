-- The fields of every answer of the module index are of 16 bits; and how many places an index has at most.
-- Assumes nothing.
use Prim.Native.Nat.{ℕ, zero, suc, ◌+◌, ◌*◌, ◌/◌, ◌%◌, ◌≤◌}
use mathlib.Core.Path.{◌≡◌}
use mathlib.Core.List.{List, [], ◌∷◌}
use native.Mathlib.Omega.{arith}
use lib.ListN.{length, get_or, drop, length-drop}
use lib.Dec.{leb, ltb}
use Rattle.std.specs.Prelude.{Result, Ok, Err}
use Rattle.wire.specs.Answer.{value_in, count_meaning}
use Rattle.wire.specs.Refusal.{list_limit}
use Rattle.wire.specs.Walk.{notes}
use Rattle.wire.specs.declared.refusal.Refusal.{Refusal}
use Rattle.wire.specs.declared.refusal.Refusal.TheVariants.{TooLong, NoRoom, NotAnIndex, NoSuchRoute}
use Rattle.wire.proofs.ChoiceLaws.{pick_any, pick_leb}
use Rattle.wire.proofs.WalkLaws.{noted_alike}
use Rattle.families.specs.declared.Form.{Form}
use Rattle.families.specs.declared.Form.TheVariants.{Plain}
use Rattle.routes.specs.Prefix.{with_host, route_meaning}
use Rattle.routes.specs.List.{up_to, fixed, step_of, list_by, list_of}
use Rattle.routes.specs.Promises.{count_answer}
use Rattle.routes.proofs.ListLaws.{fair, sound}
use Rattle.routes.proofs.PrefixLaws.{prefix_cases}
use Rattle.routes.specs.declared.Route.{Route}
use Rattle.route_index.specs.Index.{items_by, index_by, is_index, past_item, unless_none, route_from, route_by}
use Rattle.route_index.specs.Promises.{places_for, count_index, room_for, build_index}
use Rattle.route_index.proofs.OwnLaws.{own_length}
use Rattle.words.specs.Word.{in_fields, Narrow}
use Rattle.words.proofs.WordLaws.{refused_narrow, number_narrow}
use Rattle.firmware.specs.Fields.{index_places}
use Rattle.firmware.proofs.Bounds.{answer_any}
use Rattle.firmware.proofs.ListBounds.{list_few}

-- ---- an index

module _ (s : List ℕ) (max : ℕ) (form : Form) where
  items_few : length (items_by (up_to max) s form) ≤ length s
  unfolding notes list_by
  items_few = omega (arith, (noted_alike (λ _ item. item) (step_of max (fixed form)) (sound max (fixed form)) Plain s).1, list_few s max (fixed form))

  index_few : 16 * length (index_by (up_to max) s form) ≤ length s + 15
  index_few = omega (arith, own_length (up_to max) (fair max) form s, items_few)

  -- what counting tells
  pub count_few : value_in 0 (count_meaning (count_index (up_to max) s form)) ≤ index_places
  unfolding count_index count_answer
  count_few =
      let Few : Result ℕ Refusal → Type 0 = λ a. value_in 0 (count_meaning (places_for a (index_by (up_to max) s form))) ≤ index_places in
      pick_leb Few (length s) list_limit _ (Err TooLong)
      (λ short. answer_any Few (list_of s max (fixed form)).verdict (Ok _) Err (omega (arith, index_few, short)) (λ n. omega arith))
      (λ _. omega arith)

room_few : (a : Result ℕ Refusal) (places : ℕ) → value_in 0 (count_meaning a) ≤ index_places → value_in 0 (count_meaning (room_for a places)) ≤ index_places
room_few (Ok n) places h =
    pick_any (λ (a : Result ℕ Refusal). value_in 0 (count_meaning a) ≤ index_places) (leb n places) (Ok n) (Err NoRoom) h (omega arith)
room_few (Err r) places h = h

few_narrow : (a : Result ℕ Refusal) → value_in 0 (count_meaning a) ≤ index_places → Narrow (in_fields (count_meaning a))
few_narrow (Ok n) h = number_narrow n (omega (arith, h))
few_narrow (Err r) h = refused_narrow _

module _ (s : List ℕ) (max : ℕ) (form : Form) where
  pub count_index_narrow : Narrow (in_fields (count_meaning (count_index (up_to max) s form)))
  count_index_narrow = few_narrow (count_index (up_to max) s form) (count_few s max form)

  pub build_index_narrow : (places : ℕ) → Narrow (in_fields (count_meaning (build_index (up_to max) s form places)))
  unfolding build_index
  build_index_narrow places = few_narrow (room_for (count_index (up_to max) s form) places) (room_few (count_index (up_to max) s form) places (count_few s max form))

-- ---- a route

unless_few : (s : List ℕ) (a : Result Route Refusal) → value_in 0 (route_meaning a) ≤ length s → value_in 0 (route_meaning (unless_none s a)) ≤ length s
unless_few [] a h = omega arith
unless_few (b ∷ s) a h = h

-- an item takes no more bytes than there are
from_few : (max : ℕ) (form : Form) (n : ℕ) (s : List ℕ) → value_in 0 (route_meaning (route_from (up_to max) form n s)) ≤ length s
unfolding route_from
from_few max form zero s =
    unless_few s _
    (prefix_cases s max form (λ a. value_in 0 (route_meaning (with_host form s a)) ≤ length s)
    (omega arith)
    (omega arith)
    (λ used row t. t.room))
from_few max form (suc n) s =
    unless_few s _
    (prefix_cases s max form (λ a. value_in 0 (route_meaning (past_item a (λ used. route_from (up_to max) form n (drop used s)))) ≤ length s)
    (omega arith)
    (omega arith)
    (λ used row t. omega (arith, from_few max form n (drop used s), length-drop used s)))

pub route_few : (max : ℕ) (form : Form) (s index : List ℕ) (n : ℕ) → value_in 0 (route_meaning (route_by (up_to max) form s index n)) ≤ list_limit
unfolding route_by
route_few max form s index n =
    let Few : Result Route Refusal → Type 0 = λ a. value_in 0 (route_meaning a) ≤ list_limit in
    let start : ℕ = get_or index (n / 16) 0 in
    pick_leb Few (length s) list_limit _ (Err TooLong)
    (λ short. pick_any Few (is_index (length s) index) _ (Err NotAnIndex)
    (pick_any Few (ltb (n / 16) (length index)) _ (Err NoSuchRoute)
    (omega (arith, from_few max form (n % 16) (drop start s), length-drop start s, short))
    (omega arith))
    (omega arith))
    (λ _. omega arith)

pub used_few : (max : ℕ) (form : Form) (s index : List ℕ) (n : ℕ) (route : Route) → Ok route ≡ route_by (up_to max) form s index n → route.prefix.used ≤ list_limit
used_few max form s index n route e = rw (← e) at (route_few max form s index n)
