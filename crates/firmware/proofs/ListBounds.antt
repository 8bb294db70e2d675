-- The fields of every answer of the module list are of 16 bits; and the rows whose marks are taken off are the word itself.
-- Assumes nothing.
use Prim.Native.Nat.{ℕ, ◌≤◌, ◌<◌}
use mathlib.Core.Path.{◌≡◌}
use mathlib.Core.List.{List}
use native.Mathlib.Omega.{arith}
use lib.ListN.{length}
use Rattle.std.specs.Prelude.{Result, Ok, Err}
use Rattle.wire.specs.Answer.{value_in, count_meaning}
use Rattle.wire.specs.Refusal.{list_limit}
use Rattle.wire.specs.Walk as Walk
use Rattle.wire.specs.Walk.{Reading}
use Rattle.wire.specs.declared.refusal.Refusal.{Refusal}
use Rattle.wire.specs.declared.refusal.Refusal.TheVariants.{TooLong, OneByteSection, NoRoom}
use Rattle.wire.proofs.ChoiceLaws.{pick_any, pick_leb}
use Rattle.families.specs.declared.Form.{Form}
use Rattle.families.specs.declared.AddPath.{AddPath}
use Rattle.routes.specs.List.{up_to, list_of, hosts_of, section_by, section_of, strange}
use Rattle.routes.specs.Promises.{count_answer, has_room, read_answer, with_hosts, count_list, read_list, routes_meaning, rows_in, hosts_in}
use Rattle.routes.specs.declared.Row.{Row}
use Rattle.routes.specs.declared.Routes.{Routes}
use Rattle.routes.proofs.ListLaws.{fair, hosts_few, beside_rows, counted_hosts}
use Rattle.route_writer.specs.Promises as route_writer
use Rattle.route_writer.proofs.PromiseLaws.{after_any, write_front}
use Rattle.words.specs.Word.{in_fields, word_of, Narrow}
use Rattle.words.proofs.WordLaws.{refused_narrow, number_narrow}
use Rattle.firmware.specs.Fields.{cleared_fields}
use Rattle.firmware.proofs.Bounds.{answer_any}

-- no reading has more rows than bytes
module _ (s : List ℕ) (max : ℕ) (mode : AddPath) where
  pub list_few : length (list_of s max mode).rows ≤ length s
  list_few = (hosts_few (up_to max) (fair max) s mode).1

  pub section_few : length (section_of s max mode).rows ≤ length s
  unfolding section_by
  section_few = pick_any (λ (r : Reading Row). length r.rows ≤ length s) (strange s) (Walk.refused OneByteSection) (list_of s max mode) (omega arith) list_few

-- an answer of so few rows and host rows
pub record Small (a : Result Routes Refusal) : Type 0 where
  pub rows : rows_in a ≤ list_limit
  pub hosts : hosts_in a ≤ list_limit

count_few : (s : List ℕ) (r : Reading Row) → length r.rows ≤ length s → value_in 0 (count_meaning (count_answer s r)) ≤ list_limit
unfolding count_answer
count_few s r few =
    let Few : Result ℕ Refusal → Type 0 = λ a. value_in 0 (count_meaning a) ≤ list_limit in
    pick_leb Few (length s) list_limit _ (Err TooLong)
    (λ short. answer_any Few r.verdict (Ok (length r.rows)) Err (omega (arith, few, short)) (λ _. omega arith))
    (λ _. omega arith)

pub count_small : (s : List ℕ) (r : Reading Row) (max : ℕ) (mode : AddPath) → length r.rows ≤ length s → Small (with_hosts (count_answer s r) (hosts_of s max mode))
count_small s r max mode few = record {
  rows = rw (beside_rows (count_answer s r) (hosts_of s max mode)) (count_few s r few);
  hosts = counted_hosts (up_to max) (fair max) s mode r;
}

small_narrow : (a : Result Routes Refusal) → Small a → Narrow (in_fields (routes_meaning a))
small_narrow (Ok a) h = record { a = omega (arith, h.rows); b = omega (arith, h.hosts); c = omega arith }
small_narrow (Err r) h = refused_narrow _

module _ (s : List ℕ) (max : ℕ) (mode : AddPath) where
  pub count_list_narrow : Narrow (in_fields (routes_meaning (count_list (up_to max) s mode)))
  count_list_narrow = small_narrow (count_list (up_to max) s mode) (count_small s (list_of s max mode) max mode (list_few s max mode))

  pub read_list_narrow : (places : ℕ) → Narrow (in_fields (routes_meaning (read_list (up_to max) s mode places)))
  unfolding read_answer
  read_list_narrow places =
      let counted : Result ℕ Refusal = count_answer s (list_of s max mode) in
      pick_any (λ (a : Result ℕ Refusal). Narrow (in_fields (routes_meaning (with_hosts a (hosts_of s max mode))))) (has_room counted places) counted (Err NoRoom) count_list_narrow (refused_narrow _)

-- ---- what is written

pub write_after_narrow : (before : ℕ) (ws : List ℕ) (max : ℕ) (form : Form) (places : ℕ) → Narrow (in_fields (count_meaning (route_writer.write_after before ws max form places)))
write_after_narrow before ws max form places =
    after_any before ws max form places (λ (a : Result ℕ Refusal). Narrow (in_fields (count_meaning a))) number_narrow (λ r. refused_narrow _)

pub write_list_narrow : (ws : List ℕ) (max : ℕ) (form : Form) (places : ℕ) → Narrow (in_fields (count_meaning (route_writer.write_answer ws max form places)))
write_list_narrow ws max form places = rw (← write_front ws max form places) (write_after_narrow 0 ws max form places)

-- ---- marks taken off

-- fewer rows than 48 bits hold are the word itself, so C reads them from these bits
pub cleared_rows_lem : (n : ℕ) → n < 281474976710656 → word_of (cleared_fields (Ok n)) ≡ n
unfolding word_of
cleared_rows_lem n h = omega (arith, h)
