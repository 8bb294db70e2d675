-- The fields of every answer of the module mp are of 16 bits.
-- Assumes nothing.
use Prim.Native.Nat.{ℕ, ◌≤◌}
use mathlib.Core.List.{List}
use native.Mathlib.Omega.{arith}
use Rattle.std.specs.Prelude.{Result, Ok, Err}
use Rattle.wire.specs.Answer.{count_meaning}
use Rattle.wire.specs.declared.refusal.Refusal.{Refusal}
use Rattle.wire.specs.declared.refusal.Refusal.TheVariants.{NextHopLength}
use Rattle.wire.proofs.ChoiceLaws.{pick_any}
use Rattle.families.specs.Family.{max_of}
use Rattle.families.specs.declared.Afi.TheVariants.{Ipv6}
use Rattle.families.specs.declared.Form.{Form}
use Rattle.families.specs.declared.AddPath.{AddPath}
use Rattle.routes.specs.Promises.{count_list, read_list, routes_meaning}
use Rattle.routes.specs.declared.Routes.{Routes}
use Rattle.mp_nlri.specs.Value.{is_hop_size, pair_fault, head_of}
use Rattle.mp_nlri.specs.Read.{ipv6, reach_list, unreach_list, if_head, count_reach, read_reach, count_unreach, read_unreach}
use Rattle.mp_nlri.specs.Write.{write_reach, write_unreach}
use Rattle.mp_nlri.specs.declared.Head.{Head}
use Rattle.mp_nlri.proofs.ValueLaws.{head_with, head_cases, hop_few}
use Rattle.words.specs.Word.{in_fields, Narrow}
use Rattle.words.proofs.FlagLaws.{flag_small}
use Rattle.words.proofs.WordLaws.{refused_narrow}
use Rattle.firmware.specs.Fields.{reach_fields}
use Rattle.firmware.proofs.Bounds.{answer_any}
use Rattle.firmware.proofs.ListBounds.{count_list_narrow, read_list_narrow, write_after_narrow}

-- ---- MP_REACH_NLRI

with_head_lem : (head : Head) (a : Result Routes Refusal) → head.next_hop ≤ 32 → Narrow (in_fields (routes_meaning a)) → Narrow (reach_fields (if_head (Ok head) a))
with_head_lem head (Ok a) few h = record { a = h.a; b = h.b; c = omega (arith, few, flag_small head.reserved) }
with_head_lem head (Err r) few h = record { a = omega arith; b = omega arith; c = omega arith }

reach_narrow : (v : List ℕ) (a : Result Routes Refusal) → Narrow (in_fields (routes_meaning a)) → Narrow (reach_fields (if_head (head_of v) a))
reach_narrow v a h =
    head_cases v (λ (x : Result Head Refusal). Narrow (reach_fields (if_head x a)))
    (λ r. record { a = omega arith; b = omega arith; c = omega arith })
    (λ hop reserved k. with_head_lem (head_with hop reserved) a (hop_few hop k.sized) h)

module _ (v : List ℕ) (mode : AddPath) where
  pub count_reach_narrow : Narrow (reach_fields (count_reach v mode))
  unfolding count_reach
  count_reach_narrow = reach_narrow v (count_list ipv6 (reach_list v) mode) (count_list_narrow (reach_list v) (max_of Ipv6) mode)

  pub read_reach_narrow : (places : ℕ) → Narrow (reach_fields (read_reach v mode places))
  unfolding read_reach
  read_reach_narrow places = reach_narrow v (read_list ipv6 (reach_list v) mode places) (read_list_narrow (reach_list v) (max_of Ipv6) mode places)

  -- ---- MP_UNREACH_NLRI

  abbrev Fine : Result Routes Refusal → Type 0
  Fine a = Narrow (in_fields (routes_meaning a))

  pub count_unreach_narrow : Narrow (in_fields (routes_meaning (count_unreach v mode)))
  unfolding count_unreach
  count_unreach_narrow = answer_any Fine (pair_fault v) _ Err (count_list_narrow (unreach_list v) (max_of Ipv6) mode) (λ r. refused_narrow _)

  pub read_unreach_narrow : (places : ℕ) → Narrow (in_fields (routes_meaning (read_unreach v mode places)))
  unfolding read_unreach
  read_unreach_narrow places = answer_any Fine (pair_fault v) _ Err (read_list_narrow (unreach_list v) (max_of Ipv6) mode places) (λ r. refused_narrow _)

-- ---- what is written

pub write_reach_narrow : (hop : ℕ) (rows : List ℕ) (form : Form) (places : ℕ) → Narrow (in_fields (count_meaning (write_reach hop rows form places)))
unfolding write_reach
write_reach_narrow hop rows form places =
    pick_any (λ (a : Result ℕ Refusal). Narrow (in_fields (count_meaning a))) (is_hop_size hop) _ (Err NextHopLength) (write_after_narrow _ rows (max_of Ipv6) form places) (refused_narrow _)

pub write_unreach_narrow : (rows : List ℕ) (form : Form) (places : ℕ) → Narrow (in_fields (count_meaning (write_unreach rows form places)))
write_unreach_narrow rows form places = write_after_narrow 3 rows (max_of Ipv6) form places
