use mathlib.Core.Path.{◌≡◌, ap₂, ◌∙◌}
use Prim.Native.Nat.{◌+◌}
use native.Mathlib.Omega.{arith}
use lib.ListN.{get_or}
use Rattle.families.specs.Family.{mark_of}
use Rattle.families.proofs.FamilyLaws.{mark_small}
use Rattle.routes.specs.Prefix.{word_at}
use Rattle.routes.proofs.PrefixLaws.{row_parts, item_row_lem}
use Rattle.routes.proofs.row_of.Goals as goal

pub overflow_add-result : goal.overflow_add-result
overflow_add-result c = record { fits = omega (arith, c.from.ensures, c.mark_of.ensures, mark_small c.args.form, (c.type_inv.s c.id_size-k.result).fits) }

pub returns : goal.returns
unfolding word_at
returns c =
    let a = c.args in
    let k = c.id_size-k in
    let first : c.from.result + c.mark_of.result ≡ get_or a.s.now k.result 0 + mark_of a.form =
    ap₂ ◌+◌ c.from.ensures c.mark_of.ensures in
    row_parts _ _ _ _ _ _ _ c.u32_at.ensures c.u32_at-2.ensures c.u32_at-3.ensures c.u32_at-4.ensures
    ∙ item_row_lem a.s.now a.form a.e _ _ _ k.ensures first c.id_of.ensures (omega (arith, c.requires.front, k.ensures)) c.requires.within
