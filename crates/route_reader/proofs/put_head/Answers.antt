use Prim.Native.Nat.{ℕ, ◌+◌, ◌<◌}
use mathlib.Core.Path.{ap, ap₂, ◌∙◌}
use mathlib.Core.List.{[], ◌∷◌}
use native.Mathlib.Omega.{arith}
use lib.ListN.{get_or}
use Rattle.wire.specs.Store.{laid}
use Rattle.families.proofs.FamilyLaws.{mark_small}
use Rattle.route_reader.proofs.put_head.Goals as goal

pub overflow_add-first : goal.overflow_add-first
overflow_add-first c =
    let small : c.from.result + c.mark_of.result + c.args.mark < 1024 =
    omega (arith, c.from.ensures, c.mark_of.ensures, mark_small c.args.form, (c.type_inv.s c.id_size-k.result).fits, c.requires.to_in_bounds.1) in
    record { fits = omega (arith, small) }

pub overflow_add-first-2 : goal.overflow_add-first-2
overflow_add-first-2 c =
    let small : c.from.result + c.mark_of.result + c.args.mark < 1024 =
    omega (arith, c.from.ensures, c.mark_of.ensures, mark_small c.args.form, (c.type_inv.s c.id_size-k.result).fits, c.requires.to_in_bounds.1) in
    record { fits = omega (arith, small) }

pub returns : goal.returns
returns c =
    let a = c.args in
    c.put_pair.ensures
    ∙ ap₂ (λ (x y : ℕ). laid a.store.now a.to ((x + a.mark) ∷ y ∷ []))
    (ap₂ ◌+◌ (c.from.ensures ∙ ap (λ (j : ℕ). get_or a.s.now j 0) c.id_size-k.ensures) c.mark_of.ensures) c.id_of.ensures
