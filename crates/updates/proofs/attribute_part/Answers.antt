use mathlib.Core.Path.{sym}
use native.Mathlib.Omega.{arith}
use Rattle.updates.specs.Body.{attributes_at}
use Rattle.updates.proofs.BodyLaws.{parts_add_up, part_told}
use Rattle.updates.proofs.attribute_part.Goals as goal

pub overflow_add-start : goal.overflow_add-start
overflow_add-start c = omega (arith, parts_add_up _ _ (sym c.in-Ok.ensures))

pub overflow_add-start-2 : goal.overflow_add-start-2
overflow_add-start-2 c = omega (arith, parts_add_up _ _ (sym c.in-Ok.ensures))

pub returns : goal.returns
returns c =
    let found = sym c.in-Ok.ensures in
    part_told attributes_at c.args.body _ _ found (omega (arith, parts_add_up _ _ found)) c.part.ensures
