use mathlib.Core.Path.{sym}
use native.Mathlib.Omega.{arith}
use Rattle.updates.specs.Body.{withdrawn_at}
use Rattle.updates.proofs.BodyLaws.{parts_add_up, part_told}
use Rattle.updates.proofs.withdrawn_part.Goals as goal

pub returns : goal.returns
returns c =
    let found = sym c.in-Ok.ensures in
    part_told withdrawn_at c.args.body _ _ found (omega (arith, parts_add_up _ _ found)) c.part.ensures
