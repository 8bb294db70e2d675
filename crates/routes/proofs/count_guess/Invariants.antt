use Prim.Native.Nat.{◌-◌}
use lib.ListN.{length}
use Rattle.families.specs.declared.Form.TheVariants.{Plain}
use Rattle.families.specs.declared.AddPath.TheVariants.{Guess}
use Rattle.routes.specs.ByTable.{by_table}
use Rattle.routes.proofs.Carried.{Carried}
use Rattle.routes.proofs.count_guess.Given as goal

abbrev pub invariant-loop-n : goal.invariant-loop-n
invariant-loop-n l = Carried (by_table l.counts) Guess Plain l.s l.rest l.n l.form l.rows l.hosts

abbrev pub decreases-loop-n : goal.decreases-loop-n
decreases-loop-n l = length l.rest - l.n
