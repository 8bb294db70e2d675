use Prim.Native.Nat.{◌-◌}
use lib.ListN.{length}
use Rattle.families.specs.Family.{max_of}
use Rattle.routes.specs.List.{fixed}
use Rattle.route_reader.proofs.FillLaws.{Held}
use Rattle.route_reader.proofs.Filler.fill_form.Given as goal

abbrev pub invariant-loop-n : goal.invariant-loop-n
invariant-loop-n g l = Held (max_of g.A.Address.afi) (fixed l.form) l.form l.s l.initial.store l.rest l.n l.form l.to l.store

abbrev pub decreases-loop-n : goal.decreases-loop-n
decreases-loop-n g l = length l.rest - l.n
