use Prim.Native.Nat.{◌-◌}
use lib.ListN.{length}
use Rattle.route_writer.specs.Private.{Ahead}
use Rattle.route_writer.proofs.fill_short.Given as goal

abbrev pub invariant-loop-to : goal.invariant-loop-to
invariant-loop-to l = Ahead 32 l.form l.rows l.initial.out l.at l.to l.out

abbrev pub decreases-loop-to : goal.decreases-loop-to
decreases-loop-to l = length l.rows - l.at
