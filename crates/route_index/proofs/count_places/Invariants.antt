use Prim.Native.Nat.{◌-◌}
use lib.ListN.{length}
use Rattle.routes.specs.ByTable.{by_table}
use Rattle.route_index.proofs.IndexLaws.{Counting}
use Rattle.route_index.proofs.count_places.Given as goal

abbrev pub invariant-loop-at : goal.invariant-loop-at
invariant-loop-at l = Counting (by_table l.counts) l.fn.form l.s l.at l.n

abbrev pub decreases-loop-at : goal.decreases-loop-at
decreases-loop-at l = length l.s - l.at
