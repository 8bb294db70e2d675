use Prim.Native.Nat.{◌≤◌}
use lib.ListN.{length}
use Rattle.routes.proofs.Pending.{Pending}
use Rattle.routes.proofs.count_form.Given as goal

abbrev pub invariant-loop-n : goal.invariant-loop-n
invariant-loop-n l = record { pending : Pending l.counts l.s l.k l.item l.n l.rows l.hosts; octets : l.n ≤ 255 }

abbrev pub decreases-loop-n : goal.decreases-loop-n
decreases-loop-n l = length l.item
