use Prim.Native.Nat.{◌-◌}
use lib.ListN.{length}
use Rattle.as4.proofs.LeadTurn.{LedTo}
use Rattle.as4.proofs.leading_part.Given as goal

abbrev pub invariant-loop-kind : goal.invariant-loop-kind
invariant-loop-kind l = LedTo l.as_path l.need l.left l.lead

abbrev pub decreases-loop-kind : goal.decreases-loop-kind
decreases-loop-kind l = length l.as_path - l.lead.end
