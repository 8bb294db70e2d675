use lib.ListN.{length}
use Rattle.attributes.proofs.SearchTurn.{Search}
use Rattle.attributes.proofs.find_attribute.Given as goal

abbrev pub invariant-loop-rest : goal.invariant-loop-rest
invariant-loop-rest l = Search l.section l.kind l.rest l.reach l.unreach l.first

abbrev pub decreases-loop-rest : goal.decreases-loop-rest
decreases-loop-rest l = length l.rest
