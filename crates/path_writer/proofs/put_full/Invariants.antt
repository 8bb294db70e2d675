use Rattle.path_writer.proofs.NumberPut.{Putting}
use Rattle.path_writer.proofs.put_full.Given as goal

abbrev pub invariant-loop-left : goal.invariant-loop-left
invariant-loop-left l = Putting l.numbers l.from 4 l.n l.initial.out l.start l.at l.to l.left l.out

abbrev pub decreases-loop-left : goal.decreases-loop-left
decreases-loop-left l = l.left
