use Prim.Native.Nat.{◌-◌}
use lib.ListN.{length}
use Rattle.asns.specs.Asn.{width_of}
use Rattle.paths.specs.Segment.{known_type}
use Rattle.path_writer.proofs.WriteTurn.{WritingAhead}
use Rattle.path_writer.proofs.write_segments.Given as goal

abbrev pub invariant-loop-at : goal.invariant-loop-at
invariant-loop-at l = WritingAhead known_type (width_of l.width) l.pairs l.numbers l.initial.out l.total l.at l.from l.to l.out

abbrev pub decreases-loop-at : goal.decreases-loop-at
decreases-loop-at l = length l.pairs - l.at
