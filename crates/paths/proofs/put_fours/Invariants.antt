use Prim.Native.Nat.{◌*◌}
use mathlib.Core.Path.{◌≡◌}
use Rattle.wire.specs.Store.{laid}
use Rattle.asns.specs.Asn.{width_of}
use Rattle.paths.specs.Segment.{numbers_of}
use Rattle.paths.proofs.put_fours.Given as goal

abbrev pub invariant-loop-i : goal.invariant-loop-i
invariant-loop-i l = l.numbers ≡ laid l.initial.numbers 0 (numbers_of (width_of l.width) (4 * l.i) l.bytes)
