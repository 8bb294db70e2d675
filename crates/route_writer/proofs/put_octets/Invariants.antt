use mathlib.Core.Path.{◌≡◌}
use Prim.Native.Nat.{◌-◌, ◌*◌, ◌≤◌}
use lib.ListN.{length, take}
use Rattle.wire.specs.Store.{laid}
use Rattle.route_bytes.specs.Encode.{address}
use Rattle.route_writer.specs.Private.{row_at}
use Rattle.route_writer.proofs.put_octets.Given as goal

abbrev pub invariant-loop-i : goal.invariant-loop-i
invariant-loop-i l = (l.i ≤ l.whole) × (length l.out ≡ length l.initial.out) × (l.out ≡ laid l.initial.out l.to (take (4 * l.i) (address (row_at l.rows l.at))))

abbrev pub decreases-loop-i : goal.decreases-loop-i
decreases-loop-i l = l.whole - l.i
