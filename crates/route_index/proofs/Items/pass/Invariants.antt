use mathlib.Core.Path.{◌≡◌}
use Prim.Native.Nat.{◌≤◌}
use Rattle.routes.specs.ByTable.{by_table}
use Rattle.route_index.specs.Private.{skipped}
use Rattle.route_index.proofs.Items.pass.Given as goal

abbrev pub invariant-loop-left : goal.invariant-loop-left
invariant-loop-left l =
    let read = by_table l.self.counts.now in
    (l.left ≤ l.n) × (skipped read l.self.form l.self.bytes.now l.n l.from ≡ skipped read l.self.form l.self.bytes.now l.left l.at)

abbrev pub decreases-loop-left : goal.decreases-loop-left
decreases-loop-left l = l.left
