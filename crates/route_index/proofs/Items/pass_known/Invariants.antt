use mathlib.Core.Path.{◌≡◌}
use Rattle.routes.specs.ByTable.{by_table}
use Rattle.route_index.specs.Private.{skipped, Remain}
use Rattle.route_index.proofs.Items.pass_known.Given as goal

abbrev pub invariant-loop-left : goal.invariant-loop-left
invariant-loop-left l =
    let read = by_table l.self.counts.now in
    (skipped read l.self.form l.self.bytes.now 16 l.from ≡ skipped read l.self.form l.self.bytes.now l.left l.at) × Remain read l.self.form l.self.bytes.now l.left l.at

abbrev pub decreases-loop-left : goal.decreases-loop-left
decreases-loop-left l = l.left
