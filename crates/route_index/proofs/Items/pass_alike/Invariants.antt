use Prim.Native.Nat.{◌+◌, ◌-◌, ◌≤◌}
use Rattle.route_index.proofs.SkipLaws.{Alike}
use Rattle.route_index.proofs.Items.pass_alike.Given as goal

abbrev pub invariant-loop-at : goal.invariant-loop-at
invariant-loop-at l = (l.passed ≤ l.most) × Alike l.self.counts.now l.self.form l.self.bytes.now l.from l.used l.most l.n l.last l.at (l.most - l.passed)

abbrev pub decreases-loop-at : goal.decreases-loop-at
decreases-loop-at l = l.last + 1 - l.at
