use Rattle.route_index.proofs.KnownLaws.{Ahead}
use Rattle.route_index.proofs.Items.pass_known_alike.Given as goal

abbrev pub invariant-loop-left : goal.invariant-loop-left
invariant-loop-left l = Ahead l.self.counts.now l.self.form l.self.bytes.now l.most l.from l.left l.at

abbrev pub decreases-loop-left : goal.decreases-loop-left
decreases-loop-left l = l.left
