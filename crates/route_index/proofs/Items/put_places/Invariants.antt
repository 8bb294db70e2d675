use Rattle.routes.specs.ByTable.{by_table}
use Rattle.route_index.proofs.KnownLaws.{Putting}
use Rattle.route_index.proofs.Items.put_places.Given as goal

abbrev pub invariant-loop-i : goal.invariant-loop-i
invariant-loop-i l = Putting (by_table l.self.counts.now) l.self.form l.self.bytes.now l.places l.at l.i
