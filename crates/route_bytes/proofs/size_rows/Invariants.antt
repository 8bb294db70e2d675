use Rattle.route_bytes.proofs.PromiseLaws.{Sizing}
use Rattle.route_bytes.proofs.size_rows.Given as goal

abbrev pub invariant-loop-row : goal.invariant-loop-row
invariant-loop-row l = Sizing l.words l.max l.form l.row-index l.total
