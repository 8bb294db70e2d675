use Rattle.route_index.proofs.AskLaws.{Judging}
use Rattle.route_index.proofs.is_index.Given as goal

abbrev pub invariant-loop-i : goal.invariant-loop-i
invariant-loop-i l = Judging l.end l.index l.rises l.i
