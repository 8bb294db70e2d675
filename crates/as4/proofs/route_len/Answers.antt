use mathlib.Core.Path.{refl}
use borrow.Author.Tests.{eq-eqb, ne_eqb}
use Rattle.as4.specs.Private.{route_count}
use Rattle.as4.proofs.route_len.Goals as goal

pub returns-then-kind-eq-AS_SET : goal.returns-then-kind-eq-AS_SET
unfolding route_count
returns-then-kind-eq-AS_SET c = rw (eq-eqb _ _ c.if-kind-eq-AS_SET.true) refl

pub returns : goal.returns
unfolding route_count
returns c = rw (ne_eqb _ _ c.if-kind-eq-AS_SET.false) c.kept_count.ensures
