use mathlib.Core.Path.{refl}
use borrow.Author.Tests.{ne_eqb}
use Rattle.as4.proofs.stands_alone.Goals as goal

pub returns-else-segments-eq0 : goal.returns-else-segments-eq0
returns-else-segments-eq0 c = rw (c.if-segments-eq0.false.0, ne_eqb _ _ c.if-segments-eq0.false.1) refl
