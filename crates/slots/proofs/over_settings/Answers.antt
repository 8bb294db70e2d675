use mathlib.Core.Path.{refl}
use borrow.Author.Tests.{le-leb, lt-leb, le-ltb}
use Rattle.slots.specs.Slot.{found}
use Rattle.slots.proofs.over_settings.Goals as goal

pub returns-then-s-gt4 : goal.returns-then-s-gt4
unfolding found
returns-then-s-gt4 c = simp (lt-leb _ _ c.if-s-gt4.true) refl

pub returns-else-s-gt4 : goal.returns-else-s-gt4
unfolding found
returns-else-s-gt4 c = simp (le-leb _ _ c.if-s-gt4.false, le-ltb _ _ c.if-s-gt4.false)
