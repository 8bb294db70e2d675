use borrow.Author.Tests.{le-leb, lt-leb, le-ltb}
use Rattle.slots.specs.Slot.{found}
use Rattle.slots.proofs.differs_at.Goals as goal

pub returns-then-at-s : goal.returns-then-at-s
unfolding found
returns-then-at-s c = simp (lt-leb _ _ c.if-at-s.true)

pub returns-else-at-s : goal.returns-else-at-s
unfolding found
returns-else-at-s c = simp (le-leb _ _ c.if-at-s.false, le-ltb _ _ c.if-at-s.false)
