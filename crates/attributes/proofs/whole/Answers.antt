use borrow.Author.Tests.{le-leb, lt-leb}
use Rattle.attributes.specs.Private.{whole_if}
use Rattle.attributes.proofs.whole.Goals as goal

pub returns-then-left-length : goal.returns-then-left-length
unfolding whole_if
returns-then-left-length c = simp (lt-leb _ _ c.if-left-length.true)

pub returns : goal.returns
unfolding whole_if
returns c = simp (le-leb _ _ c.if-left-length.false)
