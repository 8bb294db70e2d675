use Rattle.messages.proofs.HeaderLaws.{marker_words}
use Rattle.messages.proofs.marked.Goals as goal

pub returns-then-not-ones_at : goal.returns-then-not-ones_at
returns-then-not-ones_at c = rw (marker_words c.args.s.now c.requires, ← c.ones_at.ensures, c.if-not-ones_at.true)

pub returns : goal.returns
returns c =
    let w = c.ones_at in
    rw (marker_words c.args.s.now c.requires, ← w.ensures, c.if-not-ones_at.false) c.ones_at-2.ensures
