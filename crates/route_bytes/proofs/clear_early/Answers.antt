use Rattle.route_bytes.proofs.clear_early.Goals as goal

pub returns-then-clear_half : goal.returns-then-clear_half
returns-then-clear_half c = rw (← c.clear_half.ensures, c.if-clear_half.true)

pub returns-else-clear_half : goal.returns-else-clear_half
returns-else-clear_half c = rw (← c.clear_half.ensures, c.if-clear_half.false)
