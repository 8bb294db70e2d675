use mathlib.Core.Path.{sym}
use native.Mathlib.Omega.{arith}
use Rattle.attributes.proofs.SearchTurn.{verdict_once, verdict_twice}
use Rattle.attributes.proofs.verdict.Goals as goal

pub returns-then-max-gt1 : goal.returns-then-max-gt1
returns-then-max-gt1 c = sym (verdict_twice _ _ _ (omega (arith, c.if-max-gt1.true, c.max.ensures)))

pub returns : goal.returns
returns c = sym (verdict_once _ _ _ (omega (arith, c.if-max-gt1.false, c.max.ensures)))
