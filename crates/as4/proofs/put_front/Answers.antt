use mathlib.Core.Path.{sym, ◌∙◌}
use borrow.Author.Tests.{eqb-true}
use Rattle.as4.proofs.FrontLaws.{front_none, front_read}
use Rattle.as4.proofs.put_front.Goals as goal

pub returns-then-is_empty : goal.returns-then-is_empty
returns-then-is_empty c = let a = c.args in front_none a.front.now a.pairs.now a.numbers.now (eqb-true _ 0 (sym c.is_empty.ensures ∙ c.if-is_empty.true))

pub returns : goal.returns
returns c = let r = c.requires in front_read _ _ _ r.short r.good r.room c.parse_as_path.ensures.pairs c.parse_as_path.ensures.numbers
