use lib.ListN.{drop_of_length-le}
use Rattle.wire.specs.Number.{be_at}
use Rattle.wire.proofs.NumberLaws.{two_at}
use mathlib.Core.Path.{refl}
use Rattle.wire.proofs.u16_at.Goals as goal

pub returns-then-s-at : goal.returns-then-s-at
unfolding be_at
returns-then-s-at c = rw (drop_of_length-le c.args.s.now c.if-s-at.true)

pub returns : goal.returns
returns c = let a = c.args in two_at a.s.now a.at c.join2.ensures refl c.octet.ensures
