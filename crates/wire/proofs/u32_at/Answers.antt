use Rattle.wire.specs.Number.{be_at}
use Rattle.wire.proofs.NumberLaws.{four_at}
use mathlib.Core.Path.{refl}
use lib.ListN.{drop_of_length-le}
use Rattle.wire.proofs.u32_at.Goals as goal

pub returns-then-s-at : goal.returns-then-s-at
unfolding be_at
returns-then-s-at c = rw (drop_of_length-le c.args.s.now c.if-s-at.true)

pub returns-then-s-at-ge4 : goal.returns-then-s-at-ge4
returns-then-s-at-ge4 c = let a = c.args in four_at a.s.now a.at c.join4.ensures refl refl refl refl

pub returns : goal.returns
returns c =
    let a = c.args in
    four_at a.s.now a.at c.join4-2.ensures c.octet.ensures c.octet-2.ensures c.octet-3.ensures c.octet-4.ensures
