use mathlib.Core.Path.{◌∙◌}
use native.Mathlib.Omega.{arith}
use Rattle.asns.specs.Asn.{width_of}
use Rattle.paths.proofs.NumberTurn.{numbers_none, numbers_more, numbers_all, place_fits}
use Rattle.paths.proofs.put_each.Goals as goal

pub loop-i-init : goal.loop-i-init
loop-i-init c = numbers_none _ _ _

pub number_at-requires : goal.number_at-requires
number_at-requires c = rw c.asn_bytes.ensures (place_fits _ _ _ _ c.requires c.loop-i-test.true)

pub loop-i-preserved : goal.loop-i-preserved
loop-i-preserved c =
    let a = c.args in
    rw c.loop-i.invariant
    (numbers_more (width_of a.width) a.bytes.now a.numbers.now c.loop-i.i _ c.loop-i-test.true (rw c.asn_bytes.ensures at c.number_at.ensures))

pub returns : goal.returns
returns c = c.loop-i.invariant ∙ numbers_all _ _ _ c.loop-i.i (omega arith)
