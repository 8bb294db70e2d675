use native.Mathlib.Omega.{arith}
use Prim.Native.Nat.{◌+◌}
use mathlib.Core.Path.{sym, ◌∙◌}
use Rattle.path_writer.proofs.WriteLaws.{adds_end, adds_short, adds_over, adds_on}
use Rattle.path_writer.proofs.adds_up.Goals as goal

pub returns-then-pairs-at-lt2 : goal.returns-then-pairs-at-lt2
returns-then-pairs-at-lt2 c = sym (c.loop-at.invariant.1 ∙ adds_short _ _ _ c.loop-at-test.true c.if-pairs-at-lt2.true)

pub overflow_cast-count : goal.overflow_cast-count
overflow_cast-count c = omega (arith, c.type_inv.pairs (c.loop-at.at + 1))

pub returns-then-left-count : goal.returns-then-left-count
returns-then-left-count c = sym (c.loop-at.invariant.1 ∙ adds_over c.args.pairs.now c.loop-at.at c.loop-at.left (omega (arith, c.if-pairs-at-lt2.false, c.loop-at.invariant.0)) c.if-left-count.true)

pub loop-at-preserved : goal.loop-at-preserved
loop-at-preserved c = (
  omega (arith, c.if-pairs-at-lt2.false, c.loop-at.invariant.0),
  c.loop-at.invariant.1 ∙ adds_on c.args.pairs.now c.loop-at.at c.loop-at.left (omega (arith, c.if-pairs-at-lt2.false, c.loop-at.invariant.0)) c.if-left-count.false,
)

pub returns : goal.returns
returns c = sym (c.loop-at.invariant.1 ∙ adds_end _ _ _ c.loop-at-test.false)
