use native.Mathlib.Omega.{arith}
use Prim.Native.Nat.{ℕ}
use mathlib.Core.Bool.{◌&&◌}
use mathlib.Core.Path.{ap, ◌∙◌}
use lib.Dec.{ltb}
use Rattle.route_index.proofs.AskLaws.{judge_none, judge_start, judge_step, judge_done}
use Rattle.route_index.proofs.is_index.Goals as goal

pub returns-in_default : goal.returns-in_default
returns-in_default c = judge_none c.args.end c.args.index.now (omega (arith, c.in_default.ensures.item.3))

pub loop-i-init : goal.loop-i-init
loop-i-init c = judge_start c.args.end c.args.index.now c.in-Some.ensures.item.3.0

pub loop-i-preserved : goal.loop-i-preserved
loop-i-preserved c = judge_step c.loop-i.invariant c.loop-i-test.true

pub returns : goal.returns
returns c =
    ap (λ (p : ℕ). c.loop-i.rises && ltb p c.args.end) (c.from.ensures ∙ c.in-Some.ensures.item.3.1 0) ∙ judge_done c.loop-i.invariant c.loop-i-test.false
