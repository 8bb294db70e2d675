use Prim.Native.Nat.{ℕ}
use mathlib.Core.Path.{◌≡◌, sym, ap, ◌∙◌}
use native.Mathlib.Omega.{arith}
use Rattle.routes.specs.ByTable.{by_table}
use Rattle.route_index.specs.Private.{skipped}
use Rattle.route_index.proofs.SkipLaws.{skip_zero}
use Rattle.route_index.proofs.Items.pass_known.Goals as goal

pub loop-left-smaller : goal.loop-left-smaller
loop-left-smaller c = c.pass_known_alike-p.ensures.passes.fewer

pub loop-left-preserved : goal.loop-left-preserved
loop-left-preserved c = (c.loop-left.invariant.0 ∙ c.pass_known_alike-p.ensures.passes.same, c.pass_known_alike-p.ensures.remain)

pub returns : goal.returns
returns c =
    let a = c.args.self in
    let none : c.loop-left.left ≡ 0 = omega (arith, c.loop-left-test.false) in
    sym (c.loop-left.invariant.0
    ∙ ap (λ (i : ℕ). skipped (by_table a.counts.now) a.form a.bytes.now i c.loop-left.at) none
    ∙ skip_zero (by_table a.counts.now) a.form a.bytes.now c.loop-left.at)
