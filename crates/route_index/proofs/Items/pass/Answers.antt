use mathlib.Core.Path.{◌≡◌, refl, sym, ap, ◌∙◌}
use Prim.Native.Nat.{ℕ}
use native.Mathlib.Omega.{arith}
use Rattle.routes.proofs.PrefixLaws.{passed}
use Rattle.routes.specs.ByTable.{by_table}
use Rattle.route_index.specs.Private.{skipped}
use Rattle.route_index.proofs.SkipLaws.{skip_zero, skip_end, item_here, stop_here}
use Rattle.route_index.proofs.Items.pass.Goals as goal

pub loop-left-init : goal.loop-left-init
loop-left-init c = (omega arith, refl)

pub returns-in_err-item : goal.returns-in_err-item
returns-in_err-item c =
    let a = c.args.self in
    let stop = stop_here a.counts.now a.form a.bytes.now c.loop-left.at c.loop-left.left _ (omega (arith, c.loop-left-test.true)) c.if-self-at.false c.in_err-item.ensures in
    passed _ _ c.from_residual.ensures.1 ∙ sym (c.loop-left.invariant.1 ∙ stop)

pub pass_alike-p-requires : goal.pass_alike-p-requires
pass_alike-p-requires c =
    let a = c.args.self in
    record {
      some = omega (arith, c.loop-left-test.true);
      few = omega (arith, c.loop-left.invariant.0, c.requires);
      item = item_here a.counts.now a.form a.bytes.now c.loop-left.at _ c.in_ok-item.ensures;
    }

pub loop-left-smaller : goal.loop-left-smaller
loop-left-smaller c = c.pass_alike-p.ensures.fewer

pub loop-left-preserved : goal.loop-left-preserved
loop-left-preserved c = (omega (arith, c.loop-left.invariant.0, c.pass_alike-p.ensures.fewer), c.loop-left.invariant.1 ∙ c.pass_alike-p.ensures.same)

pub returns-then-self-at : goal.returns-then-self-at
returns-then-self-at c =
    let a = c.args.self in
    sym (c.loop-left.invariant.1 ∙ skip_end (by_table a.counts.now) a.form a.bytes.now c.loop-left.left c.loop-left.at c.if-self-at.true)

pub returns : goal.returns
returns c =
    let a = c.args.self in
    let none : c.loop-left.left ≡ 0 = omega (arith, c.loop-left-test.false) in
    sym (c.loop-left.invariant.1
    ∙ ap (λ (i : ℕ). skipped (by_table a.counts.now) a.form a.bytes.now i c.loop-left.at) none
    ∙ skip_zero (by_table a.counts.now) a.form a.bytes.now c.loop-left.at)
