use Prim.Native.Nat.{◌+◌, ◌<◌}
use native.Mathlib.Omega.{arith}
use mathlib.Core.Path.{sym, ◌∙◌}
use Rattle.routes.proofs.PrefixLaws.{passed}
use Rattle.routes.specs.ByTable.{by_table}
use Rattle.routes.proofs.TableLaws.{fair_table}
use Rattle.route_index.proofs.IndexLaws.{Counting, counting_long, counting_start, counting_step, counting_stop, counting_done}
use Rattle.route_index.proofs.count_places.Goals as goal

pub returns-then-s-gt-LIST_LIMIT : goal.returns-then-s-gt-LIST_LIMIT
returns-then-s-gt-LIST_LIMIT c = let a = c.args in counting_long (by_table a.counts.now) a.form a.s.now (omega (arith, c.if-s-gt-LIST_LIMIT.true))

pub loop-at-init : goal.loop-at-init
loop-at-init c = let a = c.args in counting_start (by_table a.counts.now) a.form a.s.now

pub returns-in_err-at : goal.returns-in_err-at
returns-in_err-at c =
    let a = c.args in
    passed _ _ c.from_residual.ensures.1
    ∙ counting_stop (by_table a.counts.now) a.form a.s.now (fair_table a.counts.now) c.loop-at.at c.loop-at.n c.loop-at.invariant (omega (arith, c.if-s-gt-LIST_LIMIT.false)) _ (sym c.in_err-at.ensures)

pub loop-at-smaller : goal.loop-at-smaller
loop-at-smaller c =
    let turn :
    let a = c.args in
    let next = c.in_ok-at.at in
    (c.loop-at.at < next) × Counting (by_table a.counts.now) a.form a.s.now next (c.loop-at.n + 1) =
    let a = c.args in
    counting_step (by_table a.counts.now) a.form a.s.now (fair_table a.counts.now) c.loop-at.at c.loop-at.n c.loop-at.invariant _
    (omega (arith, c.loop-at-test.true)) (sym c.in_ok-at.ensures) in
    omega (arith, turn.0, turn.1.within)

pub loop-at-preserved : goal.loop-at-preserved
loop-at-preserved c =
    let a = c.args in
    (counting_step (by_table a.counts.now) a.form a.s.now (fair_table a.counts.now) c.loop-at.at c.loop-at.n c.loop-at.invariant _
    (omega (arith, c.loop-at-test.true)) (sym c.in_ok-at.ensures)).1

pub returns : goal.returns
returns c =
    let a = c.args in
    counting_done (by_table a.counts.now) a.form a.s.now (fair_table a.counts.now) c.loop-at.at c.loop-at.n c.loop-at.invariant (omega (arith, c.if-s-gt-LIST_LIMIT.false)) (omega (arith, c.loop-at-test.false))
