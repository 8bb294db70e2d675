use mathlib.Core.Path.{sym}
use native.Mathlib.Omega.{arith}
use Rattle.std.proofs.lemmas.Result.{err_from_is_err_and}
use Rattle.asns.proofs.AsnLaws.{width_pos}
use Rattle.as4.proofs.PromiseLaws.{fault_long, weighed_bad}
use Rattle.as4.proofs.WeighTurn.{weighing_start, weighing_next, weighing_stop, weighing_done}
use Rattle.as4.proofs.weigh.Goals as goal

pub returns-then-value-gt-LIST_LIMIT : goal.returns-then-value-gt-LIST_LIMIT
returns-then-value-gt-LIST_LIMIT c = sym (weighed_bad _ _ _ (fault_long _ _ c.if-value-gt-LIST_LIMIT.true))

pub loop-at-init : goal.loop-at-init
loop-at-init c = weighing_start (width_pos c.args.width)

pub returns-in_err-n : goal.returns-in_err-n
returns-in_err-n c =
    let why = err_from_is_err_and c.from_residual.result c.from_residual.ensures.1 in
    rw (why.1, why.2) (weighing_stop (width_pos c.args.width) c.loop-at.invariant _ c.if-value-gt-LIST_LIMIT.false c.loop-at-test.true c.in_err-n.ensures)

pub overflow_add-weight : goal.overflow_add-weight
overflow_add-weight c =
    let next = weighing_next (width_pos c.args.width) c.loop-at.invariant _ c.in_ok-n.ensures in
    rw (c.route_len.ensures, c.from.ensures) (omega (arith, next.2, c.if-value-gt-LIST_LIMIT.false))

pub overflow_add-weight-in-loop-at : goal.overflow_add-weight-in-loop-at
overflow_add-weight-in-loop-at c =
    let next = weighing_next (width_pos c.args.width) c.loop-at.invariant _ c.in_ok-n.ensures in
    omega (arith, next.3, c.if-value-gt-LIST_LIMIT.false, c.kept_count.ensures)

pub overflow_add-weight-in-loop-at-2 : goal.overflow_add-weight-in-loop-at-2
overflow_add-weight-in-loop-at-2 c =
    let next = weighing_next (width_pos c.args.width) c.loop-at.invariant _ c.in_ok-n.ensures in
    rw (c.kept_count-in-loop-at.ensures, c.from-in-loop-at.ensures) (omega (arith, next.4, c.if-value-gt-LIST_LIMIT.false))

pub overflow_add-at : goal.overflow_add-at
overflow_add-at c =
    let next = weighing_next (width_pos c.args.width) c.loop-at.invariant _ c.in_ok-n.ensures in
    omega (arith, next.1, c.if-value-gt-LIST_LIMIT.false, c.segment_size-at.ensures)

pub loop-at-preserved : goal.loop-at-preserved
loop-at-preserved c =
    let next = weighing_next (width_pos c.args.width) c.loop-at.invariant _ c.in_ok-n.ensures in
    rw (c.segment_size-at.ensures, c.route_len.ensures, c.from.ensures, c.kept_count.ensures, c.kept_count-in-loop-at.ensures, c.from-in-loop-at.ensures) next.0

pub returns : goal.returns
returns c = weighing_done (width_pos c.args.width) c.loop-at.invariant c.if-value-gt-LIST_LIMIT.false c.loop-at-test.false
