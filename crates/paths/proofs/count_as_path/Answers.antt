use Rattle.paths.proofs.PathTurn.{path_start, path_next, path_stop, path_done}
use native.Mathlib.Omega.{arith}
use Rattle.std.proofs.lemmas.Result.{err_from_is_err_and}
use Rattle.asns.proofs.AsnLaws.{width_pos}
use Rattle.paths.proofs.PromiseLaws.{count_long}
use Rattle.paths.proofs.count_as_path.Goals as goal

pub returns-then-value-gt-LIST_LIMIT : goal.returns-then-value-gt-LIST_LIMIT
returns-then-value-gt-LIST_LIMIT c = count_long _ _ c.if-value-gt-LIST_LIMIT.true

pub loop-at-init : goal.loop-at-init
loop-at-init c = path_start (width_pos c.args.width)

pub overflow_add-at : goal.overflow_add-at
overflow_add-at c =
    let next = path_next (width_pos c.args.width) c.loop-at.invariant _ c.in_ok-count.ensures in
    omega (arith, next.0, c.segment_size-at.ensures)

pub loop-at-smaller : goal.loop-at-smaller
loop-at-smaller c = omega (arith, c.segment_size-at.ensures)

pub loop-at-preserved : goal.loop-at-preserved
loop-at-preserved c =
    let next = path_next (width_pos c.args.width) c.loop-at.invariant _ c.in_ok-count.ensures in
    rw (c.segment_size-at.ensures, c.from-numbers.ensures) next.1

pub returns-in_err-count : goal.returns-in_err-count
returns-in_err-count c =
    let why = err_from_is_err_and c.from_residual.result c.from_residual.ensures.1 in
    rw (why.1, why.2) (path_stop (width_pos c.args.width) c.loop-at.invariant _ c.if-value-gt-LIST_LIMIT.false c.loop-at-test.true c.in_err-count.ensures)

pub returns : goal.returns
returns c = path_done (width_pos c.args.width) c.loop-at.invariant c.if-value-gt-LIST_LIMIT.false c.loop-at-test.false
