use Rattle.std.proofs.lemmas.Result.{err_from_is_err_and}
use Rattle.path_writer.proofs.WriteTurn.{judged_start, judged_next, judged_stop, judged_done}
use Rattle.path_writer.proofs.first_fault.Goals as goal

pub loop-at-init : goal.loop-at-init
loop-at-init c = judged_start _ _ _ _ c.requires.numbers_value

-- this stands before the returned fault, so that a build that passes over a fault is refused here first
pub loop-at-preserved : goal.loop-at-preserved
loop-at-preserved c = judged_next c.loop-at.invariant c.loop-at-test.true c.in_ok-segment_fault.ensures

pub returns-in_err-segment_fault : goal.returns-in_err-segment_fault
returns-in_err-segment_fault c =
    let why = err_from_is_err_and c.from_residual.result c.from_residual.ensures.1 in
    rw (why.1, why.2) (judged_stop c.loop-at.invariant c.loop-at-test.true _ c.in_err-segment_fault.ensures)

pub returns : goal.returns
returns c = judged_done c.loop-at.invariant c.loop-at-test.false
