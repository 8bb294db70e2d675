use mathlib.Core.Path.{◌≡◌, sym, ◌∙◌}
use Rattle.std.proofs.lemmas.Result.{err_from_is_err_and}
use Rattle.as4.specs.Standing.{has_as_trans}
use Rattle.as4.proofs.StandingLaws.{standing_refused, standing_good}
use Rattle.as4.proofs.which_aggregator.Goals as goal
use Rattle.as4.proofs.which_aggregator.Goals.{else-both_there-via-then-both_there+else-has_as_trans, else-both_there-via-else-both_there}

pub returns-in_err-sizes_fault : goal.returns-in_err-sizes_fault
returns-in_err-sizes_fault c =
    let why = err_from_is_err_and c.from_residual.result c.from_residual.ensures.1 in
    rw (why.1, why.2) (standing_refused _ _ _ c.in_err-sizes_fault.ensures)

pub returns-then-has_as_trans : goal.returns-then-has_as_trans
returns-then-has_as_trans c =
    let looked : c.has_as_trans.result ≡ has_as_trans c.args.aggregator.now = c.has_as_trans.ensures in
    standing_good _ _ _ c.in_ok-sizes_fault.ensures (rw (sym c.both_there.ensures ∙ c.if-both_there.true, sym looked ∙ c.if-has_as_trans.true))

pub returns : goal.returns
returns c =
    standing_good _ _ _ c.in_ok-sizes_fault.ensures
    (elim c.else-both_there.branch [
      | else-both_there-via-then-both_there+else-has_as_trans w ↦
          (let looked : w.has_as_trans.result ≡ has_as_trans c.args.aggregator.now = w.has_as_trans.ensures in
          rw (sym c.both_there.ensures ∙ w.if-both_there.true, sym looked ∙ w.if-has_as_trans.false))
      | else-both_there-via-else-both_there w ↦ rw (sym c.both_there.ensures ∙ w.if-both_there.false)
    ])
