use mathlib.Core.Path.{◌∙◌}
use Rattle.std.proofs.lemmas.Result.{err_from_is_err_and}
use Rattle.as4.proofs.PlanLaws.{answer_bad}
use Rattle.as4.proofs.MergeStores.{planned_alone, planned_made}
use Rattle.as4.proofs.count_merged_as_path.Goals as goal

pub returns-in_err-plan_path : goal.returns-in_err-plan_path
returns-in_err-plan_path c =
    let why = err_from_is_err_and c.from_residual.result c.from_residual.ensures.1 in
    rw (why.1, why.2) (answer_bad _ _ c.in_err-plan_path.ensures)

pub returns-in-Alone : goal.returns-in-Alone
returns-in-Alone c = c.count_as_path.ensures ∙ (planned_alone _ _ _ c.in_ok-plan_path.ensures c.in-Alone.is).1

pub returns-in-Built : goal.returns-in-Built
returns-in-Built c = (planned_made _ _ _ c.in_ok-plan_path.ensures c.in-Built.is).1
