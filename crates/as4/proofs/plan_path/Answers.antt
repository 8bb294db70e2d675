use mathlib.Core.Path.{sym, ◌∙◌}
use native.Mathlib.Omega.{arith}
use borrow.Author.Tests.{eqb-true}
use Rattle.std.proofs.lemmas.Result.{err_from_is_err_and}
use Rattle.std.specs.Prelude.{Ok, Err}
use Rattle.as4.specs.declared.Plan.TheVariants as P
use Rattle.as4.proofs.PromiseLaws.{no_fault, refused_says}
use Rattle.as4.proofs.SegmentLaws.{one_most}
use Rattle.as4.proofs.PlanLaws as plan
use Rattle.as4.proofs.PlanLaws.{built_planned, weighs}
use Rattle.as4.proofs.plan_path.Goals as goal

pub returns-in_err-sizes_fault : goal.returns-in_err-sizes_fault
returns-in_err-sizes_fault c =
    let a = c.args in
    let why = err_from_is_err_and c.from_residual.result c.from_residual.ensures.1 in
    rw (why.1, why.2) (plan.built_sizes a.as_path.now a.as4_path.now a.aggregator.now a.as4_aggregator.now _ c.in_err-sizes_fault.ensures)

pub returns-then-is_empty : goal.returns-then-is_empty
returns-then-is_empty c =
    let a = c.args in
    plan.built_absent a.as_path.now a.as4_path.now a.aggregator.now a.as4_aggregator.now c.in_ok-sizes_fault.ensures (eqb-true _ _ (sym c.is_empty.ensures ∙ c.if-is_empty.true))

pub returns-in_err-old : goal.returns-in_err-old
returns-in_err-old c =
    let a = c.args in
    let why = err_from_is_err_and c.from_residual-in_err-old.result c.from_residual-in_err-old.ensures.1 in
    rw (why.1, why.2)
    (built_planned a.as_path.now a.as4_path.now a.aggregator.now a.as4_aggregator.now (Err _) c.in_ok-sizes_fault.ensures c.ignores_as4_path-ignores.ensures
    (plan.both_first c.ignores_as4_path-ignores.result a.as_path.now a.as4_path.now _ (refused_says _ _ _ (sym c.in_err-old.ensures))))

pub returns-in_err-new : goal.returns-in_err-new
returns-in_err-new c =
    let a = c.args in
    let old = weighs _ _ _ c.in_ok-old.ensures in
    let why = err_from_is_err_and c.from_residual-in_err-new.result c.from_residual-in_err-new.ensures.1 in
    rw (why.1, why.2)
    (built_planned a.as_path.now a.as4_path.now a.aggregator.now a.as4_aggregator.now (Err _) c.in_ok-sizes_fault.ensures c.ignores_as4_path-ignores.ensures
    (plan.both_verdict c.ignores_as4_path-ignores.result a.as_path.now a.as4_path.now old.good ∙ refused_says _ _ _ (sym c.in_err-new.ensures)))

pub returns-then-stands_alone : goal.returns-then-stands_alone
returns-then-stands_alone c =
    let a = c.args in
    built_planned a.as_path.now a.as4_path.now a.aggregator.now a.as4_aggregator.now (Ok P.Alone) c.in_ok-sizes_fault.ensures c.ignores_as4_path-ignores.ensures
    (plan.weighs_alone _ (weighs _ _ _ c.in_ok-old.ensures) (weighs _ _ _ c.in_ok-new.ensures) (sym c.stands_alone.ensures ∙ c.if-stands_alone.true))

pub leading_part-lead-requires : goal.leading_part-lead-requires
leading_part-lead-requires c =
    let read = no_fault _ _ (weighs _ _ _ c.in_ok-old.ensures).good in
    record { good = read.1; short = read.0 }

pub overflow_add-path-2 : goal.overflow_add-path-2
overflow_add-path-2 c =
    let few = plan.weighs_few _ (weighs _ _ _ c.in_ok-old.ensures) (weighs _ _ _ c.in_ok-new.ensures) (sym c.stands_alone.ensures ∙ c.if-stands_alone.false) c.leading_part-lead.ensures in
    omega (arith, few, c.split_count.ensures, one_most c.leading_part-lead.result.split)

pub overflow_add-path-4 : goal.overflow_add-path-4
overflow_add-path-4 c =
    omega (
      arith,
      plan.weighs_few _ (weighs _ _ _ c.in_ok-old.ensures) (weighs _ _ _ c.in_ok-new.ensures) (sym c.stands_alone.ensures ∙ c.if-stands_alone.false) c.leading_part-lead.ensures,
    )

pub returns : goal.returns
returns c =
    let a = c.args in
    built_planned a.as_path.now a.as4_path.now a.aggregator.now a.as4_aggregator.now (Ok (P.Built c.leading_part-lead.result _)) c.in_ok-sizes_fault.ensures c.ignores_as4_path-ignores.ensures
    (plan.weighs_made _ (weighs _ _ _ c.in_ok-old.ensures) (weighs _ _ _ c.in_ok-new.ensures) (sym c.stands_alone.ensures ∙ c.if-stands_alone.false) c.leading_part-lead.ensures _ c.split_count.ensures)
