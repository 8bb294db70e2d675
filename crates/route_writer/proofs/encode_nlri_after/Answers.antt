use Rattle.std.proofs.Common.{length, sym, ◌∙◌, arith}
use Rattle.std.proofs.lemmas.Result.{err_from_is_err_and}
use Rattle.families.specs.Family.{max_of}
use Rattle.route_writer.proofs.PromiseLaws.{after_refused, after_long, after_full, after_bytes}
use Rattle.route_writer.proofs.encode_nlri_after.Goals as goal

pub returns-in_err-size-clause-answer : goal.returns-in_err-size-clause-answer
returns-in_err-size-clause-answer c =
    let a = c.args in
    let why = err_from_is_err_and c.from_residual.result c.from_residual.ensures.1 in
    rw (why.1, why.2) (after_refused a.before a.rows.now (max_of a.afi) a.form (length a.out.now) _ (sym c.measure_nlri_prefixes.ensures ∙ c.in_err-size.was))

pub returns-then-before-gt-LIST_LIMIT-clause-answer : goal.returns-then-before-gt-LIST_LIMIT-clause-answer
returns-then-before-gt-LIST_LIMIT-clause-answer c =
    let a = c.args in
    after_long a.before a.rows.now (max_of a.afi) a.form (length a.out.now) _ (sym c.measure_nlri_prefixes.ensures ∙ c.in_ok-size.was) (omega arith)

pub returns-then-before-size-clause-answer : goal.returns-then-before-size-clause-answer
returns-then-before-size-clause-answer c =
    let a = c.args in
    after_long a.before a.rows.now (max_of a.afi) a.form (length a.out.now) _ (sym c.measure_nlri_prefixes.ensures ∙ c.in_ok-size.was) (omega arith)

pub returns-then-out-before-clause-answer : goal.returns-then-out-before-clause-answer
returns-then-out-before-clause-answer c =
    let a = c.args in
    after_full a.before a.rows.now (max_of a.afi) a.form (length a.out.now) _ (sym c.measure_nlri_prefixes.ensures ∙ c.in_ok-size.was) (omega arith) c.if-out-before.true

pub returns-clause-answer : goal.returns-clause-answer
returns-clause-answer c =
    let a = c.args in
    after_bytes a.before a.rows.now (max_of a.afi) a.form (length a.out.now) _ (sym c.measure_nlri_prefixes.ensures ∙ c.in_ok-size.was) (omega arith) c.if-out-before.false
