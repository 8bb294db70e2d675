use Rattle.std.proofs.Common.{◌≡◌, length, sym, ◌∙◌, arith}
use borrow.Author.Tests.{eqb-true, eqb-false}
use Rattle.std.proofs.lemmas.Result.{err_from_is_err_and}
use Rattle.route_bytes.proofs.PromiseLaws.{sizing_start, sizing_step, sizing_refused, sizing_cut, sizing_done}
use Rattle.route_bytes.proofs.size_rows.Goals as goal

pub returns-then-not-is_empty : goal.returns-then-not-is_empty
returns-then-not-is_empty c =
    sizing_cut c.args.words.now c.args.max c.args.form
    (λ whole. eqb-false _ 0 (sym c.is_empty.ensures ∙ c.if-not-is_empty.true) (omega (arith, c.as_chunks.ensures.back_len, whole)))

pub loop-row-init : goal.loop-row-init
loop-row-init c = sizing_start c.args.words.now c.args.max c.args.form c.requires

pub overflow_add-total : goal.overflow_add-total
overflow_add-total c =
    let a = c.args in
    let l = c.loop-row in
    let rows = c.as_chunks.ensures in
    let again = sizing_step a.words.now a.max a.form c.requires _ rows.front rows.front_len l.row-index l.total l.invariant c.loop-row-test.true _ c.row_size.ensures _ c.in_ok-total.was in
    omega (arith, again.within, again.few)

pub loop-row-preserved : goal.loop-row-preserved
loop-row-preserved c =
    let a = c.args in
    let l = c.loop-row in
    let rows = c.as_chunks.ensures in
    sizing_step a.words.now a.max a.form c.requires _ rows.front rows.front_len l.row-index l.total l.invariant c.loop-row-test.true _ c.row_size.ensures _ c.in_ok-total.was

pub returns-in_err-total : goal.returns-in_err-total
returns-in_err-total c =
    let a = c.args in
    let l = c.loop-row in
    let rows = c.as_chunks.ensures in
    let why = err_from_is_err_and c.from_residual.result c.from_residual.ensures.1 in
    rw (why.1, why.2)
    (sizing_refused a.words.now a.max a.form c.requires _ rows.front rows.front_len l.row-index l.total l.invariant c.loop-row-test.true _ c.row_size.ensures _ c.in_err-total.was)

pub returns : goal.returns
returns c =
    let a = c.args in
    let l = c.loop-row in
    let rows = c.as_chunks.ensures in
    let none : length c.as_chunks.result.1.now ≡ 0 = eqb-true _ _ (sym c.is_empty.ensures ∙ c.if-not-is_empty.false) in
    sizing_done a.words.now a.max a.form c.requires _ rows.front rows.front_len l.row-index l.total l.invariant (sym rows.back_len ∙ none) c.loop-row-test.false
