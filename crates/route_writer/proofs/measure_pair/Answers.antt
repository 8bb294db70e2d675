use Rattle.std.proofs.Common.{sym, ◌∙◌}
use Rattle.std.proofs.lemmas.Result.{err_from_is_err_and}
use Rattle.route_writer.specs.Pair.{write_pair_answer}
use Rattle.route_writer.proofs.measure_pair.Goals as goal

pub returns-in_err-a : goal.returns-in_err-a
unfolding write_pair_answer
returns-in_err-a c =
    let why = err_from_is_err_and c.from_residual.result c.from_residual.ensures.1 in
    rw (why.1, why.2, sym c.measure_nlri_prefixes.ensures ∙ c.in_err-a.was)

pub returns-in_err-b : goal.returns-in_err-b
unfolding write_pair_answer
returns-in_err-b c =
    let why = err_from_is_err_and c.from_residual-in_err-b.result c.from_residual-in_err-b.ensures.1 in
    rw (why.1, why.2, sym c.measure_nlri_prefixes.ensures ∙ c.in_ok-a.was, sym c.measure_nlri_prefixes-2.ensures ∙ c.in_err-b.was)

pub returns : goal.returns
unfolding write_pair_answer
returns c = rw (sym c.measure_nlri_prefixes.ensures ∙ c.in_ok-a.was, sym c.measure_nlri_prefixes-2.ensures ∙ c.in_ok-b.was) c.pair_size.ensures
