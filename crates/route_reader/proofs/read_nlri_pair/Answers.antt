use mathlib.Core.Path.{refl, sym, ◌∙◌}
use native.Mathlib.Omega.{arith}
use Rattle.routes.proofs.TableLaws.{count_section_family}
use Rattle.route_reader.specs.Pair.{read_pair}
use Rattle.route_reader.proofs.PairLaws.{pair_first, pair_second, pair_both}
use Rattle.route_reader.proofs.read_nlri_pair.Goals as goal
use Rattle.route_reader.proofs.read_nlri_pair.Goals.{then-first-rows_in-via-then-first-rows_in, then-first-rows_in-via-else-first-rows_in+then-second-rows_in}

pub returns-then-first-rows_in-clause-answer : goal.returns-then-first-rows_in-clause-answer
unfolding read_pair
returns-then-first-rows_in-clause-answer c =
    let a = c.args in
    let table = c.put_counts.ensures refl in
    let one = c.count_section_by-one.ensures.answer ∙ count_section_family _ a.afi table a.s.now a.mode in
    let two = c.count_section_by-two.ensures.answer ∙ count_section_family _ a.afi table a.t.now a.mode in
    rw (← one, ← two) (sym elim c.then-first-rows_in.branch [
      | then-first-rows_in-via-then-first-rows_in w ↦ pair_first _ _ _ _ (omega (arith, c.rows_in.ensures, w.if-first-rows_in.true))
      | then-first-rows_in-via-else-first-rows_in+then-second-rows_in w ↦ pair_second _ _ _ _ (omega (arith, c.rows_in.ensures, w.if-first-rows_in.false)) (omega (arith, w.rows_in-else-first-rows_in.ensures, w.if-second-rows_in.true))
    ])

pub fill_counted-requires-clause-counted_value : goal.fill_counted-requires-clause-counted_value
fill_counted-requires-clause-counted_value c = c.count_section_by-one.ensures.answer ∙ count_section_family _ c.args.afi (c.put_counts.ensures refl) c.args.s.now c.args.mode

pub fill_counted-requires-2-clause-counted_value : goal.fill_counted-requires-2-clause-counted_value
fill_counted-requires-2-clause-counted_value c = c.count_section_by-two.ensures.answer ∙ count_section_family _ c.args.afi (c.put_counts.ensures refl) c.args.t.now c.args.mode

pub returns-clause-answer : goal.returns-clause-answer
unfolding read_pair
returns-clause-answer c =
    let a = c.args in
    let table = c.put_counts.ensures refl in
    let one = c.count_section_by-one.ensures.answer ∙ count_section_family _ a.afi table a.s.now a.mode in
    let two = c.count_section_by-two.ensures.answer ∙ count_section_family _ a.afi table a.t.now a.mode in
    rw (← one, ← two) (sym (pair_both _ _ _ _ (omega (arith, c.rows_in.ensures, c.if-first-rows_in.false)) (omega (arith, c.rows_in-else-first-rows_in.ensures, c.if-second-rows_in.false))))
