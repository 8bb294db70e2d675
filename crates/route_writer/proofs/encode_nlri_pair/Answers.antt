use Rattle.std.proofs.Common.{ℕ, ◌+◌, List, length, sym, ap, ◌∙◌, arith}
use Rattle.wire.specs.Store.{laid}
use Rattle.families.specs.Family.{max_of}
use Rattle.route_bytes.specs.Encode.{bytes_of}
use Rattle.route_writer.proofs.PairLaws.{write_pair_fits}
use Rattle.route_writer.proofs.encode_nlri_pair.Goals as goal

pub put_list-requires : goal.put_list-requires
put_list-requires c =
    let a = c.args in
    let fits = write_pair_fits a.start a.between a.most (length a.out.now) _ a.first.now a.second.now (max_of a.afi) a.form (sym c.measure_pair.ensures ∙ c.in_ok-sizes.was) in
    (fits.first, omega (arith, fits.room))

pub overflow_add-start : goal.overflow_add-start
overflow_add-start c =
    let a = c.args in
    let fits = write_pair_fits a.start a.between a.most (length a.out.now) _ a.first.now a.second.now (max_of a.afi) a.form (sym c.measure_pair.ensures ∙ c.in_ok-sizes.was) in
    omega (arith, fits.room)

pub overflow_add-start-2 : goal.overflow_add-start-2
overflow_add-start-2 c =
    let a = c.args in
    let fits = write_pair_fits a.start a.between a.most (length a.out.now) _ a.first.now a.second.now (max_of a.afi) a.form (sym c.measure_pair.ensures ∙ c.in_ok-sizes.was) in
    omega (arith, fits.room)

pub put_list-requires-2 : goal.put_list-requires-2
put_list-requires-2 c =
    let a = c.args in
    let fits = write_pair_fits a.start a.between a.most (length a.out.now) _ a.first.now a.second.now (max_of a.afi) a.form (sym c.measure_pair.ensures ∙ c.in_ok-sizes.was) in
    (fits.second, omega (arith, fits.room))

pub returns-clause-out : goal.returns-clause-out
returns-clause-out c =
    let a = c.args in
    let at = a.start + c.in_ok-sizes.sizes.first + a.between in
    c.put_list-2.ensures ∙ ap (λ (l : List ℕ). laid l at (bytes_of a.second.now (max_of a.afi) a.form)) c.put_list.ensures
