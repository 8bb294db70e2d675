use Rattle.std.proofs.Common.{ℕ, ◌+◌, List, length, sym, ap, ◌∙◌, arith}
use Rattle.std.specs.Prelude.{Result}
use Rattle.std.proofs.lemmas.Result.{err_from_is_err_and}
use Rattle.wire.specs.declared.refusal.Refusal.{Refusal}
use Rattle.families.specs.Family.{max_of}
use Rattle.families.specs.declared.Afi.TheVariants.{Ipv4}
use Rattle.route_bytes.specs.Encode.{bytes_of}
use Rattle.route_bytes.proofs.PromiseLaws.{measured_bytes}
use Rattle.route_writer.specs.Pair.{lists_meaning, write_pair_after}
use Rattle.route_writer.specs.declared.Lists.{Lists}
use Rattle.updates.specs.Body.{length_size}
use Rattle.update_writer.specs.Body.{body_bytes}
use Rattle.update_writer.proofs.BodyLaws.{body_by, body_by_lem, lists_fit, sections_put}
use Rattle.update_writer.proofs.encode_bgp_update_message.Goals as goal

pub returns-in_err-sizes-clause-answer : goal.returns-in_err-sizes-clause-answer
returns-in_err-sizes-clause-answer c =
    let a = c.args in
    let why = err_from_is_err_and c.from_residual.result c.from_residual.ensures.1 in
    rw (why.1, why.2)
    (ap (body_by (length a.attributes.now)) (sym c.in_err-sizes.was ∙ c.encode_nlri_pair.ensures.answer)
    ∙ sym (body_by_lem a.withdrawn.now a.attributes.now a.announced.now a.form (length a.out.now)))

pub overflow_add-at : goal.overflow_add-at
overflow_add-at c =
    let a = c.args in
    omega (arith, (lists_fit a.withdrawn.now a.attributes.now a.announced.now a.form (length a.out.now) _ (sym c.encode_nlri_pair.ensures.answer ∙ c.in_ok-sizes.was)).low)

pub overflow_cast-sizes : goal.overflow_cast-sizes
overflow_cast-sizes c =
    let a = c.args in
    omega (arith, (lists_fit a.withdrawn.now a.attributes.now a.announced.now a.form (length a.out.now) _ (sym c.encode_nlri_pair.ensures.answer ∙ c.in_ok-sizes.was)).whole)

pub overflow_cast-attributes : goal.overflow_cast-attributes
overflow_cast-attributes c =
    let a = c.args in
    omega (arith, (lists_fit a.withdrawn.now a.attributes.now a.announced.now a.form (length a.out.now) _ (sym c.encode_nlri_pair.ensures.answer ∙ c.in_ok-sizes.was)).whole)

pub overflow_add-at-2 : goal.overflow_add-at-2
overflow_add-at-2 c =
    let a = c.args in
    omega (arith, (lists_fit a.withdrawn.now a.attributes.now a.announced.now a.form (length a.out.now) _ (sym c.encode_nlri_pair.ensures.answer ∙ c.in_ok-sizes.was)).low)

pub overflow_add-result : goal.overflow_add-result
overflow_add-result c =
    let a = c.args in
    omega (arith, (lists_fit a.withdrawn.now a.attributes.now a.announced.now a.form (length a.out.now) _ (sym c.encode_nlri_pair.ensures.answer ∙ c.in_ok-sizes.was)).whole)

pub overflow_add-result-2 : goal.overflow_add-result-2
overflow_add-result-2 c =
    let a = c.args in
    omega (arith, (lists_fit a.withdrawn.now a.attributes.now a.announced.now a.form (length a.out.now) _ (sym c.encode_nlri_pair.ensures.answer ∙ c.in_ok-sizes.was)).whole)

pub overflow_add-result-3 : goal.overflow_add-result-3
overflow_add-result-3 c =
    let a = c.args in
    omega (arith, (lists_fit a.withdrawn.now a.attributes.now a.announced.now a.form (length a.out.now) _ (sym c.encode_nlri_pair.ensures.answer ∙ c.in_ok-sizes.was)).whole)

pub returns : goal.returns
unfolding body_bytes
returns c =
    let a = c.args in
    let e = c.encode_nlri_pair.ensures in
    let fits = lists_fit a.withdrawn.now a.attributes.now a.announced.now a.form (length a.out.now) _ (sym e.answer ∙ c.in_ok-sizes.was) in
    let w : List ℕ = bytes_of a.withdrawn.now (max_of Ipv4) a.form in
    let n : List ℕ = bytes_of a.announced.now (max_of Ipv4) a.form in
    let size = (measured_bytes a.withdrawn.now (max_of Ipv4) a.form _ fits.first).1 in
    let last = (measured_bytes a.announced.now (max_of Ipv4) a.form _ fits.second).1 in
    let lists =
    e.out
    ∙ ap (λ (x : Result Lists Refusal). write_pair_after (lists_meaning x) length_size (length_size + length a.attributes.now) w n a.out.now) c.in_ok-sizes.was in
    record {
      answer = ap (body_by (length a.attributes.now)) (sym c.in_ok-sizes.was ∙ e.answer) ∙ sym (body_by_lem a.withdrawn.now a.attributes.now a.announced.now a.form (length a.out.now));
      out = sections_put a.out.now _ _ _ _ w a.attributes.now n _ size (omega (arith, fits.room, last)) lists c.put_u16.ensures c.put_u16-2.ensures c.copy_at.ensures;
    }
