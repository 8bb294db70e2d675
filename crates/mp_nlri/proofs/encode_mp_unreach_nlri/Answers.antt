use mathlib.Core.Path.{sym, ap, ◌∙◌}
use native.Mathlib.Omega.{arith}
use Prim.Native.Nat.{ℕ}
use lib.ListN.{length}
use Rattle.std.specs.Prelude.{Result}
use Rattle.wire.specs.Answer.{filled, count_meaning}
use Rattle.wire.specs.declared.refusal.Refusal.{Refusal}
use Rattle.families.specs.Family.{max_of}
use Rattle.families.specs.declared.Afi.TheVariants.{Ipv6}
use Rattle.routes.proofs.PrefixLaws.{passed}
use Rattle.route_writer.proofs.PromiseLaws.{after_written}
use Rattle.mp_nlri.specs.Value.{unreach_bytes}
use Rattle.mp_nlri.specs.Write.{route_bytes}
use Rattle.mp_nlri.proofs.WriteLaws.{pair_put}
use Rattle.mp_nlri.proofs.encode_mp_unreach_nlri.Goals as goal

pub returns-in_err-size : goal.returns-in_err-size
returns-in_err-size c =
    let a = c.args in
    let is = passed _ _ c.from_residual.ensures.1 in
    record {
      answer = is ∙ c.in_err-size.ensures.answer;
      out = c.in_err-size.ensures.out ∙ sym (ap (λ (r : Result ℕ Refusal). filled (count_meaning r) (unreach_bytes (route_bytes a.rows.now a.form)) a.out.now) is);
    }

pub returns : goal.returns
unfolding unreach_bytes
returns c =
    let a = c.args in
    let w = after_written 3 a.rows.now (max_of Ipv6) a.form (length a.out.now) _ (sym c.in_ok-size.ensures.answer) in
    record { answer = c.in_ok-size.ensures.answer; out = pair_put a.out.now _ _ (route_bytes a.rows.now a.form) (omega (arith, w)) c.in_ok-size.ensures.out c.put_octets.ensures }
