use Prim.Native.Nat.{ℕ, ◌+◌}
use mathlib.Core.Path.{refl, sym, ap, ◌∙◌}
use native.Mathlib.Omega.{arith}
use lib.ListN.{length}
use Rattle.std.specs.Prelude.{Result}
use Rattle.wire.specs.Answer.{filled, count_meaning}
use Rattle.wire.specs.declared.refusal.Refusal.{Refusal}
use Rattle.families.specs.Family.{max_of}
use Rattle.families.specs.declared.Afi.TheVariants.{Ipv6}
use Rattle.routes.proofs.PrefixLaws.{passed}
use Rattle.route_writer.proofs.PromiseLaws.{after_written}
use Rattle.mp_nlri.specs.Value.{hop_start, reach_head, reach_bytes}
use Rattle.mp_nlri.specs.Write.{route_bytes, write_reach}
use Rattle.mp_nlri.proofs.WriteLaws.{head_size_lem, before_put}
use Rattle.mp_nlri.proofs.encode_mp_reach_nlri.Goals as goal

pub returns-then-not-is_hop_size : goal.returns-then-not-is_hop_size
unfolding write_reach
returns-then-not-is_hop_size c = record { answer = rw (sym c.if-not-is_hop_size.ensures); out = refl }

pub returns-in_err-size : goal.returns-in_err-size
unfolding write_reach
returns-in_err-size c =
    let a = c.args in
    let is = passed _ _ c.from_residual.ensures.1 in
    record {
      answer = rw (sym c.if-not-is_hop_size.ensures) (is ∙ c.in_err-size.ensures.answer);
      out = c.in_err-size.ensures.out ∙ sym (ap (λ (r : Result ℕ Refusal). filled (count_meaning r) (reach_bytes a.next_hop.now (route_bytes a.rows.now a.form)) a.out.now) is);
    }

pub put_head-requires : goal.put_head-requires
put_head-requires c =
    let a = c.args in
    let w = after_written (hop_start + length a.next_hop.now + 1) a.rows.now (max_of Ipv6) a.form (length a.out.now) _ (sym c.in_ok-size.ensures.answer) in
    (sym c.if-not-is_hop_size.ensures, omega (arith, head_size_lem a.next_hop.now, w))

pub returns : goal.returns
unfolding write_reach reach_bytes
returns c =
    let a = c.args in
    let n : ℕ = hop_start + length a.next_hop.now + 1 in
    let w = after_written n a.rows.now (max_of Ipv6) a.form (length a.out.now) _ (sym c.in_ok-size.ensures.answer) in
    record {
      answer = rw (sym c.if-not-is_hop_size.ensures) c.in_ok-size.ensures.answer;
      out = before_put a.out.now _ _ (reach_head a.next_hop.now) (route_bytes a.rows.now a.form) n (head_size_lem a.next_hop.now) (omega (arith, w)) c.in_ok-size.ensures.out c.put_head.ensures;
    }
