use mathlib.Core.Path.{refl, sym, ap, ◌∙◌}
use native.Mathlib.Omega.{arith}
use borrow.Author.Tests.{eqb-true, eqb-false}
use Rattle.wire.specs.Answer.{flag}
use Rattle.routes.proofs.HostLaws.{flag_from}
use Rattle.routes.proofs.Pending.{pending_empty, pending_none, pending_refused, pending_start, pending_done, pending_cut, pending_long, pending_next}
use Rattle.routes.proofs.count_form.Goals as goal

pub returns-then-is_empty : goal.returns-then-is_empty
returns-then-is_empty c = pending_empty c.args.counts.now c.args.s.now c.args.form c.requires (eqb-true _ _ (sym c.if-is_empty.ensures))

pub returns-then-s-k : goal.returns-then-s-k
returns-then-s-k c = pending_none c.args.counts.now c.args.s.now c.args.form c.requires _ c.id_size-k.ensures (eqb-false _ _ (sym c.if-is_empty.ensures)) c.if-s-k.true

pub returns-then-first : goal.returns-then-first
returns-then-first c =
    pending_refused c.args.counts.now c.args.s.now c.args.form c.requires _ c.id_size-k.ensures c.if-s-k.false _ c.after-first.ensures c.if-first.true

pub loop-n-init : goal.loop-n-init
loop-n-init c = record {
  pending = pending_start c.args.counts.now c.args.s.now c.args.form _ _ c.id_size-k.ensures c.if-s-k.false (c.from-n.ensures ∙ c.after-first.ensures) (λ e. c.if-first.false (omega (arith, e, c.from-n.ensures)));
  octets = omega (arith, c.from-n.ensures, c.after-first.type_inv);
}

pub returns-then-next : goal.returns-then-next
returns-then-next c =
    pending_long c.loop-n.invariant.pending c.requires c.args.form c.id_size-k.ensures c.loop-n-test.true _ refl _ c.after-next.ensures c.if-next.true

pub loop-n-preserved : goal.loop-n-preserved
loop-n-preserved c =
    let next =
    pending_next c.loop-n.invariant.pending c.requires c.args.form c.id_size-k.ensures c.loop-n-test.true _ refl _ (c.from-n-in-loop-n.ensures ∙ c.after-next.ensures)
    (λ e. c.if-next.false (omega (arith, e, c.from-n-in-loop-n.ensures))) _ (c.from-hosts.ensures ∙ flag_from _ ∙ ap flag c.host_of.ensures) in
    record { pending = next.0; octets = omega arith }

pub returns-then-item-n : goal.returns-then-item-n
returns-then-item-n c =
    pending_cut c.loop-n.invariant.pending c.requires c.args.form c.id_size-k.ensures (λ e. omega (arith, e, c.if-item-n.true)) (omega (arith, c.loop-n-test.false))

pub returns : goal.returns
returns c =
    pending_done c.loop-n.invariant.pending c.requires c.args.form c.id_size-k.ensures (omega (arith, c.if-item-n.false)) _
    (c.from.ensures ∙ flag_from _ ∙ ap flag c.host_of-2.ensures)
