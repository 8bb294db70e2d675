use mathlib.Core.Path.{◌≡◌, sym, ap, ◌∙◌}
use mathlib.Core.Bool.{true, false, not}
use Prim.Native.Nat.{ℕ}
use mathlib.Core.List.{List}
use native.Mathlib.Omega.{arith}
use lib.ListN.{length}
use Rattle.std.specs.Prelude.{Ok, Err}
use Rattle.std.proofs.lemmas.Result.{err_from_is_err_and}
use Rattle.wire.specs.Store.{laid}
use Rattle.wire.specs.declared.refusal.Refusal.{Refusal}
use Rattle.wire.specs.declared.refusal.Refusal.TheVariants.{MessageType, MessageLength, NoRoom}
use Rattle.messages.specs.Header.{kind_number, least_length, most_length, is_outside}
use Rattle.messages.specs.Written.{header, total_of, write_message, message_after}
use Rattle.messages.proofs.HeaderLaws.{Names, read_names, read_unknown, inside_high, opposite}
use Rattle.messages.proofs.WrittenLaws.{most_small, out_by, body_put, write_unknown, write_misfit, write_full, write_fits}
use Rattle.messages.proofs.encode_bgp_message.Goals as goal

-- a refusal leaves the output as it was
refuses : (kind : ℕ) (body out : List ℕ) (r : Refusal) → write_message kind body (length out) ≡ Err r
    → record { answer : Err r ≡ write_message kind body (length out); output : out ≡ message_after kind body out }
refuses kind body out r e = record { answer = sym e; output = sym (out_by kind body out (Err r) e) }

pub returns-in_err-kind : goal.returns-in_err-kind
returns-in_err-kind c =
    let a = c.args in
    let unknown = read_unknown a.kind c.in_err-kind.field-0.0 (sym c.try_from.ensures ∙ c.in_err-kind.was) in
    let p = err_from_is_err_and c.from_residual.result c.from_residual.ensures.1 in
    rw (p.1, p.2, ← unknown.1) (refuses a.kind a.body.now a.out.now MessageType (write_unknown _ _ _ unknown.0))

pub returns-then-not-allows : goal.returns-then-not-allows
returns-then-not-allows c =
    let a = c.args in
    let n : Names a.kind c.in_ok-kind.kind = read_names _ _ (sym c.try_from.ensures ∙ c.in_ok-kind.was) in
    let misfit : is_outside (least_length a.kind) (most_length a.kind) (total_of a.body.now) ≡ true = rw (← n.number_of) (opposite _ _ c.allows.ensures ∙ ap not c.if-not-allows.true) in
    refuses a.kind a.body.now a.out.now MessageLength (write_misfit _ _ _ n.known misfit)

pub returns-then-out-total : goal.returns-then-out-total
returns-then-out-total c =
    let a = c.args in
    let n : Names a.kind c.in_ok-kind.kind = read_names _ _ (sym c.try_from.ensures ∙ c.in_ok-kind.was) in
    let own : is_outside (least_length a.kind) (most_length a.kind) (total_of a.body.now) ≡ false = rw (← n.number_of) (opposite _ _ c.allows.ensures ∙ ap not c.if-not-allows.false) in
    refuses a.kind a.body.now a.out.now NoRoom (write_full _ _ _ n.known own c.if-out-total.true)

pub put_header-requires : goal.put_header-requires
put_header-requires c =
    let kind = kind_number c.in_ok-kind.kind in
    let high = inside_high (least_length kind) (most_length kind) (total_of c.args.body.now) (opposite _ _ c.allows.ensures ∙ ap not c.if-not-allows.false) in
    (omega (arith, high, most_small kind), omega (arith, c.if-out-total.false))

pub returns : goal.returns
returns c =
    let a = c.args in
    let n : Names a.kind c.in_ok-kind.kind = read_names _ _ (sym c.try_from.ensures ∙ c.in_ok-kind.was) in
    let own : is_outside (least_length a.kind) (most_length a.kind) (total_of a.body.now) ≡ false = rw (← n.number_of) (opposite _ _ c.allows.ensures ∙ ap not c.if-not-allows.false) in
    let e = write_fits a.kind a.body.now (length a.out.now) n.known own c.if-out-total.false in
    let put : c.put_header.new.out ≡ laid a.out.now 0 (header (total_of a.body.now) a.kind) = c.put_header.ensures ∙ ap (λ (k : ℕ). laid a.out.now 0 (header (total_of a.body.now) k)) n.number_of in
    record {
      answer = sym e;
      output = body_put a.kind a.body.now a.out.now _ _ c.if-out-total.false put c.copy_at.ensures
          ∙ sym (out_by a.kind a.body.now a.out.now (Ok (total_of a.body.now)) e);
    }
