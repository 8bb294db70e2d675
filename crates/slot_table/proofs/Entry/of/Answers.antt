use Rattle.std.proofs.Common.{sym, refl, ◌∙◌, arith}
use Rattle.std.proofs.lemmas.Result.{err_from_is_err_and}
use Rattle.updates.proofs.Sections.{update_hosts}
use Rattle.slot_table.specs.Line.{entry_of}
use Rattle.slot_table.proofs.LineLaws.{other_kind}
use Rattle.slot_table.proofs.Entry.of.Goals as goal

pub returns-in_err-message : goal.returns-in_err-message
unfolding entry_of
returns-in_err-message c =
    let p = err_from_is_err_and c.from_residual.result c.from_residual.ensures.1 in
    rw (p.1, p.2, sym c.parse_bgp_message.ensures ∙ c.in_err-message.was) refl

pub returns-in_err-update-in-Update : goal.returns-in_err-update-in-Update
unfolding entry_of
returns-in_err-update-in-Update c =
    let p = err_from_is_err_and c.from_residual-in_err-update-in-Update.result c.from_residual-in_err-update-in-Update.ensures.1 in
    let told = sym c.count_bgp_update_message.ensures ∙ c.in_err-update-in-Update.was in
    rw (p.1, p.2, ← c.message_body.ensures.holds, sym c.parse_bgp_message.ensures ∙ c.in_ok-message.was, c.in-Update.is, told) refl

pub overflow_add-host : goal.overflow_add-host
overflow_add-host c =
    let told = sym c.count_bgp_update_message.ensures ∙ c.in_ok-update-in-Update.was in
    let few = update_hosts c.message_body.result.now c.args.mode c.in_ok-update-in-Update.update told in
    omega (arith, c.hosts_in.ensures, c.hosts_in-in-Update.ensures, few)

pub returns-in_ok-update-in-Update : goal.returns-in_ok-update-in-Update
unfolding entry_of
returns-in_ok-update-in-Update c =
    let told = sym c.count_bgp_update_message.ensures ∙ c.in_ok-update-in-Update.was in
    rw (← c.message_body.ensures.holds, sym c.parse_bgp_message.ensures ∙ c.in_ok-message.was, c.in-Update.is, told, ← c.of-state.ensures, ← c.hosts_in.ensures, ← c.hosts_in-in-Update.ensures) refl

pub returns-in_default : goal.returns-in_default
unfolding entry_of
returns-in_default c =
    let other = other_kind c.in_ok-message.message.kind c.in_default.not-Update in
    rw (sym c.parse_bgp_message.ensures ∙ c.in_ok-message.was, other, ← c.of-state.ensures) refl
