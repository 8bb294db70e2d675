use mathlib.Core.Path.{refl, ap₂, ◌∙◌}
use Rattle.families.specs.declared.Afi.TheVariants.{Ipv4}
use Rattle.routes.proofs.PrefixLaws.{passed}
use Rattle.routes.proofs.TableLaws.{count_section_family}
use Rattle.updates.specs.Update.{update_of, count_update}
use Rattle.updates.proofs.BodyLaws.{holds_withdrawn, holds_announced}
use Rattle.updates.proofs.count_bgp_update_message.Goals as goal

pub returns-in_err-update_parts : goal.returns-in_err-update_parts
unfolding count_update
returns-in_err-update_parts c = passed _ _ c.from_residual.ensures.1 ∙ rw (← c.in_err-update_parts.ensures) refl

pub returns : goal.returns
unfolding count_update
returns c =
    let g = c.args in
    let first = c.withdrawn_part in
    let second = c.announced_part in
    let table = c.put_counts.ensures refl in
    let w = holds_withdrawn g.body _ first.ensures in
    let a = holds_announced g.body _ second.ensures in
    rw (← c.in_ok-update_parts.ensures, ← w, ← a)
    (ap₂ update_of
    (c.count_section_by.ensures.answer ∙ count_section_family _ Ipv4 table first.result.now g.mode)
    (c.count_section_by-2.ensures.answer ∙ count_section_family _ Ipv4 table second.result.now g.mode))
