use Rattle.std.proofs.Common.{sym, ap, ◌∙◌, arith}
use Rattle.families.proofs.FamilyLaws.{id_small}
use Rattle.families.specs.Family.{octets}
use Rattle.route_bytes.proofs.EncodeLaws.{far_length, near_length, strange_id, set_octets, front_writable}
use Rattle.route_bytes.proofs.PromiseLaws.{size_refused, size_good}
use Rattle.route_bytes.proofs.row_size.Goals as goal

pub returns-then-from-len : goal.returns-then-from-len
returns-then-from-len c =
    let a = c.args in
    size_refused a.row.now a.max a.form (far_length a.row.now a.max a.form c.mark_of.result c.mark_of.ensures (c.fits-row 0) (omega (arith, c.if-from-len.true, c.from.ensures)))

pub returns-then-not-id_fits : goal.returns-then-not-id_fits
returns-then-not-id_fits c =
    let a = c.args in
    size_refused a.row.now a.max a.form (strange_id a.row.now a.max a.form (sym c.id_fits.ensures ∙ c.if-not-id_fits.true))

pub returns-then-not-clear_past : goal.returns-then-not-clear_past
returns-then-not-clear_past c =
    let a = c.args in
    let len = near_length a.row.now a.max a.form c.mark_of.result c.mark_of.ensures c.requires (c.fits-row 0) (omega (arith, c.if-from-len.false, c.from.ensures)) in
    size_refused a.row.now a.max a.form
    (set_octets a.row.now a.max a.form c.octet_count-n.result (c.octet_count-n.ensures ∙ ap octets len.1) (sym c.clear_past.ensures ∙ c.if-not-clear_past.true))

pub overflow_add-result : goal.overflow_add-result
overflow_add-result c = omega (arith, c.id_size.ensures, id_small c.args.form)

pub overflow_add-result-2 : goal.overflow_add-result-2
overflow_add-result-2 c = omega (arith, c.id_size.ensures, id_small c.args.form, c.octet_count-n.ensures)

pub returns : goal.returns
returns c =
    let a = c.args in
    let len = near_length a.row.now a.max a.form c.mark_of.result c.mark_of.ensures c.requires (c.fits-row 0) (omega (arith, c.if-from-len.false, c.from.ensures)) in
    let octets_are = c.octet_count-n.ensures ∙ ap octets len.1 in
    let good = front_writable a.row.now a.max a.form len.0 (omega (arith, len.1, c.if-from-len.false, c.from.ensures))
    (sym c.id_fits.ensures ∙ c.if-not-id_fits.false) c.octet_count-n.result octets_are (sym c.clear_past.ensures ∙ c.if-not-clear_past.false) in
    size_good a.row.now a.max a.form c.requires (omega (arith, c.told-row)) good c.id_size.result c.octet_count-n.result c.id_size.ensures octets_are
