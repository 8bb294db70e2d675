use mathlib.Core.Path.{◌≡◌, sym, ap, ap₂, ◌∙◌}
use Prim.Native.Nat.{ℕ, ◌+◌, ◌≤◌}
use native.Mathlib.Omega.{arith}
use lib.ListN.{length}
use Rattle.families.specs.Family.{id_size, octets}
use Rattle.families.specs.declared.Form.{Form}
use Rattle.routes.specs.declared.Row.{Row}
use Rattle.route_bytes.specs.Encode.{length_of, row_bytes}
use Rattle.route_bytes.proofs.EncodeLaws.{row_size}
use Rattle.route_writer.proofs.Ahead.{row_laid}
use Rattle.route_writer.specs.Private.{row_at}
use Rattle.route_writer.proofs.put_row.Goals as goal

-- the size of a row by those of its parts
sized : (form : Form) (r : Row) (k n : ℕ) → length_of form r ≤ 128 → k ≡ id_size form → n ≡ octets (length_of form r) → k + 1 + n ≡ length (row_bytes form r)
sized form r k n small ks ns = ap₂ (λ (i j : ℕ). i + 1 + j) ks ns ∙ sym (row_size form r small)

pub put_head-len-requires : goal.put_head-len-requires
put_head-len-requires c =
    let a = c.args in
    record {
      at_in_bounds = (c.requires.at_in_bounds.0, omega (arith, row_size a.form (row_at a.rows.now a.at) c.requires.form_bound.1));
      form_bound = c.requires.form_bound;
    }

pub overflow_add-to : goal.overflow_add-to
overflow_add-to c =
    let a = c.args in
    let octets_are : c.octet_count-n.result ≡ octets (length_of a.form (row_at a.rows.now a.at)) = c.octet_count-n.ensures ∙ ap octets c.put_head-len.ensures.length in
    let size = sized a.form (row_at a.rows.now a.at) c.id_size-k.result c.octet_count-n.result c.requires.form_bound.1 c.id_size-k.ensures octets_are in
    omega (arith, size)

pub overflow_add-to-2 : goal.overflow_add-to-2
overflow_add-to-2 c =
    let a = c.args in
    let octets_are : c.octet_count-n.result ≡ octets (length_of a.form (row_at a.rows.now a.at)) = c.octet_count-n.ensures ∙ ap octets c.put_head-len.ensures.length in
    let size = sized a.form (row_at a.rows.now a.at) c.id_size-k.result c.octet_count-n.result c.requires.form_bound.1 c.id_size-k.ensures octets_are in
    omega (arith, size)

pub put_octets-requires : goal.put_octets-requires
put_octets-requires c =
    let a = c.args in
    let octets_are : c.octet_count-n.result ≡ octets (length_of a.form (row_at a.rows.now a.at)) = c.octet_count-n.ensures ∙ ap octets c.put_head-len.ensures.length in
    let size = sized a.form (row_at a.rows.now a.at) c.id_size-k.result c.octet_count-n.result c.requires.form_bound.1 c.id_size-k.ensures octets_are in
    (c.requires.at_in_bounds.0, omega (arith, octets_are, c.requires.form_bound.1), omega (arith, size, c.requires.at_in_bounds.1))

pub overflow_add-result : goal.overflow_add-result
overflow_add-result c =
    let a = c.args in
    let octets_are : c.octet_count-n.result ≡ octets (length_of a.form (row_at a.rows.now a.at)) = c.octet_count-n.ensures ∙ ap octets c.put_head-len.ensures.length in
    let size = sized a.form (row_at a.rows.now a.at) c.id_size-k.result c.octet_count-n.result c.requires.form_bound.1 c.id_size-k.ensures octets_are in
    omega (arith, size)

pub overflow_add-result-2 : goal.overflow_add-result-2
overflow_add-result-2 c =
    let a = c.args in
    let octets_are : c.octet_count-n.result ≡ octets (length_of a.form (row_at a.rows.now a.at)) = c.octet_count-n.ensures ∙ ap octets c.put_head-len.ensures.length in
    let size = sized a.form (row_at a.rows.now a.at) c.id_size-k.result c.octet_count-n.result c.requires.form_bound.1 c.id_size-k.ensures octets_are in
    omega (arith, size)

pub returns : goal.returns
returns c =
    let a = c.args in
    let octets_are : c.octet_count-n.result ≡ octets (length_of a.form (row_at a.rows.now a.at)) = c.octet_count-n.ensures ∙ ap octets c.put_head-len.ensures.length in
    let both =
    row_laid a.form (row_at a.rows.now a.at) a.out.now _ _ a.to c.id_size-k.result c.octet_count-n.result c.requires.at_in_bounds.1 c.requires.form_bound.1
    c.id_size-k.ensures octets_are c.put_head-len.ensures.out c.put_octets.ensures in
    record { size = both.0; out = both.1 }
