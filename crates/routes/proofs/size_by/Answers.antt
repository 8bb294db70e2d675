use mathlib.Core.Path.{◌≡◌, sym, ap, ◌∙◌}
use native.Mathlib.Omega.{arith}
use Prim.Native.Nat.{ℕ, ◌+◌}
use lib.ListN.{get_or}
use mathlib.Core.List.{List}
use Rattle.std.specs.Prelude.{Ok}
use Rattle.families.specs.Family.{id_size}
use Rattle.families.specs.declared.Form.{Form}
use Rattle.families.specs.Octets.{refused_length, entry}
use Rattle.routes.specs.ByTable.{end_by}
use Rattle.routes.specs.Private.{size_of}
use Rattle.routes.proofs.TableLaws.{table_long, table_short, table_took}
use Rattle.routes.proofs.size_by.Goals as goal

pub returns-then-n : goal.returns-then-n
returns-then-n c =
    let a = c.args in
    let says : c.after-n.result ≡ entry a.counts.now (get_or a.s.now (id_size a.form) 0) = c.after-n.ensures ∙ ap (entry a.counts.now) c.requires.bits_value in
    sym (ap size_of (table_long a.counts.now a.s.now a.form c.requires.form_in_bounds (sym says ∙ c.if-n.true)))

-- of an item whose length the table has: where it ends
ends : (counts s : List ℕ) (form : Form) (bits n k m : ℕ) → bits ≡ get_or s (id_size form) 0 → n ≡ entry counts bits → (n ≡ refused_length → ⊥) → k ≡ id_size form → m ≡ n
    → (entry counts (get_or s (id_size form) 0) ≡ refused_length → ⊥) × (k + 1 + m ≡ end_by counts form s)
ends counts s form bits n k m b e known size same =
    let says : n ≡ entry counts (get_or s (id_size form) 0) = e ∙ ap (entry counts) b in
    (λ f. known (says ∙ f), omega (arith, says, size, same))

pub returns-then-s-e : goal.returns-then-s-e
returns-then-s-e c =
    let a = c.args in
    let e = ends a.counts.now a.s.now a.form a.bits _ _ _ c.requires.bits_value c.after-n.ensures c.if-n.false c.id_size.ensures c.from.ensures in
    sym (ap size_of (table_short a.counts.now a.s.now a.form c.requires.form_in_bounds e.0 (omega (arith, e.1, c.if-s-e.true))))

pub returns : goal.returns
returns c =
    let a = c.args in
    let e = ends a.counts.now a.s.now a.form a.bits _ _ _ c.requires.bits_value c.after-n.ensures c.if-n.false c.id_size.ensures c.from.ensures in
    ap Ok e.1 ∙ sym (ap size_of (table_took a.counts.now a.s.now a.form c.requires.form_in_bounds e.0 (omega (arith, e.1, c.if-s-e.false))))
