-- Laws of one item by a table of octet counts: what it is, whichever the table; and that by a family's it is the RFC's.
-- Assumes nothing.
use Prim.Native.Nat.{ℕ, suc, ◌+◌, ◌≤◌, ◌<◌}
use mathlib.Core.Path.{◌≡◌, sym, ap, ◌∙◌}
use mathlib.Core.List.{List}
use native.Mathlib.Nat.{lt_of_not-le}
use native.Mathlib.Decide.{dec_le}
use native.Mathlib.Omega.{arith}
use borrow.Author.Tests.{le-leb, lt-leb, lt-ltb, le-ltb, eq-eqb, ne_eqb}
use lib.ListN.{length, get_or, take}
use lib.Dec.{eqb}
use mathlib.Core.Bool.{false}
use Rattle.wire.proofs.ChoiceLaws.{pick_leb, pick_eqb}
use Rattle.std.specs.Prelude.{Result, Ok, Err}
use Rattle.wire.specs.declared.refusal.Refusal.{Refusal}
use Rattle.wire.specs.declared.refusal.Refusal.TheVariants.{Truncated, PrefixLength}
use Rattle.wire.specs.Walk.{stop}
use Rattle.families.specs.Family.{max_of, id_size, octets}
use Rattle.families.specs.Octets.{refused_length, table_of, entry}
use Rattle.families.specs.declared.Afi.{Afi}
use Rattle.families.specs.declared.Form.{Form}
use Rattle.families.specs.declared.AddPath.{AddPath}
use Rattle.families.proofs.FamilyLaws.{max_small}
use Rattle.families.proofs.OctetLaws.{entry_in, entry_out, octets_few}
use Rattle.routes.specs.Prefix.{item_end, item_row, prefix_with, prefix_of}
use Rattle.routes.specs.List.{Reader, up_to, as_step, in_form, marked_step, form_by, step_by, step_of, list_by, list_of, section_by, section_of}
use Rattle.routes.specs.Promises.{count_list, count_section}
use Rattle.routes.specs.ByTable.{end_by, by_table}
use Rattle.routes.specs.declared.Row.{Row}
use Rattle.routes.specs.declared.Prefix.{Prefix}
use Rattle.routes.proofs.PrefixLaws.{given_not_refused, same_prefix}
use Rattle.routes.proofs.ListLaws.{Fair}

-- ---- whichever the table

module _ (counts s : List ℕ) (form : Form) where
  -- each answer, from what stands there
  pub table_none : length s ≤ id_size form → by_table counts s form ≡ Err Truncated
  unfolding by_table
  table_none h = simp (le-ltb (id_size form) (length s) h)

  module _ (there : id_size form < length s) where
    pub table_long : entry counts (get_or s (id_size form) 0) ≡ refused_length → by_table counts s form ≡ Err PrefixLength
    unfolding by_table
    table_long e = simp (lt-ltb (id_size form) (length s) there, eq-eqb _ _ e)

    module _ (known : entry counts (get_or s (id_size form) 0) ≡ refused_length → ⊥) where
      pub table_short : length s < end_by counts form s → by_table counts s form ≡ Err Truncated
      unfolding by_table
      table_short h = simp (lt-ltb (id_size form) (length s) there, ne_eqb _ _ known, lt-leb (end_by counts form s) (length s) h)

      pub table_took : end_by counts form s ≤ length s → by_table counts s form ≡ Ok (prefix_with (end_by counts form s) (item_row form (take (end_by counts form s) s)))
      unfolding by_table
      table_took h = simp (lt-ltb (id_size form) (length s) there, ne_eqb _ _ known, le-leb (end_by counts form s) (length s) h)

  -- what holds of each answer where it is given holds of the answer
  table_cases {ℓ} : (P : Result Prefix Refusal → Type ℓ) → P (Err Truncated) → P (Err PrefixLength)
      → (end_by counts form s ≤ length s → P (Ok (prefix_with (end_by counts form s) (item_row form (take (end_by counts form s) s)))))
      → P (by_table counts s form)
  unfolding by_table
  table_cases P short long good =
      pick_leb P (suc (id_size form)) (length s) _ _
      (λ _. pick_eqb P (entry counts (get_or s (id_size form) 0)) refused_length _ _
      (λ _. long)
      (λ _. pick_leb P (end_by counts form s) (length s) _ _ good (λ _. short)))
      (λ _. short)

-- no step takes anything where nothing is left
pub step_none : (counts : List ℕ) (mode : AddPath) (st : Form) (s : List ℕ) → length s ≤ 0 → step_by (by_table counts) mode st s ≡ stop Truncated
unfolding step_by in_form
step_none counts mode st s none = let form : Form = form_by (by_table counts) mode st s in ap (λ (a : Result Prefix Refusal). marked_step mode (as_step form a)) (table_none counts s form (omega (arith, none)))

-- an item that is taken ends where the table says
pub table_size : (counts s : List ℕ) (form : Form) (used : ℕ) (row : Row) → by_table counts s form ≡ Ok (prefix_with used row) → used ≡ end_by counts form s
table_size counts s form used row =
    table_cases counts s form (λ a. a ≡ Ok (prefix_with used row) → used ≡ end_by counts form s)
    (λ e. absurd (given_not_refused (sym e)))
    (λ e. absurd (given_not_refused (sym e)))
    (λ room e. sym (ap (λ (p : Prefix). p.used) (same_prefix _ _ e)))

pub fair_table : (counts : List ℕ) → Fair (by_table counts)
fair_table counts = record {
  takes = λ s form used row.
      table_cases counts s form (λ a. a ≡ Ok (prefix_with used row) → (0 < used) × (used ≤ length s) × (row ≡ item_row form (take used s)))
      (λ e. absurd (given_not_refused (sym e)))
      (λ e. absurd (given_not_refused (sym e)))
      (λ room e.
      let size : end_by counts form s ≡ used = ap (λ (p : Prefix). p.used) (same_prefix _ _ e) in
      let same : item_row form (take (end_by counts form s) s) ≡ row = ap (λ (p : Prefix). p.row) (same_prefix _ _ e) in
      (omega arith, omega arith, sym same ∙ ap (λ (n : ℕ). item_row form (take n s)) size));
}

-- ---- a family's table

module _ (max : ℕ) (small : max < 256) where
  -- where the length is in range the item ends as the RFC has it
  pub end_same : (form : Form) (s : List ℕ) → get_or s (id_size form) 0 ≤ max → end_by (table_of max) form s ≡ item_end form s
  end_same form s fits = ap (λ (n : ℕ). id_size form + 1 + n) (entry_in max small (get_or s (id_size form) 0) fits)

  item_same : (s : List ℕ) (form : Form) → by_table (table_of max) s form ≡ prefix_of s max form
  unfolding by_table prefix_of
  item_same s form =
      let l : ℕ = get_or s (id_size form) 0 in
      elim (dec_le l max) [
        | yes fits ↦ (let n : entry (table_of max) l ≡ octets l = entry_in max small l fits in
            let few : eqb (octets l) refused_length ≡ false = ne_eqb _ _ (octets_few l (omega arith)) in
            simp (n, few, le-leb l max fits))
        | no past ↦ (let n : entry (table_of max) l ≡ refused_length = entry_out max small l (lt_of_not-le past) in
            simp (n, lt-leb l max (lt_of_not-le past)))
      ]

-- so reading by it is reading up to its longest prefix: an item, a step, a list and a section
module _ (counts : List ℕ) (afi : Afi) (table : counts ≡ table_of (max_of afi)) where
  pub item_family : by_table counts ≡ up_to (max_of afi)
  item_family = ap by_table table ∙ λ i s form. item_same (max_of afi) (omega (arith, max_small afi)) s form i

  pub step_family : (mode : AddPath) (st : Form) (s : List ℕ) → step_by (by_table counts) mode st s ≡ step_of (max_of afi) mode st s
  step_family mode st s = ap (λ (read : Reader). step_by read mode st s) item_family

  pub list_family : (s : List ℕ) (mode : AddPath) → list_by (by_table counts) s mode ≡ list_of s (max_of afi) mode
  list_family s mode = ap (λ (read : Reader). list_by read s mode) item_family

  pub section_family : (s : List ℕ) (mode : AddPath) → section_by (by_table counts) s mode ≡ section_of s (max_of afi) mode
  section_family s mode = ap (λ (read : Reader). section_by read s mode) item_family

  -- and what counting answers
  pub count_list_family : (s : List ℕ) (mode : AddPath) → count_list (by_table counts) s mode ≡ count_list (up_to (max_of afi)) s mode
  count_list_family s mode = ap (λ (read : Reader). count_list read s mode) item_family

  pub count_section_family : (s : List ℕ) (mode : AddPath) → count_section (by_table counts) s mode ≡ count_section (up_to (max_of afi)) s mode
  count_section_family s mode = ap (λ (read : Reader). count_section read s mode) item_family
