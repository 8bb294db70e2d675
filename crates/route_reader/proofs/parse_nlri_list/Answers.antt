use mathlib.Core.Path.{◌≡◌, refl, sym, ◌∙◌}
use mathlib.Core.List.{List}
use native.Mathlib.Omega.{arith}
use Prim.Native.Nat.{ℕ}
use Rattle.std.specs.Prelude.{Result}
use Rattle.wire.specs.declared.refusal.Refusal.{Refusal}
use Rattle.families.specs.Family.{max_of}
use Rattle.families.specs.Octets.{table_of}
use Rattle.families.specs.declared.Afi.{Afi}
use Rattle.families.specs.declared.AddPath.{AddPath}
use Rattle.routes.specs.ByTable.{by_table}
use Rattle.routes.specs.List.{list_of, hosts_of}
use Rattle.routes.specs.Promises.{rows_alone, count_answer, with_hosts, count_list}
use Rattle.routes.specs.declared.Routes.{Routes}
use Rattle.routes.proofs.PrefixLaws.{passed}
use Rattle.routes.proofs.ListLaws.{words_length, count_rows, beside, told_list, told_alone, leave_full, leave_rows, leave_refused}
use Rattle.routes.proofs.TableLaws.{count_list_family}
use Rattle.route_reader.proofs.parse_nlri_list.Goals as goal

-- what the count told of the list alone, and that the answer is that beside its host rows
told : (s : List ℕ) (afi : Afi) (mode : AddPath) {counts : List ℕ} (found : Result Routes Refusal) → found ≡ count_list (by_table counts) s mode → counts ≡ table_of (max_of afi)
    → (count_answer s (list_of s (max_of afi) mode) ≡ rows_alone found) × (found ≡ with_hosts (rows_alone found) (hosts_of s (max_of afi) mode))
told s afi mode found by table =
    let list = count_answer s (list_of s (max_of afi) mode) in
    let hosts = hosts_of s (max_of afi) mode in
    let counted = by ∙ count_list_family _ afi table s mode in
    (sym (told_list list hosts found counted), told_alone list hosts found _ counted refl)

pub returns-in_err-found : goal.returns-in_err-found
returns-in_err-found c =
    let a = c.args in
    let t = told a.s.now a.afi a.mode _ c.in_err-found.ensures.answer (c.put_counts.ensures refl) in
    let l = leave_refused a.s.now (list_of a.s.now (max_of a.afi) a.mode) a.store.now _ t.0 in
    record {
      answer = passed _ _ c.from_residual.ensures.1 ∙ beside (hosts_of a.s.now (max_of a.afi) a.mode) _ _ l.0;
      store = l.1;
    }

pub returns-then-store-found : goal.returns-then-store-found
returns-then-store-found c =
    let a = c.args in
    let t = told a.s.now a.afi a.mode _ c.in_ok-found.ensures.answer (c.put_counts.ensures refl) in
    let l = leave_full a.s.now (list_of a.s.now (max_of a.afi) a.mode) a.store.now _ t.0 c.if-store-found.true in
    record {
      answer = beside (hosts_of a.s.now (max_of a.afi) a.mode) _ _ l.0;
      store = l.1;
    }

pub fill-requires : goal.fill-requires
fill-requires c =
    let a = c.args in
    let t = told a.s.now a.afi a.mode _ c.in_ok-found.ensures.answer (c.put_counts.ensures refl) in
    let h = count_rows a.s.now (list_of a.s.now (max_of a.afi) a.mode) _ t.0 in
    record { good = h.0; room = omega (arith, h.1, c.if-store-found.false, words_length (list_of a.s.now (max_of a.afi) a.mode).rows) }

pub returns : goal.returns
returns c =
    let a = c.args in
    let t = told a.s.now a.afi a.mode _ c.in_ok-found.ensures.answer (c.put_counts.ensures refl) in
    let l = leave_rows a.s.now (list_of a.s.now (max_of a.afi) a.mode) a.store.now _ t.0 c.if-store-found.false in
    record {
      answer = t.1 ∙ beside (hosts_of a.s.now (max_of a.afi) a.mode) _ _ l.0;
      store = c.fill.ensures ∙ l.1;
    }
