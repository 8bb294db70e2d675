use Prim.Native.Nat.{ℕ, ◌+◌, ◌≤◌}
use mathlib.Core.Bool.{Bool}
use mathlib.Core.List.{List}
use mathlib.Core.Path.{◌≡◌, refl, sym, ap, ap₂, ◌∙◌}
use native.Mathlib.Omega.{arith}
use lib.ListN.{length, take}
use Rattle.std.specs.Prelude.{Result, Ok, Err}
use Rattle.wire.specs.declared.refusal.Refusal.{Refusal}
use Rattle.families.specs.Family.{max_of, id_size}
use Rattle.families.specs.Octets.{table_of}
use Rattle.families.specs.declared.Afi.{Afi}
use Rattle.families.specs.declared.Form.{Form}
use Rattle.routes.specs.Prefix.{item_row, prefix_with, prefix_of, with_host, route_of}
use Rattle.routes.specs.ByTable.{by_table}
use Rattle.routes.specs.List.{Reader, up_to}
use Rattle.routes.specs.Private.{size_of}
use Rattle.routes.specs.declared.Row.{Row}
use Rattle.routes.proofs.PrefixLaws.{prefix_took, passed}
use Rattle.routes.proofs.ListLaws.{fair, size_took, size_refused}
use Rattle.routes.proofs.TableLaws.{item_family}
use Rattle.routes.proofs.try_parse_prefix.Goals as goal

-- what the size by a family's table tells: an item that is there, or why the route is refused
module _ (counts s : List ℕ) (afi : Afi) (form : Form) (table : counts ≡ table_of (max_of afi)) where
  size_is : (size : Result ℕ Refusal) → size ≡ size_of (by_table counts s form) → size_of (prefix_of s (max_of afi) form) ≡ size
  size_is size e = sym (e ∙ ap (λ (read : Reader). size_of (read s form)) (item_family counts afi table))

  there : (used : ℕ) → Ok used ≡ size_of (by_table counts s form)
      → (prefix_of s (max_of afi) form ≡ Ok (prefix_with used (item_row form (take used s)))) × (id_size form + 1 ≤ used) × (used ≤ length s)
  there used e =
      let taken = size_took (up_to (max_of afi)) (fair (max_of afi)) s form used (size_is _ e) in
      let t = prefix_took s (max_of afi) form _ _ taken in
      (taken, omega (arith, t.size), t.room)

  gone : (why : Refusal) → Err why ≡ size_of (by_table counts s form) → prefix_of s (max_of afi) form ≡ Err why
  gone why e = size_refused (prefix_of s (max_of afi) form) why (size_is _ e)

pub returns-in_err-used : goal.returns-in_err-used
unfolding route_of
returns-in_err-used c =
    let a = c.args in
    record { answer = passed _ _ c.from_residual.ensures.1 ∙ sym (ap (with_host a.form a.s.now) (gone _ a.s.now a.afi a.form c.counts-counts.ensures _ c.in_err-used.ensures)) }

pub row_of-row-requires : goal.row_of-row-requires
row_of-row-requires c =
    let a = c.args in
    let item = there _ a.s.now a.afi a.form c.counts-counts.ensures _ c.in_ok-used.ensures in
    record { front = item.1; within = item.2 }

pub host_at-host-requires : goal.host_at-host-requires
host_at-host-requires c =
    let a = c.args in
    let item = there _ a.s.now a.afi a.form c.counts-counts.ensures _ c.in_ok-used.ensures in
    record { form_bound = item.1; used_in_bounds = omega (arith, item.2); past_value = refl }

pub returns : goal.returns
unfolding route_of
returns c =
    let a = c.args in
    let item = there _ a.s.now a.afi a.form c.counts-counts.ensures _ c.in_ok-used.ensures in
    record {
      answer = ap₂ (λ (row : Row) (host : Bool). Ok (record { prefix = prefix_with c.in_ok-used.used row; host = host })) c.row_of-row.ensures c.host_at-host.ensures
          ∙ sym (ap (with_host a.form a.s.now) item.0);
    }
