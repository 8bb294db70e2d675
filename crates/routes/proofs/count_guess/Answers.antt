use Prim.Native.Nat.{◌+◌}
use mathlib.Core.Path.{sym, ap, ◌∙◌}
use native.Mathlib.Omega.{arith}
use lib.ListN.{take, drop}
use Rattle.wire.specs.Answer.{flag}
use Rattle.families.specs.Family.{id_size}
use Rattle.families.specs.declared.Form.{Form}
use Rattle.families.specs.declared.Form.TheVariants.{Plain}
use Rattle.families.specs.declared.AddPath.TheVariants.{Guess}
use Rattle.routes.specs.Prefix.{host_bits}
use Rattle.routes.specs.ByTable.{by_table}
use Rattle.routes.proofs.PrefixLaws.{passed}
use Rattle.routes.proofs.ListLaws.{tells_list}
use Rattle.routes.proofs.TableLaws.{fair_table}
use Rattle.routes.proofs.HostLaws.{flag_from}
use Rattle.routes.proofs.Carried.{carried_done, sized_fits, sized_next, sized_stop}
use Rattle.routes.proofs.count_guess.Goals as goal
use Rattle.routes.proofs.count_guess.Goals.{in-Plain, in-Tagged}

pub returns-in_err-item : goal.returns-in_err-item
returns-in_err-item c =
    let a = c.args in
    passed _ _ c.from_residual.ensures.1 ∙ tells_list (by_table a.counts.now) Guess a.s.now _ (sized_stop _ c.loop-n.invariant c.requires c.loop-n-test.true _ c.in_err-item.ensures)

pub host_at-requires-clause-form_bound : goal.host_at-requires-clause-form_bound
host_at-requires-clause-form_bound c = omega (arith, sized_fits _ c.loop-n.invariant _ c.in_ok-item.ensures)

pub host_at-requires-clause-used_in_bounds : goal.host_at-requires-clause-used_in_bounds
host_at-requires-clause-used_in_bounds c = (sized_fits _ c.loop-n.invariant _ c.in_ok-item.ensures).1

pub overflow_sub-n : goal.overflow_sub-n
overflow_sub-n c = omega (arith, sized_fits _ c.loop-n.invariant _ c.in_ok-item.ensures)

pub host_at-requires-in-Tagged-clause-form_bound : goal.host_at-requires-in-Tagged-clause-form_bound
host_at-requires-in-Tagged-clause-form_bound c = omega (arith, sized_fits _ c.loop-n.invariant _ c.in_ok-item.ensures, ap id_size c.in-Tagged.is)

pub host_at-requires-in-Tagged-clause-used_in_bounds : goal.host_at-requires-in-Tagged-clause-used_in_bounds
host_at-requires-in-Tagged-clause-used_in_bounds c = (sized_fits _ c.loop-n.invariant _ c.in_ok-item.ensures).1

pub slice_bounds-rest-count-in-Tagged : goal.slice_bounds-rest-count-in-Tagged
slice_bounds-rest-count-in-Tagged c = omega (arith, sized_fits _ c.loop-n.invariant _ c.in_ok-item.ensures, ap id_size c.in-Tagged.is)

pub slice_bounds-rest-start-in-Tagged : goal.slice_bounds-rest-start-in-Tagged
slice_bounds-rest-start-in-Tagged c = omega (arith, sized_fits _ c.loop-n.invariant _ c.in_ok-item.ensures, ap id_size c.in-Tagged.is)

pub overflow_sub-n-in-Tagged : goal.overflow_sub-n-in-Tagged
overflow_sub-n-in-Tagged c = omega (arith, sized_fits _ c.loop-n.invariant _ c.in_ok-item.ensures, ap id_size c.in-Tagged.is)

pub loop-n-preserved : goal.loop-n-preserved
loop-n-preserved c =
    let item = c.in_ok-item.item in
    let bytes = take item.used (drop c.loop-n.n c.loop-n.rest.now) in
    let next = sized_next _ c.loop-n.invariant item c.in_ok-item.ensures in
    elim c.match-item.branch [
      | in-Plain w ↦
          let form = w.in-Plain.is in
          rw (w.rest-is, w.n-is, w.hosts-is)
          (next _ (w.from-hosts.ensures ∙ flag_from _ ∙ ap flag (w.host_at.ensures ∙ sym (ap (λ (f : Form). host_bits f bytes) form))) 1 (sym (ap (λ (f : Form). id_size f + 1) form))).1
      | in-Tagged w ↦
          let form = w.in-Tagged.is in
          rw (w.rest-is, w.n-is, w.hosts-is)
          (next _ (w.from-hosts-in-Tagged.ensures ∙ flag_from _ ∙ ap flag (w.host_at-in-Tagged.ensures ∙ sym (ap (λ (f : Form). host_bits f bytes) form))) 5 (sym (ap (λ (f : Form). id_size f + 1) form))).1
    ]

pub returns : goal.returns
returns c =
    let a = c.args in
    tells_list (by_table a.counts.now) Guess a.s.now _
    (carried_done (by_table a.counts.now) (fair_table a.counts.now) Guess Plain a.s.now c.loop-n.rest.now c.loop-n.n c.loop-n.form c.loop-n.rows c.loop-n.hosts c.loop-n.invariant c.requires c.loop-n-test.false)
