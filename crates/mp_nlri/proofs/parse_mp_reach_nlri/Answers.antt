use mathlib.Core.List.{List}
use mathlib.Core.Path.{sym, ap, ◌∙◌}
use Rattle.std.specs.Prelude.{Result, Ok}
use Rattle.wire.specs.declared.refusal.Refusal.{Refusal}
use Rattle.mp_nlri.specs.declared.Reach.{Reach}
use Prim.Native.Nat.{ℕ}
use lib.ListN.{length}
use Rattle.routes.specs.Promises.{read_list}
use Rattle.routes.proofs.PrefixLaws.{passed}
use Rattle.mp_nlri.specs.Read.{ipv6, read_reach, reach_after}
use Rattle.mp_nlri.proofs.ReadLaws.{reach_refused, reach_by, reach_stored, reach_kept}
use Rattle.mp_nlri.proofs.parse_mp_reach_nlri.Goals as goal

pub returns-in_err-head : goal.returns-in_err-head
unfolding read_reach
returns-in_err-head c =
    let a = c.args in
    let is = passed _ _ c.from_residual.ensures.1 in
    record { answer = is ∙ reach_refused a.value.now _ _ c.in_err-head.ensures; store = reach_kept _ _ a.value.now a.mode a.store.now is }

pub returns-in_err-routes : goal.returns-in_err-routes
unfolding read_reach
returns-in_err-routes c =
    let a = c.args in
    let is = passed _ _ c.from_residual-in_err-routes.ensures.1 in
    let list = c.routes_after_head-list.ensures in
    let told = c.in_err-routes.ensures in
    record {
      answer = is ∙ reach_by a.value.now _ c.in_ok-head.ensures (λ (l : List ℕ). read_list ipv6 l a.mode (length a.store.now)) _ _ list told.answer;
      store = reach_stored a.value.now a.mode a.store.now _ c.in_ok-head.head _ _ list told.answer told.store ∙ ap (λ (r : Result Reach Refusal). reach_after r a.value.now a.mode a.store.now) (sym is);
    }

pub returns : goal.returns
unfolding read_reach
returns c =
    let a = c.args in
    let is = ap Ok c.as_reach.ensures in
    let list = c.routes_after_head-list.ensures in
    let told = c.in_ok-routes.ensures in
    record {
      answer = is ∙ reach_by a.value.now _ c.in_ok-head.ensures (λ (l : List ℕ). read_list ipv6 l a.mode (length a.store.now)) _ _ list told.answer;
      store = reach_stored a.value.now a.mode a.store.now _ c.in_ok-head.head _ _ list told.answer told.store ∙ ap (λ (r : Result Reach Refusal). reach_after r a.value.now a.mode a.store.now) (sym is);
    }
