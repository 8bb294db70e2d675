use mathlib.Core.List.{List}
use mathlib.Core.Path.{ap, ◌∙◌}
use Rattle.std.specs.Prelude.{Ok}
use Prim.Native.Nat.{ℕ}
use Rattle.routes.specs.Promises.{count_list}
use Rattle.routes.proofs.PrefixLaws.{passed}
use Rattle.mp_nlri.specs.Read.{ipv6, count_reach}
use Rattle.mp_nlri.proofs.ReadLaws.{reach_refused, reach_by}
use Rattle.mp_nlri.proofs.count_mp_reach_nlri.Goals as goal

pub returns-in_err-head : goal.returns-in_err-head
unfolding count_reach
returns-in_err-head c = passed _ _ c.from_residual.ensures.1 ∙ reach_refused c.args.value.now _ _ c.in_err-head.ensures

pub returns-in_err-routes : goal.returns-in_err-routes
unfolding count_reach
returns-in_err-routes c =
    let a = c.args in
    passed _ _ c.from_residual-in_err-routes.ensures.1
    ∙ reach_by a.value.now _ c.in_ok-head.ensures (λ (l : List ℕ). count_list ipv6 l a.mode) _ _ c.routes_after_head.ensures c.in_err-routes.ensures.answer

pub returns : goal.returns
unfolding count_reach
returns c =
    let a = c.args in
    ap Ok c.as_reach.ensures
    ∙ reach_by a.value.now _ c.in_ok-head.ensures (λ (l : List ℕ). count_list ipv6 l a.mode) _ _ c.routes_after_head.ensures c.in_ok-routes.ensures.answer
