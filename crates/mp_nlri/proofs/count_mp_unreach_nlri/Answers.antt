use mathlib.Core.List.{List}
use mathlib.Core.Path.{◌∙◌}
use Prim.Native.Nat.{ℕ}
use Rattle.routes.specs.Promises.{count_list}
use Rattle.routes.proofs.PrefixLaws.{passed}
use Rattle.mp_nlri.specs.Read.{ipv6, count_unreach}
use Rattle.mp_nlri.proofs.ReadLaws.{unreach_refused, unreach_by}
use Rattle.mp_nlri.proofs.count_mp_unreach_nlri.Goals as goal

pub returns-in_err-check_pair : goal.returns-in_err-check_pair
unfolding count_unreach
returns-in_err-check_pair c = passed _ _ c.from_residual.ensures.1 ∙ unreach_refused c.args.value.now _ _ c.in_err-check_pair.ensures

pub returns : goal.returns
unfolding count_unreach
returns c =
    let a = c.args in
    unreach_by a.value.now (λ (l : List ℕ). count_list ipv6 l a.mode) _ _ c.in_ok-check_pair.ensures c.routes_after_pair.ensures c.count_nlri_list.ensures.answer
