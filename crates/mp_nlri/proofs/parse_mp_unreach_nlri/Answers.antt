use mathlib.Core.List.{List}
use mathlib.Core.Path.{◌∙◌}
use Prim.Native.Nat.{ℕ}
use lib.ListN.{length}
use Rattle.routes.specs.Promises.{read_list}
use Rattle.routes.proofs.PrefixLaws.{passed}
use Rattle.mp_nlri.specs.Read.{ipv6, read_unreach}
use Rattle.mp_nlri.proofs.ReadLaws.{unreach_refused, unreach_by, unreach_stored, unreach_kept}
use Rattle.mp_nlri.proofs.parse_mp_unreach_nlri.Goals as goal

pub returns-in_err-check_pair : goal.returns-in_err-check_pair
unfolding read_unreach
returns-in_err-check_pair c =
    let a = c.args in
    let is = passed _ _ c.from_residual.ensures.1 in
    record { answer = is ∙ unreach_refused a.value.now _ _ c.in_err-check_pair.ensures; store = unreach_kept _ _ a.value.now a.mode a.store.now is }

pub returns : goal.returns
unfolding read_unreach
returns c =
    let a = c.args in
    let list = c.routes_after_pair.ensures in
    record {
      answer = unreach_by a.value.now (λ (l : List ℕ). read_list ipv6 l a.mode (length a.store.now)) _ _ c.in_ok-check_pair.ensures list c.parse_nlri_list.ensures.answer;
      store = unreach_stored a.value.now a.mode a.store.now _ _ _ list c.parse_nlri_list.ensures.answer c.parse_nlri_list.ensures.store;
    }
