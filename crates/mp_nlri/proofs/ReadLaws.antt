-- Laws of what the readers answer and leave, from what the calls on their list told.
-- Assumes nothing.
use Prim.Native.Nat.{ℕ}
use mathlib.Core.Path.{◌≡◌, refl, sym, ap, ◌∙◌}
use mathlib.Core.List.{List}
use lib.ListN.{length}
use Rattle.std.specs.Prelude.{Result, Ok, Err}
use Rattle.wire.specs.Answer.{filled, count_meaning}
use Rattle.wire.specs.Verdict.{Verdict, fine, answer_by}
use Rattle.wire.specs.Walk.{Reading, flat}
use Rattle.wire.specs.declared.refusal.Refusal.{Refusal}
use Rattle.families.specs.Family.{max_of}
use Rattle.families.specs.declared.Afi.TheVariants.{Ipv6}
use Rattle.families.specs.declared.AddPath.{AddPath}
use Rattle.routes.specs.Prefix.{words}
use Rattle.routes.specs.List.{list_of, hosts_of}
use Rattle.routes.specs.Promises.{read_answer, store_after, with_hosts, read_list, routes_meaning}
use Rattle.routes.specs.declared.Row.{Row}
use Rattle.routes.specs.declared.Routes.{Routes}
use Rattle.mp_nlri.specs.Value.{pair_fault, head_of}
use Rattle.mp_nlri.specs.Read.{reach_meaning, reach_list, unreach_list, ipv6, if_head, reach_after, unreach_after}
use Rattle.mp_nlri.specs.declared.Head.{Head}
use Rattle.mp_nlri.specs.declared.Reach.{Reach}

-- ---- MP_REACH_NLRI

module _ (v : List ℕ) where
  pub reach_refused : (why : Refusal) (a : Result Routes Refusal) → Err why ≡ head_of v → Err why ≡ if_head (head_of v) a
  reach_refused why a is = ap (λ (h : Result Head Refusal). if_head h a) is

  -- by any call on the routes
  pub reach_by : (head : Head) → Ok head ≡ head_of v → (call : List ℕ → Result Routes Refusal) (l : List ℕ) (a : Result Routes Refusal) → l ≡ reach_list v → a ≡ call l
      → if_head (Ok head) a ≡ if_head (head_of v) (call (reach_list v))
  reach_by head is call l a f g = ap (if_head (Ok head)) (g ∙ ap call f) ∙ ap (λ (h : Result Head Refusal). if_head h (call (reach_list v))) is

-- a list's answer among others leaves a store as the list's does
module _ (vs d : List ℕ) where
  reach_fills : (head : Head) (a : Result ℕ Refusal) (hosts : ℕ) → filled (count_meaning a) vs d ≡ filled (reach_meaning (if_head (Ok head) (with_hosts a hosts))) vs d
  reach_fills head (Ok n) hosts = refl
  reach_fills head (Err why) hosts = refl

  routes_fill : (a : Result ℕ Refusal) (hosts : ℕ) → filled (count_meaning a) vs d ≡ filled (routes_meaning (with_hosts a hosts)) vs d
  routes_fill (Ok n) hosts = refl
  routes_fill (Err why) hosts = refl

module _ (v : List ℕ) (mode : AddPath) (d : List ℕ) (l : List ℕ) where
  abbrev read : Reading Row
  read = list_of l (max_of Ipv6) mode

  pub reach_stored : (head : Head) (a : Result Routes Refusal) (x : List ℕ) → l ≡ reach_list v → a ≡ read_list ipv6 l mode (length d) → x ≡ store_after l read d → x ≡ reach_after (if_head (Ok head) a) v mode d
  unfolding store_after
  reach_stored head a x f g e =
      e
      ∙ reach_fills (flat words read.rows) d head (read_answer l read (length d)) (hosts_of l (max_of Ipv6) mode)
      ∙ ap (λ (y : Result Routes Refusal). filled (reach_meaning (if_head (Ok head) y)) (flat words read.rows) d) (sym g)
      ∙ ap (λ (t : List ℕ). filled (reach_meaning (if_head (Ok head) a)) (flat words (list_of t (max_of Ipv6) mode).rows) d) f

  pub unreach_stored : (a : Result Routes Refusal) (x : List ℕ) → l ≡ unreach_list v → a ≡ read_list ipv6 l mode (length d) → x ≡ store_after l read d → x ≡ unreach_after a v mode d
  unfolding store_after
  unreach_stored a x f g e =
      e
      ∙ routes_fill (flat words read.rows) d (read_answer l read (length d)) (hosts_of l (max_of Ipv6) mode)
      ∙ ap (λ (y : Result Routes Refusal). filled (routes_meaning y) (flat words read.rows) d) (sym g)
      ∙ ap (λ (t : List ℕ). filled (routes_meaning a) (flat words (list_of t (max_of Ipv6) mode).rows) d) f

-- a store that is as it was
pub reach_kept : (r : Result Reach Refusal) (why : Refusal) (v : List ℕ) (mode : AddPath) (d : List ℕ) → r ≡ Err why → d ≡ reach_after r v mode d
reach_kept r why v mode d e = sym (ap (λ (x : Result Reach Refusal). reach_after x v mode d) e)

pub unreach_kept : (r : Result Routes Refusal) (why : Refusal) (v : List ℕ) (mode : AddPath) (d : List ℕ) → r ≡ Err why → d ≡ unreach_after r v mode d
unreach_kept r why v mode d e = sym (ap (λ (x : Result Routes Refusal). unreach_after x v mode d) e)

-- ---- MP_UNREACH_NLRI

module _ (v : List ℕ) where
  pub unreach_refused : (why : Refusal) (a : Result Routes Refusal) → Err why ≡ pair_fault v → Err why ≡ answer_by (pair_fault v) a Err
  unreach_refused why a is = ap (λ (k : Verdict). answer_by k a Err) is

  pub unreach_by : (call : List ℕ → Result Routes Refusal) (l : List ℕ) (a : Result Routes Refusal) → fine ≡ pair_fault v → l ≡ unreach_list v → a ≡ call l → a ≡ answer_by (pair_fault v) (call (unreach_list v)) Err
  unreach_by call l a is f g = g ∙ ap call f ∙ ap (λ (k : Verdict). answer_by k (call (unreach_list v)) Err) is
