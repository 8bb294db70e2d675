use mathlib.Core.Path.{◌≡◌, sym, ap, ◌∙◌}
use native.Mathlib.Nat.{zero-add}
use Prim.Native.Nat.{ℕ, ◌+◌, ◌*◌, max, ◌≤◌, ◌<◌}
use native.Mathlib.Omega.{arith}
use mathlib.Core.List.{List}
use borrow.Author.Tests.{eq-eqb, ne_eqb, eqb-true, eqb-false}
use mathlib.Core.Bool.{Bool, true, false}
use lib.ListN.{length, drop, length-drop}
use lib.Dec.{eqb}
use Rattle.std.specs.Prelude.{Some}
use Rattle.std.proofs.lemmas.Result.{err_from_is_err_and}
use Rattle.wire.specs.Answer.{flag}
use Rattle.wire.specs.Choice.{pick}
use Rattle.wire.specs.Refusal.{list_limit}
use Rattle.wire.specs.Verdict.{fine}
use Rattle.wire.specs.Walk.{took}
use Rattle.attributes.specs.Private.{front_of}
use Rattle.attributes.specs.declared.Attribute.{Attribute}
use Rattle.wire.proofs.Turn.{rest}
use Rattle.attributes.specs.Attribute.{mp_reach_nlri, mp_unreach_nlri, size_of, attribute_front, attribute_of}
use Rattle.attributes.specs.Promises.{standing}
use Rattle.attributes.proofs.AttributeLaws.{front_whole, front_cut}
use Rattle.attributes.proofs.SearchTurn.{flag_most, flag_from, Search, find_long, search_start, search_part, search_cut, search_fits, search_next, search_done, search_found}
use Rattle.attributes.proofs.find_attribute.Goals.{then-attribute-kind, else-attribute-kind}
use Rattle.attributes.proofs.find_attribute.Goals as goal

-- a count of attributes of a type, and one more: no more than the bytes
few : (sum at n k kind : ℕ) → sum ≤ 1 * at → at ≤ list_limit → n ≡ flag (eqb k kind) → sum + n ≤ list_limit + 1
few sum at n k kind h le e = omega (arith, h, le, flag_most (eqb k kind) n e)

-- the attribute that a turn took: it ends where the next one stands, and has the type that was found
taken : (left : List ℕ) (a : Attribute) → front_of 0 (attribute_of tt left) ≡ Some a → (attribute_of tt left ≡ took a.next (attribute_front left) tt) × ((attribute_front left).kind ≡ a.kind)
unfolding standing
taken left a e =
    let f = front_whole left 0 a e in
    let next : 0 + size_of (attribute_front left) ≡ a.next = ap (λ (x : Attribute). x.next) f.1 in
    (f.0 ∙ ap (λ (n : ℕ). took n (attribute_front left) tt) (sym (zero-add _) ∙ next), ap (λ (x : Attribute). x.kind) f.1)

-- what is left, by the test of the loop
left_some : (n : ℕ) (empty : Bool) → empty ≡ eqb n 0 → empty ≡ false → 0 < n
left_some n empty e f = let some = eqb-false n 0 (sym e ∙ f) in omega (arith, some)

left_none : (n : ℕ) (empty : Bool) → empty ≡ eqb n 0 → empty ≡ true → n ≤ 0
left_none n empty e f = omega (arith, eqb-true n 0 (sym e ∙ f))

pub returns-then-section-gt-LIST_LIMIT : goal.returns-then-section-gt-LIST_LIMIT
returns-then-section-gt-LIST_LIMIT c = find_long _ _ c.if-section-gt-LIST_LIMIT.true

pub loop-rest-init : goal.loop-rest-init
loop-rest-init c = search_start _ _

pub front-requires : goal.front-requires
front-requires c = omega (arith, ap length c.loop-rest.invariant.is, length-drop c.loop-rest.invariant.at c.args.section.now, c.if-section-gt-LIST_LIMIT.false)

pub overflow_add-reach : goal.overflow_add-reach
overflow_add-reach c =
    let i = c.loop-rest.invariant in
    let b : i.at ≤ list_limit = omega (arith, i.reached.within, c.if-section-gt-LIST_LIMIT.false) in
    omega (arith, few c.loop-rest.reach i.at c.from-reach.result c.in-Some.attribute.kind mp_reach_nlri i.reached.few b (c.from-reach.ensures ∙ flag_from _))

pub overflow_add-unreach : goal.overflow_add-unreach
overflow_add-unreach c =
    let i = c.loop-rest.invariant in
    let b : i.at ≤ list_limit = omega (arith, i.unreached.within, c.if-section-gt-LIST_LIMIT.false) in
    omega (arith, few c.loop-rest.unreach i.at c.from-unreach.result c.in-Some.attribute.kind mp_unreach_nlri i.unreached.few b (c.from-unreach.ensures ∙ flag_from _))

pub slice_bounds-rest-count : goal.slice_bounds-rest-count
slice_bounds-rest-count c =
    let t = taken c.loop-rest.rest.now c.in-Some.attribute (sym c.front.ensures ∙ c.in-Some.is) in
    (search_fits _ _ c.if-section-gt-LIST_LIMIT.false _ _ _ _ c.loop-rest.invariant _ _ t.0).1

pub slice_bounds-rest-start : goal.slice_bounds-rest-start
slice_bounds-rest-start c =
    let t = taken c.loop-rest.rest.now c.in-Some.attribute (sym c.front.ensures ∙ c.in-Some.is) in
    (search_fits _ _ c.if-section-gt-LIST_LIMIT.false _ _ _ _ c.loop-rest.invariant _ _ t.0).1

pub loop-rest-smaller : goal.loop-rest-smaller
loop-rest-smaller c =
    let left = c.loop-rest.rest.now in
    let t = taken left c.in-Some.attribute (sym c.front.ensures ∙ c.in-Some.is) in
    let there = search_fits _ _ c.if-section-gt-LIST_LIMIT.false _ _ _ _ c.loop-rest.invariant _ _ t.0 in
    let n = c.in-Some.attribute.next in
    omega (arith, there, ap length (rest left n), length-drop n left)

pub loop-rest-preserved : goal.loop-rest-preserved
loop-rest-preserved c =
    let left = c.loop-rest.rest.now in
    let found = c.in-Some.attribute in
    let t = taken left found (sym c.front.ensures ∙ c.in-Some.is) in
    let a = c.args in
    let k = sym t.1 in
    let r = c.from-reach.ensures ∙ flag_from _ ∙ ap (λ (x : ℕ). flag (eqb x mp_reach_nlri)) k in
    let u = c.from-unreach.ensures ∙ flag_from _ ∙ ap (λ (x : ℕ). flag (eqb x mp_unreach_nlri)) k in
    let first : c.if-attribute-kind.first ≡ pick (eqb found.kind a.kind) (max c.loop-rest.first (length left)) c.loop-rest.first =
    elim c.if-attribute-kind.branch [
      | then-attribute-kind w ↦ rw (eq-eqb found.kind a.kind w.if-attribute-kind.true) (w.first-is ∙ w.max-first.ensures)
      | else-attribute-kind w ↦ rw (ne_eqb found.kind a.kind w.if-attribute-kind.false) w.first-is
    ] in
    let f = first ∙ ap (λ (x : ℕ). pick (eqb x a.kind) (max c.loop-rest.first (length left)) c.loop-rest.first) k in
    -- the loop's head at the next attribute
    let next : Search a.section.now a.kind (drop found.next left) (c.loop-rest.reach + c.from-reach.result) (c.loop-rest.unreach + c.from-unreach.result) c.if-attribute-kind.first =
    rw (r, u, f) (search_next _ _ c.if-section-gt-LIST_LIMIT.false _ _ _ _ c.loop-rest.invariant _ _ t.0) in
    search_part _ _ _ _ _ _ _ (rest left _) next

pub returns-in_err-verdict : goal.returns-in_err-verdict
returns-in_err-verdict c =
    let cut = front_cut c.loop-rest.rest.now 0 (sym c.front.ensures ∙ c.in_default.is) in
    let p = err_from_is_err_and c.from_residual.result c.from_residual.ensures.1 in
    rw (p.1, p.2)
    (search_cut _ _ c.if-section-gt-LIST_LIMIT.false _ _ _ _ c.loop-rest.invariant (left_some _ _ c.is_empty.ensures c.loop-rest-test.true) cut _ (sym c.verdict.ensures ∙ c.in_err-verdict.was))

pub returns-in_default : goal.returns-in_default
returns-in_default c =
    let cut = front_cut c.loop-rest.rest.now 0 (sym c.front.ensures ∙ c.in_default.is) in
    search_cut _ _ c.if-section-gt-LIST_LIMIT.false _ _ _ _ c.loop-rest.invariant (left_some _ _ c.is_empty.ensures c.loop-rest-test.true) cut fine (sym c.verdict.ensures ∙ c.in_ok-verdict.was)

pub returns-in_err-verdict-2 : goal.returns-in_err-verdict-2
returns-in_err-verdict-2 c =
    let p = err_from_is_err_and c.from_residual-in_err-verdict-2.result c.from_residual-in_err-verdict-2.ensures.1 in
    rw (p.1, p.2)
    (search_done _ _ c.if-section-gt-LIST_LIMIT.false _ _ _ _ c.loop-rest.invariant (left_none _ _ c.is_empty.ensures c.loop-rest-test.false) _ (sym c.verdict-2.ensures ∙ c.in_err-verdict-2.was))

pub overflow_sub-section : goal.overflow_sub-section
overflow_sub-section c = c.loop-rest.invariant.few

pub returns : goal.returns
returns c =
    c.attribute_at.ensures
    ∙ search_found _ _ c.if-section-gt-LIST_LIMIT.false _ _ _ _ c.loop-rest.invariant (left_none _ _ c.is_empty.ensures c.loop-rest-test.false) (sym c.verdict-2.ensures ∙ c.in_ok-verdict-2.was)
