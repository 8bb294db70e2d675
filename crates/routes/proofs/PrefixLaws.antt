-- Laws of one item.
-- Assumes nothing.
use Prim.Native.Nat.{ℕ, suc, ◌+◌, ◌-◌, ◌≤◌, ◌<◌}
use mathlib.Core.Path.{◌≡◌, refl, sym, ap, ap₂, subst, ◌∙◌}
use mathlib.Core.List.{List}
use native.Mathlib.Omega.{arith}
use borrow.Author.Tests.{le-leb, lt-leb, lt-ltb, le-ltb}
use lib.ListN.{length, get_or, take, drop}
use lib.Seq.{get_or-take, take-take}
use Rattle.std.specs.Prelude.{Result, Ok, Err}
use Rattle.std.specs.Result.{IsErrAnd}
use Rattle.std.proofs.lemmas.Result.{err_from_is_err_and}
use Rattle.wire.proofs.ChoiceLaws.{pick_leb}
use Rattle.wire.specs.Number.{be, be_at, padded}
use Rattle.wire.proofs.NumberLaws.{padded_take}
use Rattle.wire.proofs.Parts.{drop_take}
use Rattle.wire.specs.declared.refusal.Refusal.{Refusal}
use Rattle.wire.specs.declared.refusal.Refusal.TheVariants.{Truncated, PrefixLength}
use Rattle.families.specs.Family.{id_size, mark_of, octets}
use Rattle.routes.specs.Prefix.{word_at, item_end, row_of, item_row, prefix_with, prefix_of}
use Rattle.families.specs.declared.Form.{Form}
use Rattle.routes.specs.declared.Row.{Row}
use Rattle.routes.specs.declared.Prefix.{Prefix}

-- what is given is not refused
pub given_not_refused : {X : Type 0} {x : X} {r : Refusal} → ◌≡◌ {A = Result X Refusal} (Ok x) (Err r) → ⊥
given_not_refused e = let z : ◌≡◌ {A = ℕ} 0 1 = cc in omega arith

-- what the exit of a `?` returns
pub passed : {X : Type 0} (e : Refusal) (a : Result X Refusal) → IsErrAnd a (λ r. r ≡ e) → a ≡ Err e
passed e a h = let r = err_from_is_err_and a h in r.1 ∙ ap Err r.2

-- what is given is one value
pub same_prefix : (p q : Prefix) → ◌≡◌ {A = Result Prefix Refusal} (Ok p) (Ok q) → p ≡ q
same_prefix p q e = cc

-- what an item that is taken is
pub record Took (s : List ℕ) (max : ℕ) (form : Form) (used : ℕ) (row : Row) : Type 0 where
  pub there : id_size form < length s
  pub fits : get_or s (id_size form) 0 ≤ max
  pub size : used ≡ item_end form s
  pub room : used ≤ length s
  pub is : row ≡ item_row form (take used s)

-- what holds of each answer where it is given holds of the answer
pub prefix_cases {ℓ} : (s : List ℕ) (max : ℕ) (form : Form) (P : Result Prefix Refusal → Type ℓ)
    → P (Err Truncated)
    → P (Err PrefixLength)
    → ((used : ℕ) (row : Row) → Took s max form used row → P (Ok (prefix_with used row)))
    → P (prefix_of s max form)
unfolding prefix_of
prefix_cases s max form P short long good =
    let k : ℕ = id_size form in
    let l : ℕ = get_or s k 0 in
    pick_leb P (suc k) (length s) _ _
    (λ there. pick_leb P l max _ _
    (λ fits. pick_leb P (k + 1 + octets l) (length s) _ _
    (λ room. good _ _ (record { there = there; fits = fits; size = refl; room = room; is = refl }))
    (λ _. short))
    (λ _. long))
    (λ _. short)

-- an item that is taken, from the answer
pub prefix_took : (s : List ℕ) (max : ℕ) (form : Form) (used : ℕ) (row : Row) → prefix_of s max form ≡ Ok (prefix_with used row) → Took s max form used row
prefix_took s max form used row =
    prefix_cases s max form (λ a. a ≡ Ok (prefix_with used row) → Took s max form used row)
    (λ e. absurd (given_not_refused (sym e)))
    (λ e. absurd (given_not_refused (sym e)))
    (λ u r t e. subst (λ (p : Prefix). Took s max form p.used p.row) (same_prefix _ _ e) t)

-- and the answer from what stands there
pub took_prefix : (s : List ℕ) (max : ℕ) (form : Form) (used : ℕ) (row : Row) → Took s max form used row → prefix_of s max form ≡ Ok (prefix_with used row)
unfolding prefix_of
took_prefix s max form used row t =
    let k : ℕ = id_size form in
    let l : ℕ = get_or s k 0 in
    let size : used ≡ k + 1 + octets l = t.size in
    let room : k + 1 + octets l ≤ length s = omega (arith, t.room) in
    simp (lt-ltb k (length s) t.there, le-leb l max t.fits, le-leb (k + 1 + octets l) (length s) room)
    (sym (ap₂ (λ (n : ℕ) (row : Row). Ok (prefix_with n row)) size (t.is ∙ ap (λ (n : ℕ). item_row form (take n s)) size)))

-- each refusal, from what fails
pub prefix_none : (s : List ℕ) (max : ℕ) (form : Form) → length s ≤ id_size form → prefix_of s max form ≡ Err Truncated
unfolding prefix_of
prefix_none s max form h = simp (le-ltb (id_size form) (length s) h)

pub prefix_long : (s : List ℕ) (max : ℕ) (form : Form) → id_size form < length s → max < get_or s (id_size form) 0 → prefix_of s max form ≡ Err PrefixLength
unfolding prefix_of
prefix_long s max form there h = simp (lt-ltb (id_size form) (length s) there, lt-leb (get_or s (id_size form) 0) max h)

pub prefix_short : (s : List ℕ) (max : ℕ) (form : Form) → id_size form < length s → get_or s (id_size form) 0 ≤ max
    → length s < id_size form + 1 + octets (get_or s (id_size form) 0) → prefix_of s max form ≡ Err Truncated
unfolding prefix_of
prefix_short s max form there fits h =
    let k : ℕ = id_size form in
    let l : ℕ = get_or s k 0 in
    simp (lt-ltb k (length s) there, le-leb l max fits, lt-leb (k + 1 + octets l) (length s) h)

-- ---- the row of an item, from where its parts stand

pub row_parts : (o : List ℕ) (first id w0 w1 w2 w3 : ℕ) → w0 ≡ word_at o 0 → w1 ≡ word_at o 4 → w2 ≡ word_at o 8 → w3 ≡ word_at o 12
    → record { first = first; id = id; w0 = w0; w1 = w1; w2 = w2; w3 = w3 } ≡ row_of o first id
unfolding row_of
row_parts o first id w0 w1 w2 w3 e0 e4 e8 e12 = cc

pub item_row_lem : (s : List ℕ) (form : Form) (e k first id : ℕ) → k ≡ id_size form → first ≡ get_or s k 0 + mark_of form → id ≡ be_at s 0 (id_size form) → k + 1 ≤ e → e ≤ length s
    → row_of (take (e - (k + 1)) (drop (k + 1) s)) first id ≡ item_row form (take e s)
unfolding item_row be_at
item_row_lem s form e k first id k_is first_is id_is low high =
    let len : get_or (take e s) k 0 ≡ get_or s k 0 = get_or-take e s k 0 (omega arith) in
    let ids : be (take k (take e s)) ≡ be (padded k s) = ap be (take-take k e s (omega arith) ∙ sym (padded_take k s (omega arith))) in
    let here : row_of (drop (k + 1) (take e s)) (get_or (take e s) k 0 + mark_of form) (be (take k (take e s))) ≡ item_row form (take e s) =
    ap (λ (j : ℕ). row_of (drop (j + 1) (take e s)) (get_or (take e s) j 0 + mark_of form) (be (take j (take e s)))) k_is in
    ap₂ (row_of _) (first_is ∙ ap (λ (l : ℕ). l + mark_of form) (sym len)) (id_is ∙ ap (λ (j : ℕ). be (padded j s)) (sym k_is) ∙ sym ids)
    ∙ ap (λ (o : List ℕ). row_of o (get_or (take e s) k 0 + mark_of form) (be (take k (take e s)))) (sym (drop_take (k + 1) e s))
    ∙ here
