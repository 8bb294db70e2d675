-- A table that is copied entry by entry, in whatever order.
-- Assumes nothing.
use Prim.Native.Nat.{ℕ, ◌<◌}
use mathlib.Core.Path.{◌≡◌, refl, sym, ap, ◌∙◌}
use mathlib.Core.Bool.{Bool, true, false}
use mathlib.Core.List.{List, [], ◌∷◌, ◌++◌}
use native.Mathlib.Omega.{arith}
use lib.Dec.{eqb}
use lib.ListN.{length, get_or, set, length-set}
use lib.Seq.{ext_get_or, get_or-set_same, get_or-set_other}
use Rattle.wire.specs.Choice.{pick, below}
use Rattle.wire.proofs.ChoiceLaws.{pick_eqb, pick_any, below_at}
use Rattle.families.specs.Octets.{table_of}
use Rattle.families.specs.Private.{copied, places}

-- whether a place is among some
abbrev among : List ℕ → ℕ → Bool
among [] i = false
among (j ∷ js) i = pick (eqb i j) true (among js i)

-- places after places
pub copied_on : (t d₀ d d' is js : List ℕ) → d ≡ copied t d₀ is → d' ≡ copied t d js → d' ≡ copied t d₀ (is ++ js)
copied_on t d₀ d d' [] js e e' = e' ∙ ap (λ (l : List ℕ). copied t l js) e
copied_on t d₀ d d' (i ∷ is) js e e' = copied_on t (set d₀ i (get_or t i 0)) d d' is js e e'

copied_length : (t d js : List ℕ) → length (copied t d js) ≡ length d
copied_length t d [] = refl
copied_length t d (j ∷ js) = copied_length t (set d j (get_or t j 0)) js ∙ length-set d j (get_or t j 0)

-- what stands at a place: the other's entry if it is among those that are copied
copied_at : (t d js : List ℕ) (i : ℕ) → i < length d → get_or (copied t d js) i 0 ≡ pick (among js i) (get_or t i 0) (get_or d i 0)
copied_at t d [] i lt = refl
copied_at t d (j ∷ js) i lt =
    let v : ℕ = get_or t j 0 in
    let one : List ℕ = set d j v in
    copied_at t one js i (omega (arith, lt, length-set d j v))
    ∙ pick_eqb (λ (b : Bool). pick (among js i) (get_or t i 0) (get_or one i 0) ≡ pick b (get_or t i 0) (get_or d i 0)) i j true (among js i)
    (λ e.
    let same : get_or one i 0 ≡ get_or t i 0 =
    ap (λ (k : ℕ). get_or one k 0) e ∙ get_or-set_same d j v 0 (omega (arith, lt, e)) ∙ ap (λ (k : ℕ). get_or t k 0) (sym e) in
    pick_any (λ (x : ℕ). x ≡ get_or t i 0) (among js i) (get_or t i 0) (get_or one i 0) refl same)
    (λ ne. ap (pick (among js i) (get_or t i 0)) (get_or-set_other d j i v 0 ne))

-- where every place is among them, the other itself
copied_all : (n : ℕ) (t d js : List ℕ) → length t ≡ n → length d ≡ n → below (among js) n ≡ true → copied t d js ≡ t
copied_all n t d js et ed all =
    let long : length (copied t d js) ≡ n = copied_length t d js ∙ ed in
    ext_get_or 0 (copied t d js) t (long ∙ sym et)
    (λ i lt.
    let small : i < n = omega (arith, lt, long) in
    copied_at t d js i (omega (arith, small, ed))
    ∙ ap (λ (b : Bool). pick b (get_or t i 0) (get_or d i 0)) (below_at (among js) n i all small))

-- the table of a family over another of 256 entries
pub table_put : (max : ℕ) (t d d' : List ℕ) → t ≡ table_of max → d' ≡ copied t d places → length d ≡ 256 → d' ≡ table_of max
unfolding table_of
table_put max t d d' is e long = e ∙ copied_all 256 t d places (ap length is) long refl ∙ is
