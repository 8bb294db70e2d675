-- Laws of what stands before the routes.
-- Assumes nothing.
use Prim.Native.Nat.{ℕ, ◌+◌, ◌≤◌, ◌<◌}
use mathlib.Core.Path.{◌≡◌, refl, sym, ap, ap₂, ◌∙◌}
use mathlib.Core.List.{List}
use mathlib.Core.Bool.{Bool, true, false, not}
use native.Mathlib.Omega.{arith}
use borrow.Author.Tests.{eqb-true, le-ltb, lt-ltb, ltb-false, ltb-true}
use lib.ListN.{length, get_or}
use lib.Dec.{ltb, eqb}
use denote.Ref.{Bor}
use Rattle.std.specs.Prelude.{Result, Ok, Err}
use Rattle.wire.specs.Verdict.{Verdict, fine, answer_by}
use Rattle.wire.specs.declared.refusal.Refusal.{Refusal}
use Rattle.wire.specs.declared.refusal.Refusal.TheVariants.{TooLong, Truncated, OtherFamily, NextHopLength}
use Rattle.wire.proofs.AnswerLaws.{refused_not_fine}
use Rattle.wire.specs.Choice.{pick}
use Rattle.wire.proofs.ChoiceLaws.{pick_any, pick_unless}
use Rattle.wire.specs.Extent.{PartOf, clipped}
use Rattle.wire.proofs.ExtentLaws.{clipped_fits}
use Rattle.wire.specs.Refusal.{list_limit}
use Rattle.routes.proofs.PrefixLaws.{given_not_refused}
use Rattle.mp_nlri.specs.Value.{is_pair, is_hop_size, hop_start, hop_size, reserved_at, pair_fault, after_pair, head_of, next_hop_at}
use Rattle.mp_nlri.specs.declared.Head.{Head}

-- ---- the family pair

-- a value of the pair, within the limit
pub record Paired (v : List ℕ) : Type 0 where
  pub short : length v ≤ list_limit
  pub there : 3 ≤ length v
  pub pair : is_pair v ≡ true

-- by cases, with what the test says in each
pub pick_told {ℓ} : {X : Type 0} (P : X → Type ℓ) (t : Bool) (x y : X) → (t ≡ true → P x) → (t ≡ false → P y) → P (pick t x y)
pick_told P true x y f g = f refl
pick_told P false x y f g = g refl

-- what holds of 1, 2 and 17, and of none where the pair is there, holds of the fault
pub pair_cases {ℓ} : (v : List ℕ) (P : Verdict → Type ℓ) → P (Err TooLong) → P (Err Truncated) → P (Err OtherFamily) → (Paired v → P fine) → P (pair_fault v)
unfolding pair_fault
pair_cases v P long cut other good =
    pick_unless P (ltb list_limit (length v)) (Err TooLong) _ long (λ short.
    pick_unless P (ltb (length v) 3) (Err Truncated) _ cut (λ there.
    pick_told P (is_pair v) fine (Err OtherFamily)
    (λ pair. good (record { short = ltb-false list_limit (length v) short; there = ltb-false (length v) 3 there; pair = pair }))
    (λ _. other)))

-- and a value of the pair has none
pub pair_by : (v : List ℕ) → Paired v → pair_fault v ≡ fine
unfolding pair_fault
pair_by v h = rw (le-ltb list_limit (length v) h.short, le-ltb (length v) 3 h.there, h.pair)

pub pair_good : (v : List ℕ) → fine ≡ pair_fault v → Paired v
pair_good v = pair_cases v (λ a. fine ≡ a → Paired v) (λ e. bad _ e) (λ e. bad _ e) (λ e. bad _ e) (λ h _. h)
  where
    bad : (r : Refusal) → ◌≡◌ {A = Verdict} fine (Err r) → Paired v
    bad r e = absurd (refused_not_fine r (sym e))

-- ---- the next hop and the reserved byte

-- a value of MP_REACH_NLRI up to its routes
pub record Headed (v : List ℕ) (hop : ℕ) (reserved : Bool) : Type 0 where
  pub paired : Paired v
  pub told : hop ≡ hop_size v
  pub sized : is_hop_size hop ≡ true
  pub whole : hop_start + hop < length v
  pub flagged : reserved ≡ not (eqb (get_or v (hop_start + hop) 0) 0)

-- a head, from its parts
abbrev pub head_with : ℕ → Bool → Head
head_with hop reserved = record { next_hop = hop; reserved = reserved }

pub head_refused : (v : List ℕ) (why : Refusal) → Err why ≡ pair_fault v → Err why ≡ head_of v
unfolding head_of
head_refused v why e = ap (λ (a : Verdict). answer_by a (after_pair v) Err) e

module _ (v : List ℕ) (h : Paired v) where
  pub head_cut : length v < hop_start → Err Truncated ≡ head_of v
  unfolding head_of
  head_cut lt = rw (pair_by v h, lt-ltb (length v) hop_start lt)

  module _ (there : hop_start ≤ length v) (n : ℕ) (told : n ≡ hop_size v) where
    pub head_other : false ≡ is_hop_size n → Err NextHopLength ≡ head_of v
    unfolding head_of
    head_other e = rw (pair_by v h, le-ltb (length v) hop_start there, ← told, ← e)

    pub head_short : true ≡ is_hop_size n → length v ≤ hop_start + n → Err Truncated ≡ head_of v
    unfolding head_of
    head_short e le = rw (pair_by v h, le-ltb (length v) hop_start there, ← told, ← e, le-ltb (hop_start + n) (length v) le)

-- what holds of every refusal, and of a value up to its routes, holds of every value
pub head_cases {ℓ} : (v : List ℕ) (P : Result Head Refusal → Type ℓ) → ((why : Refusal) → P (Err why))
    → ((hop : ℕ) (reserved : Bool) → Headed v hop reserved → P (Ok (head_with hop reserved))) → P (head_of v)
unfolding head_of
head_cases v P bad good =
    pair_cases v (λ a. P (answer_by a (after_pair v) Err)) (bad TooLong) (bad Truncated) (bad OtherFamily) (λ h.
    pick_any P (ltb (length v) hop_start) (Err Truncated) _ (bad Truncated)
    (pick_told P (is_hop_size (hop_size v)) _ (Err NextHopLength)
    (λ size.
    pick_told P (ltb (reserved_at v) (length v)) _ (Err Truncated)
    (λ there. good (hop_size v) _ (record { paired = h; told = refl; sized = size; whole = ltb-true (reserved_at v) (length v) there; flagged = refl }))
    (λ _. bad Truncated))
    (λ _. bad NextHopLength)))

-- and such a value is not refused
pub head_by : (v : List ℕ) (hop : ℕ) (reserved : Bool) → Headed v hop reserved → head_of v ≡ Ok (head_with hop reserved)
unfolding head_of
head_by v hop reserved h =
    let size : is_hop_size (hop_size v) ≡ true = ap is_hop_size (sym h.told) ∙ h.sized in
    let there : reserved_at v < length v = omega (arith, h.told, h.whole) in
    rw (pair_by v h.paired, le-ltb (length v) hop_start (omega arith), size, lt-ltb (reserved_at v) (length v) there)
    (sym (ap₂ (λ (k : ℕ) (r : Bool). Ok (head_with k r)) h.told (h.flagged ∙ ap (λ (n : ℕ). not (eqb (get_or v (hop_start + n) 0) 0)) h.told)))

pub head_good : (v : List ℕ) (hop : ℕ) (reserved : Bool) → head_of v ≡ Ok (head_with hop reserved) → Headed v hop reserved
head_good v hop reserved =
    head_cases v (λ a. a ≡ Ok (head_with hop reserved) → Headed v hop reserved)
    (λ why e. absurd (given_not_refused (sym e)))
    (λ k r h e.
    let same : head_with k r ≡ head_with hop reserved = cc in
    let p : k ≡ hop = ap (λ (head : Head). head.next_hop) same in
    let q : r ≡ reserved = ap (λ (head : Head). head.reserved) same in
    record { paired = h.paired; told = sym p ∙ h.told; sized = ap is_hop_size (sym p) ∙ h.sized; whole = omega (arith, p, h.whole); flagged = sym q ∙ h.flagged ∙ ap (λ (n : ℕ). not (eqb (get_or v (hop_start + n) 0) 0)) p })

-- a next hop has 16 bytes or 32
pub hop_cases : (P : ℕ → Type 0) (n : ℕ) → is_hop_size n ≡ true → P 16 → P 32 → P n
hop_cases P n e p q = by (eqb n 16) refl (eqb n 32) refl e
  where
    by : (a : Bool) → eqb n 16 ≡ a → (b : Bool) → eqb n 32 ≡ b → is_hop_size n ≡ true → P n
    by true f b g h = rw (eqb-true n 16 f) p
    by false f true g h = rw (eqb-true n 32 g) q
    by false f false g h = let k : is_hop_size n ≡ false = rw (f, g) in let z : ◌≡◌ {A = ℕ} 0 1 = cc in absurd (omega arith)

pub hop_few : (n : ℕ) → is_hop_size n ≡ true → n ≤ 32
hop_few n e = hop_cases (λ k. k ≤ 32) n e (omega arith) (omega arith)

-- the part that was taken for the next hop, as an answer told it
pub hop_told : (s r : Bor (List ℕ)) (told : Result Head Refusal) → told ≡ head_of s.now → (next_hop_at told).start + (next_hop_at told).size ≤ length s.now
    → PartOf s (clipped (next_hop_at told) (length s.now)) r → PartOf s (next_hop_at (head_of s.now)) r
hop_told s r told e fits h = rw (sym e) (rw (clipped_fits (next_hop_at told) (length s.now) fits) at h)
