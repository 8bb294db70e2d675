-- A loop that goes item by item: what holds at its head, and what a turn makes of it, over any step, any weight and any row.
-- Assumes nothing.
use Prim.Native.Nat.{ℕ, ◌+◌, ◌-◌, ◌*◌, ◌≤◌, ◌<◌}
use mathlib.Core.Path.{◌≡◌, refl, sym, ap, ap₂, ◌∙◌}
use mathlib.Core.List.{List, ◌++◌, append_assoc, append-nil}
use native.Mathlib.Nat.{mul-add}
use native.Mathlib.Omega.{arith}
use lib.ListN.{length, take, drop, drop_of_length-le, length-drop, length-append, take-append-drop}
use lib.Seq.{drop-drop, take_all, length-take-le}
use Rattle.std.specs.Prelude.{Err}
use Rattle.wire.specs.Verdict.{fine}
use Rattle.wire.specs.declared.refusal.Refusal.{Refusal}
use Rattle.wire.proofs.AnswerLaws.{refused_not_fine}
use Rattle.wire.specs.Walk.{Step, took, stop, Reading, whole, refused, more, read_all, tally, flat}
use Rattle.wire.proofs.WalkLaws.{all_nil, all_took, all_stop, all_ind, Sound}
use Rattle.wire.specs.Store.{laid}
use Rattle.wire.proofs.StoreLaws.{take_laid, drop_laid, length_laid}

-- what stands from `at` on, as a part `&s[at..]` has it
pub rest : (s : List ℕ) (at : ℕ) → take (length s - at) (drop at s) ≡ drop at s
rest s at = take_all (length s - at) (drop at s) (omega (arith, length-drop at s))

module _ {S A : Type 0} (step : S → List ℕ → Step S A) where
  -- ---- at the head of a loop

  -- of one that counts: `sum` is the weight of what stands before `at`, c a place at most, and the rest of the reading is that from `at`
  pub record Counted (weight : A → ℕ) (c : ℕ) (st₀ : S) (s : List ℕ) (st : S) (at sum : ℕ) : Type 0 where
    pub within : at ≤ length s
    pub few : sum ≤ c * at
    pub verdict : (read_all step st₀ s).verdict ≡ (read_all step st (drop at s)).verdict
    pub total : tally weight (read_all step st₀ s).rows ≡ sum + tally weight (read_all step st (drop at s)).rows

  -- no item weighs more than c for each place that it takes
  abbrev pub Light : (A → ℕ) → ℕ → Type 0
  Light weight c = (st st' : S) (s : List ℕ) (used : ℕ) (a : A) → step st s ≡ took used a st' → weight a ≤ c * used

  -- of one that fills: the store has the places of what stands before `at`, and is as it was from `to` on
  pub record Filled (emit : A → List ℕ) (st₀ : S) (s : List ℕ) (d₀ : List ℕ) (st : S) (at to : ℕ) (d : List ℕ) : Type 0 where
    pub within : at ≤ length s
    pub good : (read_all step st (drop at s)).verdict ≡ fine
    pub long : length d ≡ length d₀
    pub room : to + length (flat emit (read_all step st (drop at s)).rows) ≤ length d₀
    pub front : take to d ++ flat emit (read_all step st (drop at s)).rows ≡ flat emit (read_all step st₀ s).rows
    pub back : drop to d ≡ drop to d₀

module _ {S A : Type 0} (step : S → List ℕ → Step S A) (sound : Sound step) where
  -- ---- one turn

  module _ (s : List ℕ) (st : S) (at : ℕ) where
    module _ (st' : S) (used : ℕ) (a : A) (e : step st (drop at s) ≡ took used a st') where
      pub turn_fits : at ≤ length s → (0 < used) × (at + used ≤ length s)
      turn_fits w = let t = sound.takes st st' (drop at s) used a e in (t.0, omega (arith, length-drop at s, t.1))

      pub turn_next : read_all step st (drop at s) ≡ more a (read_all step st' (drop (at + used) s))
      turn_next =
          let t = sound.takes st st' (drop at s) used a e in
          rw (← drop-drop) (all_took step st st' (drop at s) used a (omega arith) t.0 e)

    pub turn_end : length s ≤ at → read_all step st (drop at s) ≡ whole
    turn_end le = rw (drop_of_length-le s le) (all_nil step st)

    pub turn_stop : (n : Refusal) → at < length s → step st (drop at s) ≡ stop n → read_all step st (drop at s) ≡ refused n
    turn_stop n lt e = all_stop step st (drop at s) n (omega (arith, length-drop at s)) e

    -- where the rest is good, no turn refuses
    good_never : (n : Refusal) → (read_all step st (drop at s)).verdict ≡ fine → at < length s → step st (drop at s) ≡ stop n → ⊥
    good_never n good lt e =
        refused_not_fine n (sym (ap (λ (r : Reading A). r.verdict) (turn_stop n lt e)) ∙ good)

    -- so that each takes an item
    good_by : (x : Step S A) → (read_all step st (drop at s)).verdict ≡ fine → at < length s → step st (drop at s) ≡ x
        → (used : ℕ) × (a : A) × (st' : S) × (step st (drop at s) ≡ took used a st')
    good_by (took used a st') good lt e = (used, a, st', e)
    good_by (stop n) good lt e = absurd (good_never n good lt e)

    pub good_takes : (read_all step st (drop at s)).verdict ≡ fine → at < length s → (used : ℕ) × (a : A) × (st' : S) × (step st (drop at s) ≡ took used a st')
    good_takes good lt = good_by (step st (drop at s)) good lt refl

  -- ---- a loop that counts

  module _ (weight : A → ℕ) (c : ℕ) (light : Light step weight c) (st₀ : S) (s : List ℕ) where
    pub count_start : Counted step weight c st₀ s st₀ 0 0
    count_start = record { within = omega arith; few = omega arith; verdict = refl; total = omega arith }

    module _ (st : S) (at sum : ℕ) (h : Counted step weight c st₀ s st at sum) where
      pub count_step : (st' : S) (used : ℕ) (a : A) → step st (drop at s) ≡ took used a st' → Counted step weight c st₀ s st' (at + used) (sum + weight a)
      unfolding tally
      count_step st' used a e =
          let fits = turn_fits s st at st' used a e h.within in
          let next = turn_next s st at st' used a e in
          let one = light st st' (drop at s) used a e in
          let n : tally weight (read_all step st (drop at s)).rows ≡ weight a + tally weight (read_all step st' (drop (at + used) s)).rows =
          ap (λ (r : Reading A). tally weight r.rows) next in
          record {
            within = fits.1;
            few = omega (arith, h.few, one, mul-add c at used);
            verdict = h.verdict ∙ ap (λ (r : Reading A). r.verdict) next;
            total = omega (arith, h.total, n);
          }

      pub count_stop : (n : Refusal) → at < length s → step st (drop at s) ≡ stop n → (read_all step st₀ s).verdict ≡ Err n
      count_stop n lt e = h.verdict ∙ ap (λ (r : Reading A). r.verdict) (turn_stop s st at n lt e)

      pub count_done : length s ≤ at → ((read_all step st₀ s).verdict ≡ fine) × (tally weight (read_all step st₀ s).rows ≡ sum)
      unfolding tally
      count_done le =
          let k : tally weight (read_all step st (drop at s)).rows ≡ 0 = ap (λ (r : Reading A). tally weight r.rows) (turn_end s st at le) in
          (h.verdict ∙ ap (λ (r : Reading A). r.verdict) (turn_end s st at le), omega (arith, h.total))

  -- ---- a loop that fills

  module _ (emit : A → List ℕ) (st₀ : S) (s : List ℕ) (d₀ : List ℕ) where
    pub fill_start : (read_all step st₀ s).verdict ≡ fine → length (flat emit (read_all step st₀ s).rows) ≤ length d₀ → Filled step emit st₀ s d₀ st₀ 0 0 d₀
    fill_start v r = record { within = omega arith; good = v; long = refl; room = omega arith; front = refl; back = refl }

    module _ (st : S) (at to : ℕ) (d : List ℕ) (h : Filled step emit st₀ s d₀ st at to d) where
      module _ (st' : S) (used : ℕ) (a : A) (e : step st (drop at s) ≡ took used a st') where
        flat_next : flat emit (read_all step st (drop at s)).rows ≡ emit a ++ flat emit (read_all step st' (drop (at + used) s)).rows
        unfolding flat
        flat_next = ap (λ (r : Reading A). flat emit r.rows) (turn_next s st at st' used a e)

        pub fill_fits : (0 < used) × (at + used ≤ length s) × (to + length (emit a) ≤ length d)
        fill_fits =
            let t = turn_fits s st at st' used a e h.within in
            (t.0, t.1, omega (arith, h.room, h.long, ap length flat_next, length-append (emit a) (flat emit (read_all step st' (drop (at + used) s)).rows)))

        pub fill_step : Filled step emit st₀ s d₀ st' (at + used) (to + length (emit a)) (laid d to (emit a))
        fill_step =
            let f = fill_fits in
            let tl : List ℕ = flat emit (read_all step st' (drop (at + used) s)).rows in
            record {
              within = f.1;
              good = sym (ap (λ (r : Reading A). r.verdict) (turn_next s st at st' used a e)) ∙ h.good;
              long = length_laid d to (emit a) f.2 ∙ h.long;
              room = omega (arith, h.room, ap length flat_next, length-append (emit a) tl);
              front =
                  ap (λ (l : List ℕ). l ++ tl) (take_laid d to (emit a) f.2)
                  ∙ append_assoc (take to d) (emit a) tl
                  ∙ ap (λ (l : List ℕ). take to d ++ l) (sym flat_next)
                  ∙ h.front;
              back = drop_laid d to (emit a) f.2 ∙ sym (drop-drop (length (emit a)) to d) ∙ ap (drop (length (emit a))) h.back ∙ drop-drop (length (emit a)) to d₀;
            }

      pub fill_never : (n : Refusal) → at < length s → step st (drop at s) ≡ stop n → ⊥
      fill_never n lt e = good_never s st at n h.good lt e

      pub fill_takes : at < length s → (used : ℕ) × (a : A) × (st' : S) × (step st (drop at s) ≡ took used a st')
      fill_takes lt = good_takes s st at h.good lt

      -- the places before `to` and those of what is left are all
      pub fill_sum : to + length (flat emit (read_all step st (drop at s)).rows) ≡ length (flat emit (read_all step st₀ s).rows)
      fill_sum =
          let n : length (take to d) ≡ to = length-take-le to d (omega (arith, h.room, h.long)) in
          omega (arith, ap length h.front, length-append (take to d) (flat emit (read_all step st (drop at s)).rows))

      pub fill_end : length s ≤ at → to ≡ length (flat emit (read_all step st₀ s).rows)
      unfolding flat
      fill_end le =
          let none : length (flat emit (read_all step st (drop at s)).rows) ≡ 0 = ap (λ (r : Reading A). length (flat emit r.rows)) (turn_end s st at le) in
          omega (arith, fill_sum)

      pub fill_done : length s ≤ at → d ≡ laid d₀ 0 (flat emit (read_all step st₀ s).rows)
      unfolding flat
      fill_done le =
          let all : take to d ≡ flat emit (read_all step st₀ s).rows =
          sym (append-nil (take to d)) ∙ ap (λ (r : Reading A). take to d ++ flat emit r.rows) (sym (turn_end s st at le)) ∙ h.front in
          let n : length (take to d) ≡ to = length-take-le to d (omega (arith, h.room, h.long)) in
          let k : to ≡ 0 + length (flat emit (read_all step st₀ s).rows) = omega (arith, ap length all) in
          sym (take-append-drop to d) ∙ ap₂ ◌++◌ all (h.back ∙ ap (λ (j : ℕ). drop j d₀) k)

-- items that weigh no more than their bytes weigh no more than all the bytes together
pub tally_few : {S A : Type 0} (step : S → List ℕ → Step S A) → Sound step → (weight : A → ℕ) → Light step weight 1
    → (st : S) (s : List ℕ) → tally weight (read_all step st s).rows ≤ length s
unfolding tally
tally_few step sound weight light =
    all_ind step sound (λ st s r. tally weight r.rows ≤ length s)
    (λ st. omega arith)
    (λ st s n _ _. omega arith)
    (λ st st' s used a _ e few. omega (arith, few, light st st' s used a e, (sound.takes st st' s used a e).1, length-drop used s))
