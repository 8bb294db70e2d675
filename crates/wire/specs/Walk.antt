-- Reading item by item, over any step and any state: a step looks at what is left, and takes some of it for a value or refuses.
use Rattle.std.specs.Prelude.{ℕ, zero, suc, ◌+◌, ◌-◌, List, [], ◌∷◌, ◌++◌, length, take, drop, Err}
use Rattle.wire.specs.Verdict.{Verdict, fine}
use Rattle.wire.specs.declared.refusal.Refusal.{Refusal}

-- what a step finds: it takes that many places for a value and goes on in a state, or it refuses for a reason
pub data Step (S A : Type 0) : Type 0 where
  took : ℕ → A → S → Step S A
  stop : Refusal → Step S A

-- the values before the refusal, and whether there is one
pub record Reading (A : Type 0) : Type 0 where
  pub rows : List A
  pub verdict : Verdict

abbrev pub whole : {A : Type 0} → Reading A
whole = record { rows = []; verdict = fine }

abbrev pub refused : {A : Type 0} → Refusal → Reading A
refused r = record { rows = []; verdict = Err r }

abbrev pub more : {A : Type 0} → A → Reading A → Reading A
more a r = record { rows = a ∷ r.rows; verdict = r.verdict }

-- after a step: on past the other places of the item, all but the one that stands here
abbrev pub after : {S A : Type 0} → Step S A → (S → ℕ → Reading A) → Reading A
after (took used a st) go = more a (go st (used - 1))
after (stop r) go = refused r

-- pass over `skip` places, then step
unfoldable pub walk : {S A : Type 0} → (S → List ℕ → Step S A) → S → ℕ → List ℕ → Reading A
walk step st skip [] = whole
walk step st zero (b ∷ s) = after (step st (b ∷ s)) (λ st' k. walk step st' k s)
walk step st (suc k) (b ∷ s) = walk step st k s

-- all of it, from a state
unfoldable pub read_all : {S A : Type 0} → (S → List ℕ → Step S A) → S → List ℕ → Reading A
read_all step st s = walk step st 0 s

-- the same step, whose value is what f says of the state that it leaves and of the places that it takes
abbrev pub noted : {S A B : Type 0} → (S → List ℕ → B) → List ℕ → Step S A → Step S B
noted f s (took used a st) = took used (f st (take used s)) st
noted f s (stop r) = stop r

-- what f says of each item that a reading takes, before its refusal
unfoldable pub notes : {S A B : Type 0} → (S → List ℕ → B) → (S → List ℕ → Step S A) → S → List ℕ → List B
notes f step st s = (read_all (λ st' t. noted f t (step st' t)) st s).rows

-- the places of each item
abbrev pub pieces : {S A : Type 0} → (S → List ℕ → Step S A) → S → List ℕ → List (List ℕ)
pieces step st s = notes (λ _ item. item) step st s

-- where items laid end to end start, the first of them at a place
unfoldable pub starts : ℕ → List (List ℕ) → List ℕ
starts at [] = []
starts at (item ∷ items) = at ∷ starts (at + length item) items

-- a reading without its first n values
abbrev pub past : {A : Type 0} → ℕ → Reading A → Reading A
past n r = record { rows = drop n r.rows; verdict = r.verdict }

-- the sum of a weight over values
unfoldable pub tally : {A : Type 0} → (A → ℕ) → List A → ℕ
tally weight [] = 0
tally weight (a ∷ rows) = weight a + tally weight rows

-- the places of values, one after another
unfoldable pub flat : {A : Type 0} → (A → List ℕ) → List A → List ℕ
flat emit [] = []
flat emit (a ∷ rows) = emit a ++ flat emit rows
