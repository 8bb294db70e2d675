-- Laws of words: each field is read back from its word, as include/doorbramble.h does it, so other fields have another word.
-- Assumes nothing.
use Prim.Native.Nat.{ℕ, ◌/◌, ◌%◌, ◌≤◌}
use mathlib.Core.Path.{◌≡◌, sym, ap, ◌∙◌}
use mathlib.Core.List.{[], ◌∷◌}
use native.Mathlib.Omega.{arith}
use Rattle.wire.specs.Answer.{Answer, given, refusal}
use Rattle.wire.specs.Refusal.{list_limit}
use Rattle.words.specs.Word.{Fields, fields, in_fields, field_size, word_of, Narrow}

module _ (f : Fields) (h : Narrow f) where
  pub word_a : word_of f % field_size ≡ f.a
  unfolding word_of
  word_a = omega arith

  pub word_b : word_of f / 65536 % field_size ≡ f.b
  unfolding word_of
  word_b = omega arith

  pub word_c : word_of f / 4294967296 % field_size ≡ f.c
  unfolding word_of
  word_c = omega arith

  pub word_refusal : word_of f / 281474976710656 ≡ f.refusal
  unfolding word_of
  word_refusal = omega arith

pub one_word : (f g : Fields) → Narrow f → Narrow g → word_of f ≡ word_of g → f ≡ g
one_word f g h k e =
    let a : f.a ≡ g.a = sym (word_a f h) ∙ ap (λ (w : ℕ). w % field_size) e ∙ word_a g k in
    let b : f.b ≡ g.b = sym (word_b f h) ∙ ap (λ (w : ℕ). w / 65536 % field_size) e ∙ word_b g k in
    let c : f.c ≡ g.c = sym (word_c f h) ∙ ap (λ (w : ℕ). w / 4294967296 % field_size) e ∙ word_c g k in
    let n : f.refusal ≡ g.refusal = sym (word_refusal f h) ∙ ap (λ (w : ℕ). w / 281474976710656) e ∙ word_refusal g k in
    let all : fields f.a f.b f.c f.refusal ≡ fields g.a g.b g.c g.refusal = cc in
    all

-- the word of an answer is the word of what the answer equals
pub told : {A : Type 0} (f : A → Fields) {r : ℕ} {a b : A} → r ≡ word_of (f a) → a ≡ b → r ≡ word_of (f b)
told f e h = e ∙ ap (λ x. word_of (f x)) h

pub told_in : {A : Type 0} (meaning : A → Answer) {r : ℕ} {a b : A} → r ≡ word_of (in_fields (meaning a)) → a ≡ b → r ≡ word_of (in_fields (meaning b))
told_in meaning e h = told (λ x. in_fields (meaning x)) e h

-- ---- what is narrow

pub refused_narrow : (n : ℕ) → Narrow (in_fields (refusal n))
refused_narrow n = record { a = omega arith; b = omega arith; c = omega arith }

-- one number, of a size or a count
pub number_narrow : (n : ℕ) → n ≤ list_limit → Narrow (in_fields (given (n ∷ [])))
number_narrow n h = record { a = omega arith; b = omega arith; c = omega arith }
