-- Laws of values one after another from a place of a lent list.
-- Assumes nothing.
use Prim.Native.Nat.{ℕ, suc, ◌+◌, ◌-◌, ◌≤◌, ◌<◌}
use mathlib.Core.Path.{◌≡◌, refl, sym, ap, ap₂, ◌∙◌}
use mathlib.Core.List.{List, [], ◌∷◌, ◌++◌, append_assoc, append-nil}
use native.Mathlib.Nat.{add-zero, zero-add, add-suc, add_assoc}
use native.Mathlib.Omega.{arith}
use borrow.Author.Tests.{le-leb, lt-leb}
use lib.ListN.{length, take, drop, set, length-append, length-drop, drop_of_length-le, take-append-drop}
use lib.Seq.{sets, sets-eq, take_at, drop_at, take-append-le, drop-append-le, take-take, length-take-le, drop-drop, paste, take-length, take_all}
use Rattle.wire.proofs.ChoiceLaws.{pick_leb}
use Rattle.wire.proofs.NumberLaws.{off, off_add}
use Rattle.wire.proofs.Parts.{drop_take, take_append}
use Rattle.wire.specs.Store.{laid, placed, PutAhead}

pub placed_fits : (d : List ℕ) (at : ℕ) (vs : List ℕ) → at + length vs ≤ length d → placed d at vs ≡ laid d at vs
unfolding placed
placed_fits d at vs h = rw (le-leb (at + length vs) (length d) h)

pub placed_not : (d : List ℕ) (at : ℕ) (vs : List ℕ) → length d < at + length vs → placed d at vs ≡ d
unfolding placed
placed_not d at vs h = rw (lt-leb (at + length vs) (length d) h)

-- what straight-line code leaves: a store at `at`, at `at + 1`, ..
abbrev pub puts : List ℕ → ℕ → ℕ → List ℕ → List ℕ
puts d at k [] = d
puts d at k (v ∷ vs) = puts (set d (off at k) v) at (suc k) vs

puts_sets : (d : List ℕ) (at k : ℕ) (vs : List ℕ) → puts d at k vs ≡ sets d (at + k) vs
puts_sets d at k [] = refl
puts_sets d at k (v ∷ vs) =
    puts_sets (set d (off at k) v) at (suc k) vs
    ∙ ap (λ (j : ℕ). sets (set d j v) (at + suc k) vs) (off_add at k)
    ∙ ap (λ (j : ℕ). sets (set d (at + k) v) j vs) (add-suc at k)

pub puts_laid : (d : List ℕ) (at : ℕ) (vs : List ℕ) → at + length vs ≤ length d → puts d at 0 vs ≡ laid d at vs
puts_laid d at vs h =
    puts_sets d at 0 vs
    ∙ ap (λ (j : ℕ). sets d j vs) (add-zero at)
    ∙ sets-eq vs d at h
    ∙ append_assoc (take at d) vs (drop (at + length vs) d)

pub puts_placed : (d : List ℕ) (at : ℕ) (vs ws : List ℕ) → at + length vs ≤ length d → vs ≡ ws → puts d at 0 vs ≡ placed d at ws
puts_placed d at vs ws h e = puts_laid d at vs h ∙ sym (placed_fits d at vs h) ∙ ap (placed d at) e

module _ (d : List ℕ) (at : ℕ) (vs : List ℕ) (h : at + length vs ≤ length d) where
  head_length : length (take at d ++ vs) ≡ at + length vs
  head_length = let e : length (take at d) ≡ at = length-take-le at d (omega arith) in length-append (take at d) vs ∙ ap (λ (k : ℕ). k + length vs) e

  pub take_laid : take (at + length vs) (laid d at vs) ≡ take at d ++ vs
  take_laid = rw (← append_assoc) (take_at (take at d ++ vs) (drop (at + length vs) d) (at + length vs) head_length)

  pub drop_laid : drop (at + length vs) (laid d at vs) ≡ drop (at + length vs) d
  drop_laid = rw (← append_assoc) (drop_at (take at d ++ vs) (drop (at + length vs) d) (at + length vs) head_length)

  pub length_laid : length (laid d at vs) ≡ length d
  length_laid =
      let e : length (take at d) ≡ at = length-take-le at d (omega arith) in
      simp (length-append, length-drop) (omega arith)

pub length_placed : (d : List ℕ) (at : ℕ) (vs : List ℕ) → length (placed d at vs) ≡ length d
unfolding placed
length_placed d at vs =
    pick_leb (λ (l : List ℕ). length l ≡ length d) (at + length vs) (length d) (laid d at vs) d (λ h. length_laid d at vs h) (λ _. refl)

-- values after values
pub laid_laid : (d : List ℕ) (at : ℕ) (vs ws : List ℕ) → at + length vs + length ws ≤ length d → laid (laid d at vs) (at + length vs) ws ≡ laid d at (vs ++ ws)
laid_laid d at vs ws h =
    let fits : at + length vs ≤ length d = omega arith in
    let more : drop (at + length vs + length ws) (laid d at vs) ≡ drop (at + length (vs ++ ws)) d =
    sym (drop-drop (length ws) (at + length vs) (laid d at vs))
    ∙ ap (drop (length ws)) (drop_laid d at vs fits)
    ∙ drop-drop (length ws) (at + length vs) d
    ∙ ap (λ (k : ℕ). drop k d) (add_assoc at (length vs) (length ws) ∙ ap (λ (k : ℕ). at + k) (sym (length-append vs ws))) in
    ap₂ (λ (l r : List ℕ). l ++ (ws ++ r)) (take_laid d at vs fits) more
    ∙ append_assoc (take at d) vs (ws ++ drop (at + length (vs ++ ws)) d)
    ∙ ap (λ (r : List ℕ). take at d ++ r) (sym (append_assoc vs ws (drop (at + length (vs ++ ws)) d)))

-- the first of the values that are laid
pub take_laid_front : (d : List ℕ) (at : ℕ) (vs ws : List ℕ) → at + length (vs ++ ws) ≤ length d → take (at + length vs) (laid d at (vs ++ ws)) ≡ take at d ++ vs
take_laid_front d at vs ws h =
    let n : length (vs ++ ws) ≡ length vs + length ws = length-append vs ws in
    let first : at + length vs ≤ length d = omega arith in
    let m : ℕ = at + length vs in
    let size : length (take m (laid d at vs)) ≡ m = length-take-le m (laid d at vs) (omega (arith, length_laid d at vs first)) in
    ap (take m) (sym (laid_laid d at vs ws (omega arith)))
    ∙ take_at (take m (laid d at vs)) (ws ++ drop (m + length ws) (laid d at vs)) m size
    ∙ take_laid d at vs first

-- what stands past them
pub drop_laid_past : (d : List ℕ) (at : ℕ) (vs : List ℕ) (n : ℕ) → at + length vs ≤ n → at + length vs ≤ length d → drop n (laid d at vs) ≡ drop n d
drop_laid_past d at vs n le h =
    let m : ℕ = at + length vs in
    let e : m + (n - m) ≡ n = omega arith in
    ap (λ (k : ℕ). drop k (laid d at vs)) (sym e)
    ∙ sym (drop-drop (n - m) m (laid d at vs))
    ∙ ap (drop (n - m)) (drop_laid d at vs h)
    ∙ drop-drop (n - m) m d
    ∙ ap (λ (k : ℕ). drop k d) e

-- past values at the front a list is as it was, with room for them or without
pub drop_laid_front : (d vs : List ℕ) → drop (length vs) (laid d 0 vs) ≡ drop (length vs) d
drop_laid_front d vs = drop_at vs (drop (0 + length vs) d) (length vs) refl ∙ ap (λ (k : ℕ). drop k d) (zero-add (length vs))

-- values that do not touch may be laid in either order
pub laid_swap : (d : List ℕ) (at : ℕ) (vs : List ℕ) (to : ℕ) (ws : List ℕ) → at + length vs ≤ to → to + length ws ≤ length d
    → laid (laid d to ws) at vs ≡ laid (laid d at vs) to ws
laid_swap d at vs to ws apart h =
    let m : ℕ = at + length vs in
    let t : List ℕ = ws ++ drop (to + length ws) d in
    let low : length (take to d) ≡ to = length-take-le to d (omega arith) in
    let front : take at (laid d to ws) ≡ take at d = take-append-le at (take to d) t (omega arith) ∙ take-take at to d (omega arith) in
    let middle : drop m (laid d to ws) ≡ take (to - m) (drop m d) ++ t = drop-append-le m (take to d) t (omega arith) ∙ ap (λ (l : List ℕ). l ++ t) (drop_take m to d) in
    let size : length (take at d ++ vs) ≡ m = head_length d at vs (omega arith) in
    let upto : take to (laid d at vs) ≡ (take at d ++ vs) ++ take (to - m) (drop m d) =
    ap (take to) (sym (append_assoc (take at d) vs (drop m d)))
    ∙ take_append to (take at d ++ vs) (drop m d)
    ∙ ap₂ (λ (l : List ℕ) (k : ℕ). l ++ take (to - k) (drop m d)) (take_all to (take at d ++ vs) (omega arith)) size in
    ap₂ (λ (l r : List ℕ). l ++ (vs ++ r)) front middle
    ∙ sym (append_assoc (take at d) vs (take (to - m) (drop m d) ++ t))
    ∙ sym (append_assoc (take at d ++ vs) (take (to - m) (drop m d)) t)
    ∙ sym (ap₂ (λ (l r : List ℕ). l ++ (ws ++ r)) upto (drop_laid_past d at vs (to + length ws) (omega arith) (omega arith)))

-- values before values
pub laid_before : (d : List ℕ) (at : ℕ) (vs ws : List ℕ) → at + length vs + length ws ≤ length d → laid (laid d (at + length vs) ws) at vs ≡ laid d at (vs ++ ws)
laid_before d at vs ws h = laid_swap d at vs (at + length vs) ws (omega arith) h ∙ laid_laid d at vs ws h

-- values placed after those at the front
pub placed_next : (d vs : List ℕ) (at : ℕ) (ws : List ℕ) → at ≡ length vs → at + length ws ≤ length d → placed (laid d 0 vs) at ws ≡ laid d 0 (vs ++ ws)
placed_next d vs at ws e h =
    let zero_at : 0 + length vs ≡ at = omega arith in
    let front : 0 + length vs ≤ length d = omega arith in
    placed_fits (laid d 0 vs) at ws (omega (arith, length_laid d 0 vs front))
    ∙ ap (λ (k : ℕ). laid (laid d 0 vs) k ws) (sym zero_at)
    ∙ laid_laid d 0 vs ws (omega arith)

-- values at the front of what stands from `at` on, put back after what stands before
pub laid_part : (d : List ℕ) (at : ℕ) (vs : List ℕ) → at + length vs ≤ length d
    → take at d ++ (laid (take (length d - at) (drop at d)) 0 vs ++ drop (length d - at) (drop at d)) ≡ laid d at vs
laid_part d at vs h =
    let k : ℕ = length d - at in
    let t : List ℕ = drop at d in
    let size : length t ≤ k = omega (arith, length-drop at d) in
    let same : take k t ≡ t = take_all k t size in
    let none : drop k t ≡ [] = drop_of_length-le t size in
    let past : drop (0 + length vs) t ≡ drop (at + length vs) d = drop-drop (0 + length vs) at d ∙ ap (λ (j : ℕ). drop (at + j) d) (zero-add (length vs)) in
    ap₂ (λ (m e : List ℕ). take at d ++ (laid m 0 vs ++ e)) same none
    ∙ ap (λ (l : List ℕ). take at d ++ l) (append-nil (vs ++ drop (0 + length vs) t) ∙ ap (λ (l : List ℕ). vs ++ l) past)

-- values that fill the part between two places, put back between what stands before and after
pub laid_between : (d : List ℕ) (at end : ℕ) (vs : List ℕ) → at + length vs ≡ end → end ≤ length d
    → take at d ++ (placed (take (end - at) (drop at d)) 0 vs ++ drop (end - at) (drop at d)) ≡ laid d at vs
laid_between d at end vs e h =
    let n : ℕ = end - at in
    let part : List ℕ = take n (drop at d) in
    let size : length part ≡ n = length-take-le n (drop at d) (omega (arith, length-drop at d)) in
    let all : 0 + length vs ≡ n = omega arith in
    let small : length part ≤ n = omega arith in
    let none : drop n part ≡ [] = drop_of_length-le part small in
    let place : at + n ≡ at + length vs = omega arith in
    let filled : placed part 0 vs ≡ vs =
    placed_fits part 0 vs (omega arith) ∙ ap (λ (l : List ℕ). vs ++ l) (ap (λ (k : ℕ). drop k part) all ∙ none) ∙ append-nil vs in
    ap₂ (λ (l r : List ℕ). take at d ++ (l ++ r)) filled (drop-drop n at d ∙ ap (λ (k : ℕ). drop k d) place)

-- no values leave the list as it was
pub laid_nil : (d : List ℕ) (at : ℕ) → laid d at [] ≡ d
laid_nil d at = ap (λ (k : ℕ). take at d ++ drop k d) (add-zero at) ∙ take-append-drop at d

pub placed_nil : (d : List ℕ) (at : ℕ) → placed d at [] ≡ d
unfolding placed
placed_nil d at = pick_leb (λ (l : List ℕ). l ≡ d) (at + 0) (length d) (laid d at []) d (λ _. laid_nil d at) (λ _. refl)

-- what a copy element by element leaves, once all are copied
pub paste_laid : (d : List ℕ) (at : ℕ) (vs : List ℕ) → paste d at vs (length vs) ≡ laid d at vs
paste_laid d at vs =
    ap (λ (l : List ℕ). (take at d ++ l) ++ drop (at + length vs) d) (take-length vs) ∙ append_assoc (take at d) vs (drop (at + length vs) d)

-- ---- values laid part by part

-- at the head of a loop: `all` goes to `start`, and `left` of it is still to come, at `to`
pub record Laying (d₀ : List ℕ) (start : ℕ) (all : List ℕ) (d : List ℕ) (to : ℕ) (left : List ℕ) : Type 0 where
  pub done : List ℕ
  pub parts : done ++ left ≡ all
  pub place : to ≡ start + length done
  pub store : d ≡ laid d₀ start done

module _ (d₀ : List ℕ) (start : ℕ) (all : List ℕ) (fits : start + length all ≤ length d₀) where
  pub laying_start : Laying d₀ start all d₀ start all
  laying_start = record { done = []; parts = refl; place = sym (add-zero start); store = sym (laid_nil d₀ start) }

  module _ (d : List ℕ) (to : ℕ) (left : List ℕ) (h : Laying d₀ start all d to left) where
    whole_length : length h.done + length left ≡ length all
    whole_length = sym (length-append h.done left) ∙ ap length h.parts

    pub laying_long : length d ≡ length d₀
    laying_long = ap length h.store ∙ length_laid d₀ start h.done (omega (arith, whole_length))

    pub laying_room : to + length left ≤ length d
    laying_room = omega (arith, whole_length, laying_long, h.place)

    pub laying_step : (vs left' : List ℕ) → left ≡ vs ++ left' → Laying d₀ start all (laid d to vs) (to + length vs) left'
    laying_step vs left' e =
        let n : length left ≡ length vs + length left' = ap length e ∙ length-append vs left' in
        record {
          done = h.done ++ vs;
          parts = append_assoc h.done vs left' ∙ ap (λ (l : List ℕ). h.done ++ l) (sym e) ∙ h.parts;
          place = omega (arith, h.place, length-append h.done vs);
          store =
              ap₂ (λ (l : List ℕ) (k : ℕ). laid l k vs) h.store h.place
              ∙ laid_laid d₀ start h.done vs (omega (arith, n, whole_length));
        }

    -- one value, as code stores it
    pub laying_set : (v : ℕ) (left' : List ℕ) → left ≡ v ∷ left' → Laying d₀ start all (set d to v) (to + 1) left'
    laying_set v left' e =
        let fit : to + 1 ≤ length d = omega (arith, laying_room, ap length e) in
        rw (puts_laid d to (v ∷ []) fit) (laying_step (v ∷ []) left' e)

    pub laying_done : left ≡ [] → d ≡ laid d₀ start all
    laying_done e = h.store ∙ ap (laid d₀ start) (sym (append-nil h.done) ∙ ap (λ (l : List ℕ). h.done ++ l) (sym e) ∙ h.parts)

-- ---- values put over others

pub laid_over : (d : List ℕ) (at : ℕ) (vs ws : List ℕ) → length vs ≤ length ws → at + length ws ≤ length d → laid (laid d at vs) at ws ≡ laid d at ws
laid_over d at vs ws le fits =
    ap₂ (λ (a b : List ℕ). a ++ (ws ++ b))
    (take_at (take at d) (vs ++ drop (at + length vs) d) at (length-take-le at d (omega arith)))
    (drop_laid_past d at vs (at + length ws) (omega arith) (omega arith))

-- ---- values put with more after them, which later values overwrite

-- a store that is like another but for what stands from place `to` up to place `total`
pub record Like (total to : ℕ) (d c : List ℕ) : Type 0 where
  pub long : length d ≡ length c
  pub front : take to d ≡ take to c
  pub back : drop total d ≡ drop total c

pub like_same : (total to : ℕ) (d : List ℕ) → Like total to d d
like_same total to d = record { long = refl; front = refl; back = refl }

pub like_put : (total to : ℕ) (d c vs more : List ℕ) → Like total to d c → to + length (vs ++ more) ≤ total → total ≤ length d → Like total (to + length vs) (laid d to (vs ++ more)) (laid c to vs)
like_put total to d c vs more h fits room =
    let sum = length-append vs more in
    let there : to + length (vs ++ more) ≤ length d = omega arith in
    let same : to + length vs ≤ length c = omega (arith, h.long, sum) in
    record {
      long = length_laid d to (vs ++ more) there ∙ h.long ∙ sym (length_laid c to vs same);
      front = take_laid_front d to vs more there ∙ ap (λ (l : List ℕ). l ++ vs) h.front ∙ sym (take_laid c to vs same);
      back = drop_laid_past d to (vs ++ more) total fits there ∙ h.back ∙ sym (drop_laid_past c to vs total (omega (arith, sum)) same);
    }

-- where nothing is left to differ
pub like_done : (total : ℕ) (d c : List ℕ) → Like total total d c → d ≡ c
like_done total d c h = sym (take-append-drop total d) ∙ ap₂ ◌++◌ h.front h.back ∙ take-append-drop total c

pub put_alone : (total : ℕ) (d : List ℕ) (to : ℕ) (vs d' : List ℕ) → to + length vs ≤ total → d' ≡ laid d to vs → PutAhead total d to vs d'
put_alone total d to vs d' fits e =
    let none : vs ++ [] ≡ vs = append-nil vs in
    record { more = []; fits = omega (arith, ap length none); is = e ∙ ap (laid d to) (sym none) }
