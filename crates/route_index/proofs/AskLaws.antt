-- Laws of asking by an index: how it is judged place by place, and what passing over items leads to.
-- Assumes nothing.
use Prim.Native.Nat.{ℕ, zero, suc, ◌+◌, ◌-◌, ◌/◌, ◌%◌, ◌≤◌, ◌<◌}
use mathlib.Core.Path.{◌≡◌, refl, sym, ap, ◌∙◌}
use mathlib.Core.List.{List, [], ◌∷◌}
use mathlib.Core.Bool.{Bool, true, false, ◌&&◌}
use native.Mathlib.Nat.{not-suc-le-zero, lt_of_not-le}
use native.Mathlib.Decide.{dec_le}
use native.Mathlib.Omega.{arith}
use borrow.Author.Tests.{le-leb, lt-leb, lt-ltb, le-ltb}
use lib.ListN.{length, get_or, drop, length-drop, drop_of_length-le}
use lib.Seq.{drop-drop}
use lib.Dec.{ltb, eqb}
use Rattle.std.specs.Prelude.{Result, Ok, Err}
use Rattle.wire.specs.Refusal.{list_limit}
use Rattle.wire.specs.declared.refusal.Refusal.{Refusal}
use Rattle.wire.specs.declared.refusal.Refusal.TheVariants.{TooLong, NotAnIndex, NoSuchRoute}
use Rattle.wire.proofs.ChoiceLaws.{pick_leb}
use Rattle.families.specs.declared.Form.{Form}
use Rattle.routes.specs.Prefix.{with_host}
use Rattle.routes.specs.List.{Reader}
use Rattle.routes.specs.declared.Prefix.{Prefix}
use Rattle.routes.specs.declared.Route.{Route}
use Rattle.route_index.specs.Index.{rising, is_index, past_item, unless_none, route_from, route_by}
use Rattle.route_index.specs.Private.{skipped}

-- ---- an index, judged place by place

and_true : (b : Bool) → b && true ≡ b
and_true true = refl
and_true false = refl

and_assoc : (a b c : Bool) → a && (b && c) ≡ (a && b) && c
and_assoc true b c = refl
and_assoc false b c = refl

-- each place before the next, and the last before the end
abbrev pub pairs : ℕ → List ℕ → Bool
pairs end [] = true
pairs end (p ∷ []) = ltb p end
pairs end (p ∷ q ∷ ps) = ltb p q && pairs end (q ∷ ps)

-- so is each before the end
pairs_rising : (end p : ℕ) (ps : List ℕ) → pairs end (p ∷ ps) ≡ (ltb p end && rising (suc p) end ps)
pairs_rising end p [] = sym (and_true (ltb p end))
pairs_rising end p (q ∷ ps) =
    ap (λ (b : Bool). ltb p q && b) (pairs_rising end q ps)
    ∙ elim (dec_le (suc p) end) [
      | yes lt ↦ ap (λ (b : Bool). b && (ltb p q && (ltb q end && rising (suc q) end ps))) (sym (lt-ltb p end lt))
      | no ge ↦ elim (dec_le (suc p) q) [
        | yes on ↦ (let past : ltb q end ≡ false = le-ltb q end (omega (arith, lt_of_not-le ge)) in
            let out : ltb p end ≡ false = le-ltb p end (omega (arith, lt_of_not-le ge)) in
            simp (past, out, lt-ltb p q on))
        | no back ↦ (let out : ltb p end ≡ false = le-ltb p end (omega (arith, lt_of_not-le ge)) in
            let not_on : ltb p q ≡ false = le-ltb p q (omega (arith, lt_of_not-le back)) in
            simp (out, not_on))
      ]
    ]

pairs_next : (end i : ℕ) (l : List ℕ) → suc i < length l → pairs end (drop i l) ≡ (ltb (get_or l i 0) (get_or l (suc i) 0) && pairs end (drop (suc i) l))
pairs_next end i [] h = absurd (not-suc-le-zero h)
pairs_next end zero (p ∷ []) h = absurd (omega arith)
pairs_next end zero (p ∷ q ∷ l) h = refl
pairs_next end (suc i) (p ∷ l) h = pairs_next end i l (omega arith)

pairs_last : (end i : ℕ) (l : List ℕ) → suc i ≡ length l → pairs end (drop i l) ≡ ltb (get_or l i 0) end
pairs_last end i [] h = absurd (omega arith)
pairs_last end zero (p ∷ []) h = refl
pairs_last end zero (p ∷ q ∷ l) h = absurd (omega arith)
pairs_last end (suc i) (p ∷ l) h = pairs_last end i l (omega arith)

-- at the head of the loop: what was judged, and the places from the last of these on
pub record Judging (end : ℕ) (index : List ℕ) (rises : Bool) (i : ℕ) : Type 0 where
  pub some : 0 < i
  pub within : i ≤ length index
  pub same : (rises && pairs end (drop (i - 1) index)) ≡ is_index end index

pub judge_none : (end : ℕ) (index : List ℕ) → length index ≡ 0 → true ≡ is_index end index
unfolding is_index
judge_none end [] e = refl
judge_none end (p ∷ ps) e = absurd (omega arith)

pub judge_start : (end : ℕ) (index : List ℕ) → 0 < length index → Judging end index (eqb (get_or index 0 0) 0) 1
unfolding is_index
judge_start end [] some = absurd (not-suc-le-zero some)
judge_start end (p ∷ ps) some = record { some = omega arith; within = some; same = ap (λ (b : Bool). eqb p 0 && b) (pairs_rising end p ps) }

module _ {end : ℕ} {index : List ℕ} {rises : Bool} {i : ℕ} (h : Judging end index rises i) where
  pub judge_step : i < length index → Judging end index (rises && ltb (get_or index (i - 1) 0) (get_or index i 0)) (i + 1)
  judge_step lt =
      let before : i ≡ suc (i - 1) = omega (arith, h.some) in
      let pair : Bool = ltb (get_or index (i - 1) 0) (get_or index i 0) in
      record {
        some = omega arith;
        within = omega (arith, lt);
        same =
            ap (λ (j : ℕ). (rises && pair) && pairs end (drop j index)) (let one : i + 1 - 1 ≡ i = omega arith in one)
            ∙ sym (and_assoc rises pair (pairs end (drop i index)))
            ∙ ap (λ (j : ℕ). rises && (ltb (get_or index (i - 1) 0) (get_or index j 0) && pairs end (drop j index))) before
            ∙ ap (λ (b : Bool). rises && b) (sym (pairs_next end (i - 1) index (omega (arith, lt, before))))
            ∙ h.same;
      }

  pub judge_done : length index ≤ i → (rises && ltb (get_or index (length index - 1) 0) end) ≡ is_index end index
  judge_done all =
      let last : i - 1 ≡ length index - 1 = omega (arith, h.within, all) in
      ap (λ (j : ℕ). rises && ltb (get_or index j 0) end) (sym last)
      ∙ ap (λ (b : Bool). rises && b) (sym (pairs_last end (i - 1) index (omega (arith, h.some, h.within, all))))
      ∙ h.same

-- ---- the route at a place

pub unless_some : (t : List ℕ) (a : Result Route Refusal) → 0 < length t → unless_none t a ≡ a
unless_some [] a some = absurd (not-suc-le-zero some)
unless_some (b ∷ t) a some = refl

module _ (read : Reader) (form : Form) (s : List ℕ) where
  -- what is answered of a place that was reached
  abbrev pub found : Result ℕ Refusal → Result Route Refusal
  found (Ok at) = unless_none (drop at s) (with_host form (drop at s) (read (drop at s) form))
  found (Err why) = Err why

  past_found : (n at : ℕ) → ((used : ℕ) → route_from read form n (drop (at + used) s) ≡ found (skipped read form s n (at + used)))
      → (a : Result Prefix Refusal) → past_item a (λ used. route_from read form n (drop used (drop at s))) ≡ found (past_item a (λ used. skipped read form s n (at + used)))
  past_found n at again (Ok item) = ap (route_from read form n) (drop-drop item.used at s) ∙ again item.used
  past_found n at again (Err why) = refl

  -- the n-th route from a place on is what passing over n items leads to
  pub route_found : (n at : ℕ) → route_from read form n (drop at s) ≡ found (skipped read form s n at)
  unfolding route_from skipped
  route_found zero at = refl
  route_found (suc n) at =
      pick_leb (λ (a : Result ℕ Refusal). route_from read form (suc n) (drop at s) ≡ found a) (length s) at _ _
      (λ le. let none : drop at s ≡ [] = drop_of_length-le s le in
      ap (λ (t : List ℕ). unless_none t (past_item (read t form) (λ used. route_from read form n (drop used t)))) none
      ∙ ap (λ (t : List ℕ). unless_none t (with_host form t (read t form))) (sym none))
      (λ lt. unless_some (drop at s) (past_item (read (drop at s) form) (λ used. route_from read form n (drop used (drop at s)))) (omega (arith, length-drop at s))
      ∙ past_found n at (λ used. route_found n (at + used)) (read (drop at s) form))

  -- where the place lies before the end, or not
  pub found_none : (at : ℕ) → length s ≤ at → Err NoSuchRoute ≡ found (Ok at)
  found_none at le = ap (λ (t : List ℕ). unless_none t (with_host form t (read t form))) (sym (drop_of_length-le s le))

  pub found_some : (at : ℕ) → at < length s → with_host form (drop at s) (read (drop at s) form) ≡ found (Ok at)
  found_some at lt = sym (unless_some (drop at s) (with_host form (drop at s) (read (drop at s) form)) (omega (arith, length-drop at s)))

  -- ---- by an index

  module _ (index : List ℕ) (n : ℕ) where
    pub ask_long : list_limit < length s → Err TooLong ≡ route_by read form s index n
    unfolding route_by
    ask_long lt = rw (lt-leb (length s) list_limit lt)

    module _ (short : length s ≤ list_limit) where
      pub ask_other : is_index (length s) index ≡ false → Err NotAnIndex ≡ route_by read form s index n
      unfolding route_by
      ask_other other = rw (le-leb (length s) list_limit short, other)

      module _ (good : is_index (length s) index ≡ true) where
        pub ask_lacking : length index ≤ n / 16 → Err NoSuchRoute ≡ route_by read form s index n
        unfolding route_by
        ask_lacking le = rw (le-leb (length s) list_limit short, good, le-ltb (n / 16) (length index) le)

        -- what passing over the rest from that start leads to
        pub ask_found : (start : ℕ) → n / 16 < length index → start ≡ get_or index (n / 16) 0 → (a : Result ℕ Refusal) → a ≡ skipped read form s (n % 16) start → found a ≡ route_by read form s index n
        unfolding route_by
        ask_found start lt is a e =
            rw (le-leb (length s) list_limit short, good, lt-ltb (n / 16) (length index) lt)
            (ap found (e ∙ ap (skipped read form s (n % 16)) is) ∙ sym (route_found (n % 16) (get_or index (n / 16) 0)))
