-- The loops over a path: what holds at the head of the one that counts and of the one that fills, and what a turn makes of it.
-- Assumes nothing.
use Prim.Native.Nat.{ℕ, ◌+◌, ◌-◌, ◌≤◌, ◌<◌}
use mathlib.Core.Path.{◌≡◌, sym, ap, ap₂, subst, ◌∙◌}
use mathlib.Core.List.{List, [], ◌∷◌, ◌++◌}
use native.Mathlib.Omega.{arith}
use lib.ListN.{length, take, drop, get_or, length-drop}
use lib.Seq.{get_or-drop, drop-drop, length-take-le}
use borrow.Rule.Slice.PartMut.{put_mid}
use Rattle.paths.proofs.NumberTurn.{ahead_put}
use native.Mathlib.Nat.{add-zero}
use Rattle.wire.specs.Refusal.{list_limit}
use Rattle.wire.specs.Walk.{took, flat}
use Rattle.wire.specs.Store.{laid, PutAhead}
use Rattle.wire.proofs.StoreLaws.{Like, like_same, like_put, like_done}
use Rattle.wire.proofs.Turn.{rest, Counted, count_start, count_step, count_stop, count_done, good_takes, Filled, fill_start, fill_fits, fill_step, fill_sum, fill_end, fill_done}
use Rattle.asns.specs.Asn.{span}
use Rattle.paths.specs.Segment.{Segment, numbers_of, Rule, segment_at, segment_of, path_of, pair_of, asns_of}
use Rattle.paths.proofs.SegmentLaws.{segment_sound, segment_taken, counted_taken, counted_refused, light_segments, light_numbers, length_numbers}
use Rattle.paths.specs.Promises.{count_in, count_answer}
use Rattle.paths.proofs.PromiseLaws.{count_good, count_bad}
use Rattle.paths.specs.declared.Path.{Path}
use Rattle.std.specs.Prelude.{Result, Ok, Err}
use Rattle.wire.specs.Verdict.{fine}
use Rattle.wire.specs.declared.refusal.Refusal.{Refusal}

-- ---- counting

-- at the head: so many segments and numbers stand before `at`
pub record CountedPath (rule : Rule) (w : ℕ) (s : List ℕ) (at m n : ℕ) : Type 0 where
  pub segments : Counted (segment_of rule w) (λ _. 1) 1 tt s tt at m
  pub numbers : Counted (segment_of rule w) (λ g. length (asns_of g)) 1 tt s tt at n

-- what a call on the part from `at` on says of the step there
path_at : (rule : Rule) (w : ℕ) (s : List ℕ) (at : ℕ) (x : Result ℕ Refusal) → x ≡ count_in (segment_of rule w tt (take (length s - at) (drop at s))) → count_in (segment_of rule w tt (drop at s)) ≡ x
path_at rule w s at x e = sym (rw rest at e)

module _ {rule : Rule} {w : ℕ} (pos : 0 < w) {s : List ℕ} where
  pub path_start : CountedPath rule w s 0 0 0
  path_start = record {
    segments = count_start (segment_of rule w) (segment_sound rule w) (λ _. 1) 1 (light_segments rule w) tt s;
    numbers = count_start (segment_of rule w) (segment_sound rule w) (λ g. length (asns_of g)) 1 (light_numbers rule w pos) tt s;
  }

  module _ {at m n : ℕ} (h : CountedPath rule w s at m n) where
    pub path_next : (k : ℕ) → Ok k ≡ count_in (segment_of rule w tt (take (length s - at) (drop at s)))
        → (at + (2 + span w k) ≤ length s) × CountedPath rule w s (at + (2 + span w k)) (m + 1) (n + k)
    unfolding segment_at
    path_next k e =
        let t = counted_taken rule w (drop at s) k (path_at rule w s at (Ok k) e) in
        let len : length (asns_of (segment_at w (drop at s))) ≡ k = length_numbers w (get_or (drop at s) 1 0) (drop 2 (drop at s)) ∙ t.1 in
        let one = count_step (segment_of rule w) (segment_sound rule w) (λ _. 1) 1 (light_segments rule w) tt s tt at m h.segments tt _ _ t.0 in
        let more = count_step (segment_of rule w) (segment_sound rule w) (λ g. length (asns_of g)) 1 (light_numbers rule w pos) tt s tt at n h.numbers tt _ _ t.0 in
        (one.within, record { segments = one; numbers = subst (λ (j : ℕ). Counted (segment_of rule w) (λ g. length (asns_of g)) 1 tt s tt (at + (2 + span w k)) (n + j)) len more })

    pub path_stop : (r : Refusal) → length s ≤ list_limit → at < length s → Err r ≡ count_in (segment_of rule w tt (take (length s - at) (drop at s))) → ◌≡◌ {A = Result Path Refusal} (Err r) (count_answer s (path_of rule w s))
    unfolding path_of
    path_stop r short lt e =
        count_bad s _ r short (count_stop (segment_of rule w) (segment_sound rule w) (λ _. 1) 1 (light_segments rule w) tt s tt at m h.segments r lt (counted_refused rule w (drop at s) r (path_at rule w s at (Err r) e)))

    pub path_done : length s ≤ list_limit → length s ≤ at → Ok (record { segments = m; numbers = n }) ≡ count_answer s (path_of rule w s)
    unfolding path_of
    path_done short le =
        let one = count_done (segment_of rule w) (segment_sound rule w) (λ _. 1) 1 (light_segments rule w) tt s tt at m h.segments le in
        let more = count_done (segment_of rule w) (segment_sound rule w) (λ g. length (asns_of g)) 1 (light_numbers rule w pos) tt s tt at n h.numbers le in
        count_good s _ m n short one.0 one.1 more.1

-- ---- the segment at a place

module _ (w : ℕ) (s : List ℕ) (at : ℕ) where
  count_is : get_or (drop at s) 1 0 ≡ get_or s (at + 1) 0
  count_is = get_or-drop at s 1 0

  pub kind_is : (segment_at w (drop at s)).kind ≡ get_or s at 0
  unfolding segment_at
  kind_is = get_or-drop at s 0 0 ∙ ap (λ (j : ℕ). get_or s j 0) (add-zero at)

  pub asns_is : asns_of (segment_at w (drop at s)) ≡ numbers_of w (get_or s (at + 1) 0) (drop (at + 2) s)
  unfolding segment_at
  asns_is = ap₂ (numbers_of w) count_is (drop-drop 2 at s)

  pub asns_length : length (asns_of (segment_at w (drop at s))) ≡ get_or s (at + 1) 0
  asns_length = ap length asns_is ∙ length_numbers w (get_or s (at + 1) 0) (drop (at + 2) s)

  pub pair_is : pair_of (segment_at w (drop at s)) ≡ get_or s at 0 ∷ get_or s (at + 1) 0 ∷ []
  pair_is = ap₂ (λ (k n : ℕ). k ∷ n ∷ []) kind_is asns_length

  -- where the rest of the path is good, it is taken
  pub good_taken : (rule : Rule) → (path_of rule w (drop at s)).verdict ≡ fine → at < length s
      → segment_of rule w tt (drop at s) ≡ took (2 + span w (get_or s (at + 1) 0)) (segment_at w (drop at s)) tt
  unfolding path_of
  good_taken rule good lt =
      let f = good_takes (segment_of rule w) (segment_sound rule w) s tt at good lt in
      let t = segment_taken rule w tt f.2 (drop at s) f.0 f.1 f.3 in
      f.3 ∙ ap₂ (λ (u : ℕ) (g : Segment). took u g tt) (t.size ∙ ap (λ (k : ℕ). 2 + span w k) count_is) t.is

-- ---- filling

-- at the head: both stores have what stands before `at`
abbrev pub FilledPath : Rule → ℕ → List ℕ → List ℕ → List ℕ → ℕ → ℕ → ℕ → List ℕ → List ℕ → Type 0
FilledPath rule w s p₀ n₀ at pair to pairs numbers =
    Filled (segment_of rule w) pair_of tt s p₀ tt at pair pairs × Filled (segment_of rule w) asns_of tt s n₀ tt at to numbers

module _ (rule : Rule) (w : ℕ) (s p₀ n₀ : List ℕ) where
  filling_start : (path_of rule w s).verdict ≡ fine → length (flat pair_of (path_of rule w s).rows) ≤ length p₀ → length (flat asns_of (path_of rule w s).rows) ≤ length n₀
      → FilledPath rule w s p₀ n₀ 0 0 0 p₀ n₀
  unfolding path_of
  filling_start v p n =
      (fill_start (segment_of rule w) (segment_sound rule w) pair_of tt s p₀ v p, fill_start (segment_of rule w) (segment_sound rule w) asns_of tt s n₀ v n)

  module _ (at pair to : ℕ) (pairs numbers : List ℕ) (h : FilledPath rule w s p₀ n₀ at pair to pairs numbers) where
    filling_done : length s ≤ at → (pairs ≡ laid p₀ 0 (flat pair_of (path_of rule w s).rows)) × (numbers ≡ laid n₀ 0 (flat asns_of (path_of rule w s).rows))
    unfolding path_of
    filling_done le = (
      fill_done (segment_of rule w) (segment_sound rule w) pair_of tt s p₀ tt at pair pairs h.0 le,
      fill_done (segment_of rule w) (segment_sound rule w) asns_of tt s n₀ tt at to numbers h.1 le,
    )

    module _ (lt : at < length s) where
      taken : segment_of rule w tt (drop at s) ≡ took (2 + span w (get_or s (at + 1) 0)) (segment_at w (drop at s)) tt
      unfolding path_of
      taken = good_taken w s at rule h.0.good lt

      filling_fits : (at + (2 + span w (get_or s (at + 1) 0)) ≤ length s) × (pair + 2 ≤ length pairs)
      filling_fits = let p = fill_fits (segment_of rule w) (segment_sound rule w) pair_of tt s p₀ tt at pair pairs h.0 tt _ _ taken in (p.1, p.2)

      filling_next :
          FilledPath rule w s p₀ n₀ (at + (2 + span w (get_or s (at + 1) 0))) (pair + 2) (to + get_or s (at + 1) 0)
          (laid pairs pair (get_or s at 0 ∷ get_or s (at + 1) 0 ∷ [])) (laid numbers to (numbers_of w (get_or s (at + 1) 0) (drop (at + 2) s)))
      filling_next =
          let size : ℕ = 2 + span w (get_or s (at + 1) 0) in
          let p = fill_step (segment_of rule w) (segment_sound rule w) pair_of tt s p₀ tt at pair pairs h.0 tt _ _ taken in
          let n = fill_step (segment_of rule w) (segment_sound rule w) asns_of tt s n₀ tt at to numbers h.1 tt _ _ taken in (
            subst (λ (l : List ℕ). Filled (segment_of rule w) pair_of tt s p₀ tt (at + size) (pair + 2) (laid pairs pair l)) (pair_is w s at) p,
            subst (λ (l : List ℕ). Filled (segment_of rule w) asns_of tt s n₀ tt (at + size) (to + get_or s (at + 1) 0) (laid numbers to l)) (asns_is w s at)
                (subst (λ (k : ℕ). Filled (segment_of rule w) asns_of tt s n₀ tt (at + size) (to + k) (laid numbers to (asns_of (segment_at w (drop at s))))) (asns_length w s at) n),
          )

-- ---- filling ahead

-- at the head: the same, but for what stands in the store of the numbers from `to` up to `total`, the number of all
pub record AheadPath (rule : Rule) (w : ℕ) (s p₀ n₀ : List ℕ) (total at pair to : ℕ) (pairs numbers : List ℕ) : Type 0 where
  -- with nothing put past `to`
  pub clean : List ℕ
  pub filled : FilledPath rule w s p₀ n₀ at pair to pairs clean
  pub like : Like total to numbers clean
  pub all : length (flat asns_of (path_of rule w s).rows) ≡ total

-- the numbers before `to` and those from `at` on are all
filled_sum : (rule : Rule) (w : ℕ) (s p₀ n₀ : List ℕ) (at pair to : ℕ) (pairs numbers : List ℕ) → FilledPath rule w s p₀ n₀ at pair to pairs numbers
    → to + length (flat asns_of (path_of rule w (drop at s)).rows) ≡ length (flat asns_of (path_of rule w s).rows)
unfolding path_of
filled_sum rule w s p₀ n₀ at pair to pairs numbers f = fill_sum (segment_of rule w) (segment_sound rule w) asns_of tt s n₀ tt at to numbers f.1

module _ {rule : Rule} {w : ℕ} {s p₀ n₀ : List ℕ} {total : ℕ} where
  pub ahead_start : (path_of rule w s).verdict ≡ fine → length (flat pair_of (path_of rule w s).rows) ≤ length p₀ → length (flat asns_of (path_of rule w s).rows) ≡ total → total ≤ length n₀
      → AheadPath rule w s p₀ n₀ total 0 0 0 p₀ n₀
  ahead_start v p all room = record { clean = n₀; filled = filling_start rule w s p₀ n₀ v p (omega arith); like = like_same total 0 n₀; all = all }

  module _ {at pair to : ℕ} {pairs numbers : List ℕ} (h : AheadPath rule w s p₀ n₀ total at pair to pairs numbers) where
    sum : to + length (flat asns_of (path_of rule w (drop at s)).rows) ≡ total
    sum = filled_sum rule w s p₀ n₀ at pair to pairs h.clean h.filled ∙ h.all

    -- the stores are as long as they were, and that of the numbers has room for all
    pub ahead_long : (length pairs ≡ length p₀) × (length numbers ≡ length n₀) × (total ≤ length numbers)
    unfolding path_of
    ahead_long =
        let long : length numbers ≡ length n₀ = h.like.long ∙ h.filled.1.long in
        (h.filled.0.long, long, omega (arith, sum, h.filled.1.room))

    pub ahead_done : length s ≤ at → (pairs ≡ laid p₀ 0 (flat pair_of (path_of rule w s).rows)) × (numbers ≡ laid n₀ 0 (flat asns_of (path_of rule w s).rows))
    unfolding path_of
    ahead_done le =
        let end : to ≡ total = fill_end (segment_of rule w) (segment_sound rule w) asns_of tt s n₀ tt at to h.clean h.filled.1 le ∙ h.all in
        let same : numbers ≡ h.clean = like_done total numbers h.clean (subst (λ (k : ℕ). Like total k numbers h.clean) end h.like) in
        let done = filling_done rule w s p₀ n₀ at pair to pairs h.clean h.filled le in
        (done.0, same ∙ done.1)

    module _ (lt : at < length s) where
      pub ahead_fits : (at + (2 + span w (get_or s (at + 1) 0)) ≤ length s) × (pair + 2 ≤ length pairs) × (to + get_or s (at + 1) 0 ≤ total)
      ahead_fits =
          let f = filling_fits rule w s p₀ n₀ at pair to pairs h.clean h.filled lt in
          let next = filled_sum rule w s p₀ n₀ _ _ _ _ _ (filling_next rule w s p₀ n₀ at pair to pairs h.clean h.filled lt) in
          (f.0, f.1, omega (arith, next, h.all))

      next : (numbers' : List ℕ) → PutAhead total numbers to (numbers_of w (get_or s (at + 1) 0) (drop (at + 2) s)) numbers'
          → AheadPath rule w s p₀ n₀ total (at + (2 + span w (get_or s (at + 1) 0))) (pair + 2) (to + get_or s (at + 1) 0)
          (laid pairs pair (get_or s at 0 ∷ get_or s (at + 1) 0 ∷ [])) numbers'
      next numbers' p =
          let vs : List ℕ = numbers_of w (get_or s (at + 1) 0) (drop (at + 2) s) in
          let put = like_put total to numbers h.clean vs p.more h.like p.fits ahead_long.2 in
          record {
            clean = laid h.clean to vs;
            filled = filling_next rule w s p₀ n₀ at pair to pairs h.clean h.filled lt;
            like =
                subst (λ (d : List ℕ). Like total (to + get_or s (at + 1) 0) d (laid h.clean to vs)) (sym p.is)
                (subst (λ (k : ℕ). Like total (to + k) (laid numbers to (vs ++ p.more)) (laid h.clean to vs)) (length_numbers w (get_or s (at + 1) 0) (drop (at + 2) s)) put);
            all = h.all;
          }

      -- the segment's numbers are put, and perhaps more, by a call on the parts from there on
      pub ahead_next : (part : List ℕ) → length part ≡ length (take (total - to) (drop to numbers))
          → take (get_or s (at + 1) 0) part ≡ numbers_of w (get_or s (at + 1) 0) (take (length s - (at + 2)) (drop (at + 2) s))
          → AheadPath rule w s p₀ n₀ total (at + (2 + span w (get_or s (at + 1) 0))) (pair + 2) (to + get_or s (at + 1) 0)
          (laid pairs pair (get_or s at 0 ∷ get_or s (at + 1) 0 ∷ [])) (put_mid to (total - to) numbers part)
      ahead_next part long e =
          let fits = ahead_fits in
          let size : length part ≡ total - to = long ∙ length-take-le (total - to) (drop to numbers) (omega (arith, length-drop to numbers, ahead_long)) in
          next _ (ahead_put total numbers to (get_or s (at + 1) 0) _ part (omega (arith, fits)) ahead_long.2 (omega (arith, fits)) size (rw rest at e) (length_numbers w _ _))
