-- Laws of what the calls on a path answer and leave.
-- Assumes nothing.
use Prim.Native.Nat.{ℕ, ◌+◌, ◌*◌, ◌/◌, ◌≤◌, ◌<◌}
use mathlib.Core.Path.{◌≡◌, refl, sym, ap, ap₂, subst, ◌∙◌}
use mathlib.Core.List.{List, ◌++◌}
use native.Mathlib.Omega.{arith}
use borrow.Author.Tests.{le-leb, lt-leb}
use lib.ListN.{length, take, drop}
use lib.Seq.{length-take-le}
use lib.Dec.{leb}
use Rattle.std.specs.Prelude.{Result, Ok, Err}
use Rattle.std.proofs.lemmas.Grind.{common_steps}
use Rattle.wire.specs.Answer.{filled}
use Rattle.wire.specs.Verdict.{Verdict, fine, unless}
use Rattle.wire.proofs.ChoiceLaws.{pick_any, pick_leb}
use Rattle.wire.specs.Refusal.{list_limit}
use Rattle.wire.specs.declared.refusal.Refusal.{Refusal}
use Rattle.wire.specs.declared.refusal.Refusal.TheVariants.{TooLong, NoRoom}
use Rattle.wire.specs.Store.{laid, placed}
use Rattle.wire.specs.Walk.{Reading, tally, flat}
use Rattle.wire.proofs.WalkLaws.{tally_one, tally_flat, flat_length}
use Rattle.wire.proofs.StoreLaws.{placed_fits, placed_not, drop_laid_front}
use Rattle.asns.specs.Asn.{span}
use Rattle.paths.specs.Segment.{Segment, numbers_of, pair_of, asns_of}
use Rattle.paths.proofs.SegmentLaws.{length_numbers}
use Rattle.paths.specs.Promises.{asns_after, path_meaning, counts, count_answer, in_stores, read_answer, pairs_after, numbers_after}
use Rattle.paths.specs.declared.Path.{Path}

-- ---- numbers at the front of a store

module _ (w : ℕ) (s : List ℕ) (n : ℕ) (d : List ℕ) where
  pub asns_short : length s < span w n → d ≡ asns_after w s n d
  unfolding asns_after
  asns_short h = rw (lt-leb (span w n) (length s) h)

  module _ (there : span w n ≤ length s) where
    pub asns_there : asns_after w s n d ≡ placed d 0 (numbers_of w n s)
    unfolding asns_after
    asns_there = rw (le-leb (span w n) (length s) there)

    pub asns_full : length d < n → d ≡ asns_after w s n d
    asns_full k = sym (asns_there ∙ placed_not d 0 (numbers_of w n s) (omega (arith, length_numbers w n s)))

    pub asns_fit : n ≤ length d → laid d 0 (numbers_of w n s) ≡ asns_after w s n d
    asns_fit k = sym (asns_there ∙ placed_fits d 0 (numbers_of w n s) (omega (arith, length_numbers w n s)))

    -- by way of a part of n places, put back before what stands after it
    pub asns_part : (part : List ℕ) → n ≤ length d → part ≡ numbers_of w (length (take n d)) s → part ++ drop n d ≡ asns_after w s n d
    asns_part part k e =
        let size : 0 + length (numbers_of w n s) ≡ n = omega (arith, length_numbers w n s) in
        ap₂ ◌++◌ (e ∙ ap (λ (j : ℕ). numbers_of w j s) (length-take-le n d k)) (ap (λ (j : ℕ). drop j d) (sym size)) ∙ asns_fit k

-- past the numbers, the store is as it was
pub asns_past : (w : ℕ) (s : List ℕ) (n : ℕ) (d : List ℕ) → drop n (asns_after w s n d) ≡ drop n d
unfolding asns_after placed
asns_past w s n d =
    let Kept : List ℕ → Type 0 = λ l. drop n l ≡ drop n d in
    pick_any Kept (leb (span w n) (length s)) _ d
    (pick_any Kept (leb (0 + length (numbers_of w n s)) (length d)) _ d (subst (λ (k : ℕ). drop k (laid d 0 (numbers_of w n s)) ≡ drop k d) (length_numbers w n s) (drop_laid_front d (numbers_of w n s))) refl) refl

module _ (s : List ℕ) (r : Reading Segment) where
  -- ---- counting

  pub count_long : list_limit < length s → ◌≡◌ {A = Result Path Refusal} (Err TooLong) (count_answer s r)
  unfolding count_answer
  count_long h = rw (lt-leb (length s) list_limit h)

  pub count_good : (m n : ℕ) → length s ≤ list_limit → r.verdict ≡ fine → tally (λ _. 1) r.rows ≡ m → tally (λ g. length (asns_of g)) r.rows ≡ n
      → Ok (record { segments = m; numbers = n }) ≡ count_answer s r
  unfolding count_answer
  count_good m n h v a b =
      rw (le-leb (length s) list_limit h, v) (ap₂ (λ (i j : ℕ). Ok (record { segments = i; numbers = j })) (sym a ∙ tally_one r.rows) (sym b ∙ tally_flat asns_of r.rows))

  pub count_bad : (q : Refusal) → length s ≤ list_limit → r.verdict ≡ Err q → ◌≡◌ {A = Result Path Refusal} (Err q) (count_answer s r)
  unfolding count_answer
  count_bad q h v = rw (le-leb (length s) list_limit h, v)

  -- what a good count says
  good_by : (v : Verdict) (p q : Path) → unless v q ≡ Ok p → (v ≡ fine) × (q ≡ p)
  good_by (Ok tt) p q e = (refl, (cc))
  good_by (Err n) p q e = cc

  pub count_path : (p : Path) → count_answer s r ≡ Ok p → (length s ≤ list_limit) × (r.verdict ≡ fine) × (counts r.rows ≡ p)
  unfolding count_answer
  count_path p =
      pick_leb (λ (x : Result Path Refusal). x ≡ Ok p → (length s ≤ list_limit) × (r.verdict ≡ fine) × (counts r.rows ≡ p))
      (length s) list_limit _ _
      (λ h e. let g = good_by r.verdict p _ e in (h, g.0, g.1))
      (λ _ e. cc)

  -- ---- reading

  -- an answer, and the stores that go with it
  pub leave : (pairs numbers : List ℕ) (y x : Result Path Refusal) → count_answer s r ≡ y → in_stores y (length pairs) (length numbers) ≡ x
      → (x ≡ read_answer s r (length pairs) (length numbers))
      × ((filled (path_meaning x) (flat pair_of r.rows) pairs ≡ pairs_after s r pairs (length numbers))
      × (filled (path_meaning x) (flat asns_of r.rows) numbers ≡ numbers_after s r (length pairs) numbers))
  unfolding read_answer pairs_after numbers_after
  leave pairs numbers y x counted sized = rw (counted, sized) (refl, (refl, refl))

-- two places for each segment
pub pairs_length : (rows : List Segment) → length (flat pair_of rows) ≡ 2 * length rows
pairs_length = flat_length pair_of 2 (λ g. refl)

-- ---- room

module _ (path : Path) (p q : ℕ) where
  pub no_pairs : p / 2 < path.segments → in_stores (Ok path) p q ≡ Err NoRoom
  no_pairs h = rw (lt-leb path.segments (p / 2) h)

  pub no_numbers : path.segments ≤ p / 2 → q < path.numbers → in_stores (Ok path) p q ≡ Err NoRoom
  no_numbers h k = rw (le-leb path.segments (p / 2) h, lt-leb path.numbers q k)

  pub room : path.segments ≤ p / 2 → path.numbers ≤ q → in_stores (Ok path) p q ≡ Ok path
  room h k = rw (le-leb path.segments (p / 2) h, le-leb path.numbers q k)

  -- what an accepted reading says: the count, and room for it
  pub stores_path : (y : Result Path Refusal) → in_stores y p q ≡ Ok path → (y ≡ Ok path) × (path.segments ≤ p / 2) × (path.numbers ≤ q)
  stores_path (Ok path') e = grind (arith, common_steps)
  stores_path (Err r) e = cc

module _ (s : List ℕ) (r : Reading Segment) (path : Path) (p q : ℕ) where
  pub read_path : read_answer s r p q ≡ Ok path
      → (length s ≤ list_limit) × (r.verdict ≡ fine) × (counts r.rows ≡ path) × (path.segments ≤ p / 2) × (path.numbers ≤ q)
  unfolding read_answer
  read_path e =
      let a = stores_path path p q (count_answer s r) e in
      let b = count_path s r path a.0 in
      (b.0, b.1, b.2, a.1, a.2)

  pub path_read : length s ≤ list_limit → r.verdict ≡ fine → counts r.rows ≡ path → path.segments ≤ p / 2 → path.numbers ≤ q → read_answer s r p q ≡ Ok path
  unfolding read_answer count_answer
  path_read short v c h k = rw (le-leb (length s) list_limit short, v, ← c) (room (counts r.rows) p q (rw (← c) at h) (rw (← c) at k))

-- the stores of an accepted reading
pub path_stores : (s : List ℕ) (r : Reading Segment) (pairs numbers : List ℕ) (path : Path) → read_answer s r (length pairs) (length numbers) ≡ Ok path
    → (pairs_after s r pairs (length numbers) ≡ laid pairs 0 (flat pair_of r.rows)) × (numbers_after s r (length pairs) numbers ≡ laid numbers 0 (flat asns_of r.rows))
unfolding pairs_after numbers_after
path_stores s r pairs numbers path e = rw e (refl, refl)
