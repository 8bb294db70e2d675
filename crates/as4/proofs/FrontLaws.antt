-- Laws of a front of AS_PATH: a sequence that is split, and the whole segments before it.
-- Assumes nothing.
use Prim.Native.Nat.{ℕ, zero, suc, ◌-◌, ◌≤◌, ◌<◌}
use mathlib.Core.Path.{◌≡◌, refl, sym, ap, subst, ◌∙◌}
use mathlib.Core.List.{List, [], ◌∷◌, append-nil}
use native.Mathlib.Nat.{not-suc-le-zero}
use native.Mathlib.Omega.{arith}
use borrow.Author.Tests.{le-leb}
use lib.ListN.{length, take, drop}
use lib.Dec.{leb}
use Rattle.wire.specs.Choice.{pick}
use Rattle.wire.specs.Refusal.{list_limit}
use Rattle.wire.specs.Verdict.{fine}
use Rattle.wire.specs.Walk.{Reading, flat}
use Rattle.wire.proofs.StoreLaws.{laid_nil}
use Rattle.wire.proofs.Turn.{rest}
use Rattle.wire.proofs.WalkLaws.{all_nil}
use Rattle.paths.specs.Segment.{Segment, numbers_of, known_type, segment_of, path_of, asns_of}
use Rattle.paths.specs.Promises.{counts, pairs_after, numbers_after}
use Rattle.paths.proofs.SegmentLaws.{length_numbers}
use Rattle.paths.proofs.PromiseLaws.{pairs_length, path_read, path_stores}
use Rattle.as4.specs.Promises.{old_path}
use Rattle.as4.specs.Private.{first_of, split_at, Room, Put}

-- ---- a split

module _ (s : List ℕ) (at : ℕ) where
  pub split_some : (n : ℕ) → 0 < n → split_at s at n ≡ first_of 2 n (drop at s) ∷ []
  unfolding split_at
  split_some zero pos = absurd (not-suc-le-zero pos)
  split_some (suc n) pos = refl

  -- its bytes as a part that is lent
  pub split_lent : (n : ℕ) → 0 < n → split_at s at n ≡ first_of 2 n (take (length s - at) (drop at s)) ∷ []
  split_lent n pos = split_some n pos ∙ ap (λ (l : List ℕ). first_of 2 n l ∷ []) (sym (rest s at))

  pub split_length : (n : ℕ) → length (split_at s at n) ≡ pick (leb 1 n) 1 0
  unfolding split_at
  split_length zero = refl
  split_length (suc n) = rw (le-leb 1 (suc n) (omega arith))

  pub split_numbers : (n : ℕ) → length (flat asns_of (split_at s at n)) ≡ n
  unfolding split_at flat
  split_numbers zero = refl
  split_numbers (suc n) = ap length (append-nil (numbers_of 2 (suc n) (drop 2 (drop at s)))) ∙ length_numbers 2 (suc n) (drop 2 (drop at s))

-- ---- nothing is put

pub none_put : (p n : List ℕ) → Put [] p n p n
unfolding flat
none_put p n = record { pairs = sym (laid_nil p 0); numbers = sym (laid_nil n 0) }

pub split_none : (s : List ℕ) (at : ℕ) {split : ℕ} (p n : List ℕ) → split ≡ 0 → Put (split_at s at split) p n p n
unfolding split_at
split_none s at p n e = rw e (none_put p n)

pub front_none : (s p n : List ℕ) → length s ≡ 0 → Put (old_path s).rows p n p n
unfolding path_of
front_none [] p n e = subst (λ (r : Reading Segment). Put r.rows p n p n) (sym (all_nil (segment_of known_type 2) tt)) (none_put p n)
front_none (b ∷ s) p n e = absurd (omega (arith, e))

-- ---- whole segments

-- what the reader of a path leaves of good ones that have room
pub front_read : (s p n : List ℕ) {p' n' : List ℕ} → length s ≤ list_limit → (old_path s).verdict ≡ fine → Room (old_path s).rows p n
    → p' ≡ pairs_after s (old_path s) p (length n) → n' ≡ numbers_after s (old_path s) (length p) n → Put (old_path s).rows p n p' n'
front_read s p n short good room ep en =
    let r = old_path s in
    let left = path_stores s r p n (counts r.rows) (path_read s r (counts r.rows) (length p) (length n) short good refl (omega (arith, pairs_length r.rows, room.pairs)) room.numbers) in
    record { pairs = ep ∙ left.0; numbers = en ∙ left.1 }
