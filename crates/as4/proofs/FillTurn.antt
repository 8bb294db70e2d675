-- The loop that fills the stores from AS4_PATH: what holds at its head, and what a turn makes of it, but for confederation segments.
-- Assumes nothing.
use Prim.Native.Nat.{ℕ, ◌+◌, ◌-◌, ◌≤◌, ◌<◌}
use mathlib.Core.Path.{◌≡◌, sym, ap, subst, ◌∙◌}
use mathlib.Core.List.{List, [], ◌∷◌, ◌++◌}
use mathlib.Core.Bool.{true, false}
use native.Mathlib.Nat.{add-zero}
use native.Mathlib.Omega.{arith}
use lib.Dec.{leb}
use lib.ListN.{length, get_or, take, drop, length-drop}
use lib.Seq.{get_or-drop}
use Rattle.wire.specs.Store.{laid}
use Rattle.wire.specs.Verdict.{fine}
use Rattle.wire.specs.Walk.{Step, took, flat}
use Rattle.wire.proofs.StoreLaws.{laid_nil, laid_part}
use Rattle.wire.proofs.Turn.{rest, Filled, fill_start, fill_fits, fill_step, fill_done}
use Rattle.asns.specs.Asn.{span}
use Rattle.paths.specs.Segment.{Segment, NoState, known_type, segment_at, segment_of, path_of, pair_of, asns_of}
use Rattle.paths.proofs.SegmentLaws.{segment_sound, length_numbers}
use Rattle.paths.proofs.PathTurn.{good_taken}
use Rattle.as4.specs.Merge.{confed_sequence, is_confed, kept}
use Rattle.as4.specs.Promises.{new_path}
use Rattle.as4.specs.Private.{kept_by, first_of, Room, Put}
use Rattle.as4.proofs.SegmentLaws.{all_kept, all_dropped, flat_kept, flat_one}
use Rattle.as4.proofs.PutLaws.{part_length}

abbrev step : NoState → List ℕ → Step NoState Segment
step = segment_of known_type 4

-- ---- one store

module _ (emit : Segment → List ℕ) (s d₀ : List ℕ) where
  -- at the head: the store has what is kept of what stands before `at`
  abbrev pub KeptTo : ℕ → ℕ → List ℕ → Type 0
  KeptTo at to d = Filled step (kept_by emit) tt s d₀ tt at to d

  module _ (at to : ℕ) (d : List ℕ) (h : KeptTo at to d) (used : ℕ) (g : Segment) (e : step tt (drop at s) ≡ took used g tt) where
    next : KeptTo (at + used) (to + length (kept_by emit g)) (laid d to (kept_by emit g))
    next = fill_step step (segment_sound known_type 4) (kept_by emit) tt s d₀ tt at to d h tt used g e

    passed_one : is_confed g ≡ true → KeptTo (at + used) to d
    passed_one confed =
        subst (λ (l : List ℕ). KeptTo (at + used) to l) (laid_nil d to)
        (subst (λ (k : ℕ). KeptTo (at + used) k (laid d to [])) (add-zero to) (subst (λ (l : List ℕ). KeptTo (at + used) (to + length l) (laid d to l)) (all_dropped g.kind (emit g) confed) next))

    module _ (other : is_confed g ≡ false) where
      fits : to + length (emit g) ≤ length d
      fits =
          subst (λ (l : List ℕ). to + length l ≤ length d) (all_kept g.kind (emit g) other)
          (fill_fits step (segment_sound known_type 4) (kept_by emit) tt s d₀ tt at to d h tt used g e).2

      room_here : (to ≤ length d) × (length (flat emit (g ∷ [])) ≤ length (take (length d - to) (drop to d)))
      room_here = (omega (arith, fits), omega (arith, fits, part_length d to, ap length (flat_one emit g)))

      put_one : (m : List ℕ) → m ≡ laid (take (length d - to) (drop to d)) 0 (flat emit (g ∷ [])) → KeptTo (at + used) (to + length (emit g)) (take to d ++ (m ++ drop (length d - to) (drop to d)))
      put_one m is =
          let put : take to d ++ (m ++ drop (length d - to) (drop to d)) ≡ laid d to (emit g) =
          ap (λ (l : List ℕ). take to d ++ (l ++ drop (length d - to) (drop to d))) (is ∙ ap (laid (take (length d - to) (drop to d)) 0) (flat_one emit g)) ∙ laid_part d to (emit g) fits in
          subst (KeptTo (at + used) (to + length (emit g))) (sym put)
          (subst (λ (l : List ℕ). KeptTo (at + used) (to + length l) (laid d to l)) (all_kept g.kind (emit g) other) next)

-- ---- both

pub record FilledTo (s p₀ n₀ : List ℕ) (at pair to : ℕ) (p n : List ℕ) : Type 0 where
  pub pairs : KeptTo pair_of s p₀ at pair p
  pub numbers : KeptTo asns_of s n₀ at to n

module _ {s p₀ n₀ : List ℕ} where
  pub filled_start : (new_path s).verdict ≡ fine → Room (kept (new_path s).rows) p₀ n₀ → FilledTo s p₀ n₀ 0 0 0 p₀ n₀
  unfolding path_of
  filled_start good room = record {
    pairs = fill_start step (segment_sound known_type 4) (kept_by pair_of) tt s p₀ good (rw (flat_kept pair_of (new_path s).rows) room.pairs);
    numbers = fill_start step (segment_sound known_type 4) (kept_by asns_of) tt s n₀ good (rw (flat_kept asns_of (new_path s).rows) room.numbers);
  }

  module _ {at pair to : ℕ} {p n : List ℕ} (h : FilledTo s p₀ n₀ at pair to p n) where
    pub filled_done : length s ≤ at → Put (kept (new_path s).rows) p₀ n₀ p n
    unfolding path_of
    filled_done le = record {
      pairs = fill_done step (segment_sound known_type 4) (kept_by pair_of) tt s p₀ tt at pair p h.pairs le ∙ ap (laid p₀ 0) (flat_kept pair_of (new_path s).rows);
      numbers = fill_done step (segment_sound known_type 4) (kept_by asns_of) tt s n₀ tt at to n h.numbers le ∙ ap (laid n₀ 0) (flat_kept asns_of (new_path s).rows);
    }

    -- what is left, as a part that is lent
    abbrev t : List ℕ
    t = take (length s - at) (drop at s)

    -- the segment at its front
    module _ (lt : at < length s) where
      taken : step tt (drop at s) ≡ took (2 + span 4 (get_or t 1 0)) (first_of 4 (get_or t 1 0) t) tt
      unfolding path_of segment_at
      taken =
          good_taken 4 s at known_type h.pairs.good lt
          ∙ ap (λ (k : ℕ). took (2 + span 4 k) (segment_at 4 (drop at s)) tt) (sym (get_or-drop at s 1 0))
          ∙ ap (λ (l : List ℕ). took (2 + span 4 (get_or l 1 0)) (segment_at 4 l) tt) (sym (rest s at))

      pub filled_fits : (at + (2 + span 4 (get_or t 1 0)) ≤ length s) × (2 + span 4 (get_or t 1 0) ≤ length t)
      filled_fits =
          let f = fill_fits step (segment_sound known_type 4) (kept_by pair_of) tt s p₀ tt at pair p h.pairs tt _ _ taken in
          (f.1, omega (arith, f.1, ap length (rest s at), length-drop at s))

      pub filled_passed : leb confed_sequence (get_or t 0 0) ≡ true → FilledTo s p₀ n₀ (at + (2 + span 4 (get_or t 1 0))) pair to p n
      filled_passed confed = record { pairs = passed_one pair_of s p₀ at pair p h.pairs _ _ taken confed; numbers = passed_one asns_of s n₀ at to n h.numbers _ _ taken confed }

      module _ (other : leb confed_sequence (get_or t 0 0) ≡ false) where
        pub filled_room : (pair + 2 ≤ length p) × (to + get_or t 1 0 ≤ length n)
            × Room (first_of 4 (get_or t 1 0) t ∷ []) (take (length p - pair) (drop pair p)) (take (length n - to) (drop to n))
        filled_room =
            let a = fits pair_of s p₀ at pair p h.pairs _ _ taken other in
            let b = fits asns_of s n₀ at to n h.numbers _ _ taken other in
            (a, omega (arith, b, length_numbers 4 (get_or t 1 0) (drop 2 t)), record { pairs = (room_here pair_of s p₀ at pair p h.pairs _ _ taken other).1; numbers = (room_here asns_of s n₀ at to n h.numbers _ _ taken other).1 })

        pub filled_put : {p' n' : List ℕ} → Put (first_of 4 (get_or t 1 0) t ∷ []) (take (length p - pair) (drop pair p)) (take (length n - to) (drop to n)) p' n'
            → FilledTo s p₀ n₀ (at + (2 + span 4 (get_or t 1 0))) (pair + 2) (to + get_or t 1 0)
            (take pair p ++ (p' ++ drop (length p - pair) (drop pair p))) (take to n ++ (n' ++ drop (length n - to) (drop to n)))
        filled_put {p'} {n'} put =
            let many = length_numbers 4 (get_or t 1 0) (drop 2 t) in
            record {
              pairs = put_one pair_of s p₀ at pair p h.pairs _ _ taken other p' put.pairs;
              numbers =
                  subst (λ (k : ℕ). KeptTo asns_of s n₀ (at + (2 + span 4 (get_or t 1 0))) (to + k) (take to n ++ (n' ++ drop (length n - to) (drop to n)))) many
                  (put_one asns_of s n₀ at to n h.numbers _ _ taken other n' put.numbers);
            }
