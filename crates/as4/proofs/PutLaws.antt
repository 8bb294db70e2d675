-- Segments put into the two stores: one, a split, whole ones, and all of a path that is built.
-- Assumes nothing.
use Prim.Native.Nat.{ℕ, ◌+◌, ◌-◌, ◌*◌, ◌≤◌}
use mathlib.Core.Path.{◌≡◌, sym, ap, ◌∙◌}
use mathlib.Core.List.{List, [], ◌∷◌, ◌++◌, append_assoc, append-nil}
use native.Mathlib.Omega.{arith}
use lib.ListN.{length, get_or, take, drop, set, length-append, length-drop}
use lib.Dec.{leb}
use Rattle.wire.specs.Choice.{pick}
use Rattle.wire.specs.Store.{laid}
use Rattle.wire.specs.Walk.{flat}
use Rattle.wire.proofs.StoreLaws.{puts_laid, laid_laid, laid_before, laid_part, length_laid}
use Rattle.wire.proofs.Turn.{rest}
use Rattle.asns.specs.Asn.{span}
use Rattle.paths.specs.Promises.{asns_after}
use Rattle.paths.specs.Segment.{Segment, pair_of, asns_of}
use Rattle.paths.proofs.PromiseLaws.{asns_fit, pairs_length}
use Rattle.paths.proofs.SegmentLaws.{length_numbers}
use Rattle.as4.specs.Promises.{old_path}
use Rattle.as4.specs.Private.{first_of, split_at, front_of, Front, Room, Put}
use Rattle.as4.specs.declared.Leading.{Leading}
use Rattle.as4.proofs.SegmentLaws.{flat_join, flat_one}
use Rattle.as4.proofs.FrontLaws.{split_length, split_numbers}

-- ---- one segment

pub room_one : {g : Segment} {p n : List ℕ} → Room (g ∷ []) p n → (2 ≤ length p) × (length (asns_of g) ≤ length n)
unfolding flat
room_one {g} r = (r.pairs, rw (append-nil (asns_of g)) at r.numbers)

-- its type and count, and what the reader of numbers leaves
pub put_first : (w : ℕ) (s : List ℕ) (n : ℕ) {p d : List ℕ} → 2 + span w n ≤ length s → Room (first_of w n s ∷ []) p d
    → Put (first_of w n s ∷ []) p d (set (set p 0 (get_or s 0 0)) 1 n) (asns_after w (take (length s - 2) (drop 2 s)) n d)
put_first w s n {p} {d} there room =
    let fits = room_one room in
    let many = length_numbers w n (drop 2 s) in
    record {
      pairs = puts_laid p 0 (get_or s 0 0 ∷ n ∷ []) fits.0 ∙ ap (λ (k : ℕ). laid p 0 (get_or s 0 0 ∷ k ∷ [])) (sym many) ∙ ap (laid p 0) (sym (flat_one pair_of (first_of w n s)));
      numbers =
          ap (λ (l : List ℕ). asns_after w l n d) (rest s 2) ∙ sym (asns_fit w (drop 2 s) n d (omega (arith, length-drop 2 s)) (omega (arith, fits.1, many)))
          ∙ ap (laid d 0) (sym (flat_one asns_of (first_of w n s)));
    }

-- ---- a part of a store

pub part_length : (d : List ℕ) (at : ℕ) → length (take (length d - at) (drop at d)) ≡ length d - at
part_length d at = ap length (rest d at) ∙ length-drop at d

-- ---- whole segments, a part of one and those that follow, of which the whole ones are put last

module _ (emit : Segment → List ℕ) (whole part more : List Segment) (d : List ℕ) (a : ℕ) (first : length (flat emit whole) ≡ a)
    (fits : length (flat emit ((whole ++ part) ++ more)) ≤ length d) where
  places : flat emit ((whole ++ part) ++ more) ≡ flat emit whole ++ (flat emit part ++ flat emit more)
  places = flat_join emit (whole ++ part) more ∙ ap (λ (l : List ℕ). l ++ flat emit more) (flat_join emit whole part) ∙ append_assoc (flat emit whole) (flat emit part) (flat emit more)

  all_fit : a + length (flat emit part) + length (flat emit more) ≤ length d
  all_fit =
      omega (arith, fits, first, ap length places, length-append (flat emit whole) (flat emit part ++ flat emit more), length-append (flat emit part) (flat emit more))

  pub part_fits : (a ≤ length d) × (length (flat emit part) ≤ length (take (length d - a) (drop a d)))
  part_fits = (omega (arith, all_fit), omega (arith, all_fit, part_length d a))

  module _ (b : ℕ) (second : a + length (flat emit part) ≡ b) (m : List ℕ) (put : m ≡ laid (take (length d - a) (drop a d)) 0 (flat emit part)) where
    abbrev with_part : List ℕ
    with_part = take a d ++ (m ++ drop (length d - a) (drop a d))

    part_put : with_part ≡ laid d a (flat emit part)
    part_put = ap (λ (l : List ℕ). take a d ++ (l ++ drop (length d - a) (drop a d))) put ∙ laid_part d a (flat emit part) (omega (arith, all_fit))

    part_long : length with_part ≡ length d
    part_long = ap length part_put ∙ length_laid d a (flat emit part) (omega (arith, all_fit))

    pub more_fits : (b ≤ length with_part) × (length (flat emit more) ≤ length (take (length with_part - b) (drop b with_part)))
    more_fits = (omega (arith, all_fit, second, part_long), omega (arith, all_fit, second, part_long, part_length with_part b))

    module _ (last : List ℕ) (put_more : last ≡ laid (take (length with_part - b) (drop b with_part)) 0 (flat emit more)) where
      abbrev with_more : List ℕ
      with_more = take b with_part ++ (last ++ drop (length with_part - b) (drop b with_part))

      more_put : with_more ≡ laid d a (flat emit part ++ flat emit more)
      more_put =
          ap (λ (l : List ℕ). take b with_part ++ (l ++ drop (length with_part - b) (drop b with_part))) put_more
          ∙ laid_part with_part b (flat emit more) (omega (arith, all_fit, second, part_long))
          ∙ ap (λ (l : List ℕ). laid l b (flat emit more)) part_put
          ∙ ap (λ (k : ℕ). laid (laid d a (flat emit part)) k (flat emit more)) (sym second)
          ∙ laid_laid d a (flat emit part) (flat emit more) all_fit

      pub whole_fits : length (flat emit whole) ≤ length with_more
      whole_fits = omega (arith, all_fit, first, ap length more_put, length_laid d a (flat emit part ++ flat emit more) (omega (arith, all_fit, length-append (flat emit part) (flat emit more))))

      pub all_put : (d' : List ℕ) → d' ≡ laid with_more 0 (flat emit whole) → d' ≡ laid d 0 (flat emit ((whole ++ part) ++ more))
      all_put d' e =
          let zero_a : a ≡ 0 + length (flat emit whole) = omega (arith, first) in
          e ∙ ap (λ (l : List ℕ). laid l 0 (flat emit whole)) (more_put ∙ ap (λ (k : ℕ). laid d k (flat emit part ++ flat emit more)) zero_a)
          ∙ laid_before d 0 (flat emit whole) (flat emit part ++ flat emit more) (omega (arith, all_fit, first, length-append (flat emit part) (flat emit more)))
          ∙ ap (laid d 0) (sym places)

-- ---- a path that is built: a front of AS_PATH, and what follows it

module _ {path : List ℕ} {lead : Leading} (front : Front path lead) (more : List Segment) {p n : List ℕ} (room : Room (front_of path lead ++ more) p n) where
  abbrev whole : List Segment
  whole = (old_path (take lead.end path)).rows

  abbrev part : List Segment
  part = split_at path lead.end lead.split

  abbrev pair : ℕ
  pair = 2 * lead.segments

  abbrev to : ℕ
  to = lead.numbers

  pairs_first : length (flat pair_of whole) ≡ pair
  pairs_first = pairs_length whole ∙ ap (λ (k : ℕ). 2 * k) front.segments

  pub part_room : (pair ≤ length p) × (to ≤ length n) × Room part (take (length p - pair) (drop pair p)) (take (length n - to) (drop to n))
  part_room =
      let a = part_fits pair_of whole part more p pair pairs_first room.pairs in
      let b = part_fits asns_of whole part more n to front.numbers room.numbers in
      (a.0, b.0, record { pairs = a.1; numbers = b.1 })

  module _ {count : ℕ} (is : count ≡ pick (leb 1 lead.split) 1 0) {p₁ n₁ : List ℕ} (put : Put part (take (length p - pair) (drop pair p)) (take (length n - to) (drop to n)) p₁ n₁) where
    abbrev split_p : List ℕ
    split_p = take pair p ++ (p₁ ++ drop (length p - pair) (drop pair p))

    abbrev split_n : List ℕ
    split_n = take to n ++ (n₁ ++ drop (length n - to) (drop to n))

    abbrev more_pair : ℕ
    more_pair = pair + 2 * count

    abbrev more_to : ℕ
    more_to = to + lead.split

    pairs_second : pair + length (flat pair_of part) ≡ more_pair
    pairs_second = omega (arith, pairs_length part, split_length path lead.end lead.split, is)

    numbers_second : to + length (flat asns_of part) ≡ more_to
    numbers_second = omega (arith, split_numbers path lead.end lead.split)

    pub more_room : (more_pair ≤ length split_p) × (more_to ≤ length split_n)
        × Room more (take (length split_p - more_pair) (drop more_pair split_p)) (take (length split_n - more_to) (drop more_to split_n))
    more_room =
        let a = more_fits pair_of whole part more p pair pairs_first room.pairs more_pair pairs_second p₁ put.pairs in
        let b = more_fits asns_of whole part more n to front.numbers room.numbers more_to numbers_second n₁ put.numbers in
        (a.0, b.0, record { pairs = a.1; numbers = b.1 })

    module _ {p₂ n₂ : List ℕ} (put_more : Put more (take (length split_p - more_pair) (drop more_pair split_p)) (take (length split_n - more_to) (drop more_to split_n)) p₂ n₂) where
      abbrev more_p : List ℕ
      more_p = take more_pair split_p ++ (p₂ ++ drop (length split_p - more_pair) (drop more_pair split_p))

      abbrev more_n : List ℕ
      more_n = take more_to split_n ++ (n₂ ++ drop (length split_n - more_to) (drop more_to split_n))

      pub whole_room : Room whole more_p more_n
      whole_room = record {
        pairs = whole_fits pair_of whole part more p pair pairs_first room.pairs more_pair pairs_second p₁ put.pairs p₂ put_more.pairs;
        numbers = whole_fits asns_of whole part more n to front.numbers room.numbers more_to numbers_second n₁ put.numbers n₂ put_more.numbers;
      }

      pub built_put : {p₃ n₃ : List ℕ} → Put whole more_p more_n p₃ n₃ → Put (front_of path lead ++ more) p n p₃ n₃
      built_put {p₃} {n₃} put_whole = record {
        pairs = all_put pair_of whole part more p pair pairs_first room.pairs more_pair pairs_second p₁ put.pairs p₂ put_more.pairs p₃ put_whole.pairs;
        numbers = all_put asns_of whole part more n to front.numbers room.numbers more_to numbers_second n₁ put.numbers n₂ put_more.numbers n₃ put_whole.numbers;
      }
