-- The loops over lent pairs: what holds at the head of the one that judges and of the one that writes, and what a turn makes of it.
-- Assumes nothing.
use Prim.Native.Nat.{ℕ, ◌+◌, ◌≤◌, ◌<◌}
use mathlib.Core.Path.{◌≡◌, sym, ap, ap₂, subst, ◌∙◌}
use mathlib.Core.List.{List, [], ◌∷◌, ◌++◌}
use mathlib.Core.Bool.{true}
use native.Mathlib.Nat.{add-zero}
use native.Mathlib.Omega.{arith}
use lib.ListN.{length, take, drop, get_or, length-drop}
use lib.Seq.{get_or-drop, drop-drop, length-take-le}
use Rattle.std.specs.Prelude.{Err}
use Rattle.wire.specs.Number.{to_be}
use Rattle.wire.specs.Verdict.{Verdict, fine}
use Rattle.wire.specs.declared.refusal.Refusal.{Refusal}
use Rattle.wire.specs.Store.{laid, PutAhead}
use Rattle.wire.proofs.StoreLaws.{laid_laid, length_laid, Like, like_same, like_put, like_done}
use Rattle.wire.specs.Walk.{took, stop, flat}
use Rattle.wire.proofs.Turn.{Light, Counted, count_start, count_step, count_stop, count_done, Filled, fill_start, fill_fits, fill_step, fill_takes, fill_sum, fill_end, fill_done}
use Rattle.asns.specs.Asn.{span}
use Rattle.paths.specs.Segment.{Segment, Rule}
use Rattle.path_writer.specs.Write.{segment_bytes, adds_up, all_fit, most_numbers, write_fault, lent_segment, lent_of, lent_path, path_bytes}
use Rattle.path_writer.proofs.WriteLaws.{Lending, lending_start, lending_there, lending_next, fault_none, segment_length, bytes_length, lent_sound, lent_took, took_lent, stop_lent}

module _ (rule : Rule) (w : ℕ) (pairs numbers : List ℕ) where
  -- ---- the pair at a place

  -- the segment of the pair at a place and of the numbers from a place on
  abbrev pub segment_from : ℕ → ℕ → Segment
  segment_from at from = record { kind = get_or pairs at 0; asns = take (get_or pairs (at + 1) 0) (drop from numbers) }

  abbrev pub fault_from : ℕ → ℕ → Verdict
  fault_from at from = write_fault rule w (get_or pairs at 0) (get_or pairs (at + 1) 0) (take (get_or pairs (at + 1) 0) (drop from numbers))

  module _ (at from : ℕ) where
    kind_is : get_or (drop at pairs) 0 0 ≡ get_or pairs at 0
    kind_is = get_or-drop at pairs 0 0 ∙ ap (λ (j : ℕ). get_or pairs j 0) (add-zero at)

    count_is : get_or (drop at pairs) 1 0 ≡ get_or pairs (at + 1) 0
    count_is = get_or-drop at pairs 1 0

    fault_is : write_fault rule w (get_or (drop at pairs) 0 0) (get_or (drop at pairs) 1 0) (take (get_or (drop at pairs) 1 0) (drop from numbers)) ≡ fault_from at from
    fault_is = ap₂ (λ (k c : ℕ). write_fault rule w k c (take c (drop from numbers))) kind_is count_is

    taken_is : took 2 (lent_segment (drop from numbers) (drop at pairs)) (drop (get_or (drop at pairs) 1 0) (drop from numbers))
        ≡ took 2 (segment_from at from) (drop (from + get_or pairs (at + 1) 0) numbers)
    taken_is =
        ap₂ (λ (k c : ℕ). took 2 (record { kind = k; asns = take c (drop from numbers) }) (drop c (drop from numbers))) kind_is count_is
        ∙ ap (λ (l : List ℕ). took 2 (segment_from at from) l) (drop-drop (get_or pairs (at + 1) 0) from numbers)

    module _ (there : at + 2 ≤ length pairs) where
      two : 2 ≤ length (drop at pairs)
      two = omega (arith, length-drop at pairs)

      step_takes : fault_from at from ≡ fine → lent_of rule w (drop from numbers) (drop at pairs) ≡ took 2 (segment_from at from) (drop (from + get_or pairs (at + 1) 0) numbers)
      step_takes e = took_lent rule w (drop from numbers) (drop at pairs) two (fault_is ∙ e) ∙ taken_is

      step_stops : (r : Refusal) → fault_from at from ≡ Err r → lent_of rule w (drop from numbers) (drop at pairs) ≡ stop r
      step_stops r e = stop_lent rule w (drop from numbers) (drop at pairs) r two (fault_is ∙ e)
      -- ---- judging

no_weight : (rule : Rule) (w : ℕ) → Light (lent_of rule w) (λ _. 0) 0
no_weight rule w st st' s used g e = omega arith

-- at the head: nothing stands against what stands before `at`
pub record Judged (rule : Rule) (w : ℕ) (pairs numbers : List ℕ) (at from : ℕ) : Type 0 where
  pub lending : Lending pairs numbers at from
  pub counted : Counted (lent_of rule w) (λ _. 0) 0 numbers pairs (drop from numbers) at 0

pub judged_start : (rule : Rule) (w : ℕ) (pairs numbers : List ℕ) → adds_up pairs (length numbers) ≡ true → Judged rule w pairs numbers 0 0
judged_start rule w pairs numbers e = record {
  lending = lending_start pairs numbers e;
  counted = count_start (lent_of rule w) (lent_sound rule w) (λ _. 0) 0 (no_weight rule w) numbers pairs;
}

module _ {rule : Rule} {w : ℕ} {pairs numbers : List ℕ} {at from : ℕ} (h : Judged rule w pairs numbers at from) where
  pub judged_done : length pairs ≤ at → fine ≡ (lent_path rule w pairs numbers).verdict
  unfolding lent_path
  judged_done le = sym (count_done (lent_of rule w) (lent_sound rule w) (λ _. 0) 0 (no_weight rule w) numbers pairs (drop from numbers) at 0 h.counted le).0

  module _ (lt : at < length pairs) where
    pub judged_fits : (at + 2 ≤ length pairs) × (from + get_or pairs (at + 1) 0 ≤ length numbers)
    judged_fits = (lending_there pairs numbers at from h.lending lt, (lending_next pairs numbers at from h.lending lt).0)

    pub judged_next : fine ≡ fault_from rule w pairs numbers at from → Judged rule w pairs numbers (at + 2) (from + get_or pairs (at + 1) 0)
    judged_next e = record {
      lending = (lending_next pairs numbers at from h.lending lt).1;
      counted =
          count_step (lent_of rule w) (lent_sound rule w) (λ _. 0) 0 (no_weight rule w) numbers pairs (drop from numbers) at 0 h.counted _ 2 _
          (step_takes rule w pairs numbers at from judged_fits.0 (sym e));
    }

    pub judged_stop : (r : Refusal) → Err r ≡ fault_from rule w pairs numbers at from → Err r ≡ (lent_path rule w pairs numbers).verdict
    unfolding lent_path
    judged_stop r e =
        sym (count_stop (lent_of rule w) (lent_sound rule w) (λ _. 0) 0 (no_weight rule w) numbers pairs (drop from numbers) at 0 h.counted r lt
        (step_stops rule w pairs numbers at from judged_fits.0 r (sym e)))

-- ---- writing

module _ (rule : Rule) (w : ℕ) (pairs numbers : List ℕ) where
  module _ (d₀ : List ℕ) where
    -- at the head: the output has the bytes of what stands before `at`
    abbrev Writing : ℕ → ℕ → ℕ → List ℕ → Type 0
    Writing at from to d = Lending pairs numbers at from × Filled (lent_of rule w) (segment_bytes w) numbers pairs d₀ (drop from numbers) at to d

    writing_start : adds_up pairs (length numbers) ≡ true → (lent_path rule w pairs numbers).verdict ≡ fine
        → length (path_bytes w (lent_path rule w pairs numbers).rows) ≤ length d₀ → Writing 0 0 0 d₀
    unfolding lent_path path_bytes
    writing_start e v r = (lending_start pairs numbers e, fill_start (lent_of rule w) (lent_sound rule w) (segment_bytes w) numbers pairs d₀ v r)

    module _ (at from to : ℕ) (d : List ℕ) (h : Writing at from to d) where
      writing_done : length pairs ≤ at → d ≡ laid d₀ 0 (path_bytes w (lent_path rule w pairs numbers).rows)
      unfolding lent_path path_bytes
      writing_done le = fill_done (lent_of rule w) (lent_sound rule w) (segment_bytes w) numbers pairs d₀ (drop from numbers) at to d h.1 le

      module _ (lt : at < length pairs) where
        there : at + 2 ≤ length pairs
        there = lending_there pairs numbers at from h.0 lt

        writing_inside : from + get_or pairs (at + 1) 0 ≤ length numbers
        writing_inside = (lending_next pairs numbers at from h.0 lt).0

        no_fault : fault_from rule w pairs numbers at from ≡ fine
        no_fault =
            let f = fill_takes (lent_of rule w) (lent_sound rule w) (segment_bytes w) numbers pairs d₀ (drop from numbers) at to d h.1 lt in
            sym (fault_is rule w pairs numbers at from) ∙ (lent_took rule w (drop from numbers) (drop at pairs) f.2 f.0 f.1 f.3).good

        writing_fine : (rule (get_or pairs at 0) (get_or pairs (at + 1) 0) ≡ fine) × (get_or pairs (at + 1) 0 ≤ most_numbers)
            × (all_fit w (take (get_or pairs (at + 1) 0) (drop from numbers)) ≡ true)
        writing_fine = fault_none rule w (get_or pairs at 0) (get_or pairs (at + 1) 0) _ no_fault

        asns_length : length (take (get_or pairs (at + 1) 0) (drop from numbers)) ≡ get_or pairs (at + 1) 0
        asns_length = length-take-le (get_or pairs (at + 1) 0) (drop from numbers) (omega (arith, length-drop from numbers, writing_inside))

        taken : lent_of rule w (drop from numbers) (drop at pairs) ≡ took 2 (segment_from rule w pairs numbers at from) (drop (from + get_or pairs (at + 1) 0) numbers)
        taken = step_takes rule w pairs numbers at from there no_fault

        size_is : length (segment_bytes w (segment_from rule w pairs numbers at from)) ≡ 2 + span w (get_or pairs (at + 1) 0)
        size_is = segment_length w (segment_from rule w pairs numbers at from) ∙ ap (λ (k : ℕ). 2 + span w k) asns_length

        writing_fits : (at + 2 ≤ length pairs) × (to + (2 + span w (get_or pairs (at + 1) 0)) ≤ length d)
        writing_fits =
            let f = fill_fits (lent_of rule w) (lent_sound rule w) (segment_bytes w) numbers pairs d₀ (drop from numbers) at to d h.1 _ 2 _ taken in
            (there, omega (arith, f.2, size_is))

        -- the numbers' bytes, after the two of the head
        body_length : length (flat (to_be w) (take (get_or pairs (at + 1) 0) (drop from numbers))) ≡ span w (get_or pairs (at + 1) 0)
        body_length = bytes_length w (take (get_or pairs (at + 1) 0) (drop from numbers)) ∙ ap (span w) asns_length

        bytes_is : get_or pairs at 0 ∷ get_or pairs (at + 1) 0 ∷ flat (to_be w) (take (get_or pairs (at + 1) 0) (drop from numbers)) ≡ segment_bytes w (segment_from rule w pairs numbers at from)
        unfolding segment_bytes
        bytes_is = ap (λ (c : ℕ). get_or pairs at 0 ∷ c ∷ flat (to_be w) (take (get_or pairs (at + 1) 0) (drop from numbers))) (sym asns_length)

        writing_next : Writing (at + 2) (from + get_or pairs (at + 1) 0) (to + (2 + span w (get_or pairs (at + 1) 0)))
            (laid (laid d to (get_or pairs at 0 ∷ get_or pairs (at + 1) 0 ∷ [])) (to + 2) (flat (to_be w) (take (get_or pairs (at + 1) 0) (drop from numbers))))
        writing_next =
            let head : List ℕ = get_or pairs at 0 ∷ get_or pairs (at + 1) 0 ∷ [] in
            let body : List ℕ = flat (to_be w) (take (get_or pairs (at + 1) 0) (drop from numbers)) in
            let next = fill_step (lent_of rule w) (lent_sound rule w) (segment_bytes w) numbers pairs d₀ (drop from numbers) at to d h.1 _ 2 _ taken in
            let same : laid d to (segment_bytes w (segment_from rule w pairs numbers at from)) ≡ laid (laid d to head) (to + 2) body =
            ap (laid d to) (sym bytes_is) ∙ sym (laid_laid d to head body (omega (arith, writing_fits, body_length))) in
            let place : to + length (segment_bytes w (segment_from rule w pairs numbers at from)) ≡ to + (2 + span w (get_or pairs (at + 1) 0)) = ap (λ (k : ℕ). to + k) size_is in (
              (lending_next pairs numbers at from h.0 lt).1,
              subst (λ (l : List ℕ). Filled (lent_of rule w) (segment_bytes w) numbers pairs d₀ (drop (from + get_or pairs (at + 1) 0) numbers) (at + 2) (to + (2 + span w (get_or pairs (at + 1) 0))) l) same
                  (subst (λ (k : ℕ). Filled (lent_of rule w) (segment_bytes w) numbers pairs d₀ (drop (from + get_or pairs (at + 1) 0) numbers) (at + 2) k (laid d to (segment_bytes w (segment_from rule w pairs numbers at from)))) place next),
            )

-- ---- writing with more numbers than a segment's own, which the segments that follow overwrite

-- at the head: the output is like one that has the bytes of what stands before `at`; all segments have `total`
pub record WritingAhead (rule : Rule) (w : ℕ) (pairs numbers d₀ : List ℕ) (total at from to : ℕ) (d : List ℕ) : Type 0 where
  pub clean : List ℕ
  pub writing : Writing rule w pairs numbers d₀ at from to clean
  pub like : Like total to d clean
  pub all : total ≡ length (path_bytes w (lent_path rule w pairs numbers).rows)
  pub room : total ≤ length d₀

-- what a turn finds: the pair and its numbers, which are bytes and have room
pub record AheadFits (pairs numbers d : List ℕ) (w total at from to : ℕ) : Type 0 where
  pub pair : at + 2 ≤ length pairs
  pub asns : from + get_or pairs (at + 1) 0 ≤ length numbers
  pub bytes : to + (2 + span w (get_or pairs (at + 1) 0)) ≤ total
  pub long : total ≤ length d
  pub count : get_or pairs (at + 1) 0 < 256
  pub body : length (flat (to_be w) (take (get_or pairs (at + 1) 0) (drop from numbers))) ≡ span w (get_or pairs (at + 1) 0)

module _ {rule : Rule} {w : ℕ} {pairs numbers d₀ : List ℕ} {total : ℕ} where
  pub ahead_start : adds_up pairs (length numbers) ≡ true → (lent_path rule w pairs numbers).verdict ≡ fine
      → total ≡ length (path_bytes w (lent_path rule w pairs numbers).rows) → total ≤ length d₀ → WritingAhead rule w pairs numbers d₀ total 0 0 0 d₀
  ahead_start e v a r = record { clean = d₀; writing = writing_start rule w pairs numbers d₀ e v (omega arith); like = like_same total 0 d₀; all = a; room = r }

  module _ {at from to : ℕ} {d : List ℕ} (h : WritingAhead rule w pairs numbers d₀ total at from to d) where
    pub ahead_long : length d ≡ length d₀
    ahead_long = h.like.long ∙ h.writing.1.long

    pub ahead_done : length pairs ≤ at → d ≡ laid d₀ 0 (path_bytes w (lent_path rule w pairs numbers).rows)
    unfolding lent_path path_bytes
    ahead_done le =
        let end : to ≡ total = fill_end (lent_of rule w) (lent_sound rule w) (segment_bytes w) numbers pairs d₀ (drop from numbers) at to h.clean h.writing.1 le ∙ sym h.all in
        like_done total d h.clean (subst (λ (k : ℕ). Like total k d h.clean) end h.like) ∙ writing_done rule w pairs numbers d₀ at from to h.clean h.writing le

    module _ (lt : at < length pairs) where
      pub ahead_fits : AheadFits pairs numbers d w total at from to
      unfolding lent_path path_bytes
      ahead_fits =
          let next = writing_next rule w pairs numbers d₀ at from to h.clean h.writing lt in
          let sum = fill_sum (lent_of rule w) (lent_sound rule w) (segment_bytes w) numbers pairs d₀ (drop (from + get_or pairs (at + 1) 0) numbers) (at + 2) _ _ next.1 in
          record {
            pair = (writing_fits rule w pairs numbers d₀ at from to h.clean h.writing lt).0;
            asns = writing_inside rule w pairs numbers d₀ at from to h.clean h.writing lt;
            bytes = omega (arith, sum, h.all);
            long = omega (arith, h.room, ahead_long);
            count = omega (arith, (writing_fine rule w pairs numbers d₀ at from to h.clean h.writing lt).1);
            body = body_length rule w pairs numbers d₀ at from to h.clean h.writing lt;
          }

      pub ahead_rule : rule (get_or pairs at 0) (get_or pairs (at + 1) 0) ≡ fine
      ahead_rule = (writing_fine rule w pairs numbers d₀ at from to h.clean h.writing lt).0

      pub ahead_next : (d₁ d₂ : List ℕ) → d₁ ≡ laid d to (get_or pairs at 0 ∷ get_or pairs (at + 1) 0 ∷ [])
          → PutAhead total d₁ (to + 2) (flat (to_be w) (take (get_or pairs (at + 1) 0) (drop from numbers))) d₂
          → WritingAhead rule w pairs numbers d₀ total (at + 2) (from + get_or pairs (at + 1) 0) (to + (2 + span w (get_or pairs (at + 1) 0))) d₂
      ahead_next d₁ d₂ e p =
          let f = ahead_fits in
          let head : List ℕ = get_or pairs at 0 ∷ get_or pairs (at + 1) 0 ∷ [] in
          let body : List ℕ = flat (to_be w) (take (get_or pairs (at + 1) 0) (drop from numbers)) in
          let one : Like total (to + 2) d₁ (laid h.clean to head) = rw e (like_put total to d h.clean head [] h.like (omega (arith, f.bytes)) f.long) in
          let long : total ≤ length d₁ = omega (arith, f.bytes, f.long, ap length e, length_laid d to head (omega (arith, f.bytes, f.long))) in
          let both = like_put total (to + 2) d₁ (laid h.clean to head) body p.more one p.fits long in
          let place : to + 2 + length body ≡ to + (2 + span w (get_or pairs (at + 1) 0)) = omega (arith, f.body) in
          record {
            clean = laid (laid h.clean to head) (to + 2) body;
            writing = writing_next rule w pairs numbers d₀ at from to h.clean h.writing lt;
            like = rw p.is (subst (λ (k : ℕ). Like total k (laid d₁ (to + 2) (body ++ p.more)) (laid (laid h.clean to head) (to + 2) body)) place both);
            all = h.all;
            room = h.room;
          }
