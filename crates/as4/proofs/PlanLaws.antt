-- Laws of the path that both values make: when AS_PATH stands alone, what else it is built of, and what is answered.
-- Assumes nothing.
use Prim.Native.Nat.{ℕ, ◌+◌, ◌-◌, ◌≤◌, ◌<◌}
use mathlib.Core.Path.{◌≡◌, refl, sym, ap, ap₂, subst, ◌∙◌}
use mathlib.Core.List.{List, [], ◌∷◌, ◌++◌}
use mathlib.Core.Bool.{Bool, true, false, ◌&&◌}
use mathlib.Core.Logic.{⊎_elim}
use native.Mathlib.Omega.{arith}
use borrow.Author.Tests.{le-leb, lt-leb, lt-ltb, ltb-true, ltb-false, eqb-true, eqb-false}
use lib.ListN.{length, length-append, take}
use lib.Dec.{leb, ltb, eqb}
use Rattle.std.specs.Prelude.{Result, Ok, Err}
use Rattle.std.proofs.lemmas.Bool.{or_cases, or_parts}
use Rattle.wire.specs.Choice.{pick}
use Rattle.wire.specs.Refusal.{list_limit}
use Rattle.wire.specs.Verdict.{Verdict, fine, unless, either}
use Rattle.wire.specs.declared.refusal.Refusal.{Refusal}
use Rattle.wire.specs.declared.refusal.Refusal.TheVariants.{TooLong}
use Rattle.wire.specs.Walk.{Reading, flat, tally}
use Rattle.wire.proofs.AnswerLaws.{either_none, either_fine, either_first, either_second}
use Rattle.wire.proofs.WalkLaws.{all_nil}
use Rattle.paths.specs.Segment.{Segment, known_type, segment_of, path_of, asns_of}
use Rattle.paths.specs.Promises.{counts, answer_of, count_answer}
use Rattle.paths.specs.declared.Path.{Path}
use Rattle.as4.specs.Standing.{sizes_fault, ignored}
use Rattle.as4.specs.Merge.{is_confed, route_len, route_len_of, kept, leading, joint, merged, Comes}
use Rattle.as4.specs.Promises.{old_path, new_path, fault_of, both_of, built_of}
use Rattle.as4.specs.Private.{weighed, split_at, front_of, Front, Leads, alone, Made, Planned}
use Rattle.as4.specs.declared.Weight.{Weight}
use Rattle.as4.specs.declared.Leading.{Leading}
use Rattle.as4.specs.declared.Plan.{Plan}
use Rattle.as4.proofs.SegmentLaws.{flat_join}
use Rattle.as4.proofs.MergeLaws.{confed_none}
use Rattle.as4.proofs.MergedLaws.{alone_comes, merged_comes}
use Rattle.as4.proofs.PromiseLaws.{no_fault, weight_says}
use Rattle.as4.proofs.WeighTurn.{kept_few}
use Rattle.as4.proofs.FrontLaws.{split_length, split_numbers}

-- ---- what a reading answers

module _ (r : Reading Segment) where
  pub answer_good : (size : Path) → r.verdict ≡ fine → counts r.rows ≡ size → Ok size ≡ answer_of r
  answer_good size v e = sym (ap (λ (x : Verdict). unless x (counts r.rows)) v ∙ ap Ok e)

  pub answer_bad : (n : Refusal) → r.verdict ≡ Err n → Err n ≡ answer_of r
  answer_bad n v = sym (ap (λ (x : Verdict). unless x (counts r.rows)) v)

  -- of AS_PATH alone, as it is counted
  pub answer_alone : (path : List ℕ) → r.rows ≡ (old_path path).rows → r.verdict ≡ fault_of path (old_path path) → count_answer path (old_path path) ≡ answer_of r
  unfolding count_answer fault_of
  answer_alone path rows v = by (leb (length path) list_limit) ∙ sym (ap₂ (λ (x : Verdict) (l : List Segment). unless x (counts l)) v rows)
    where
      by : (t : Bool) → pick t (answer_of (old_path path)) (Err TooLong) ≡ unless (pick t (old_path path).verdict (Err TooLong)) (counts (old_path path).rows)
      by true = refl
      by false = refl

-- ---- when AS_PATH stands alone

module _ {X : Type 0} (m old new : ℕ) (o b : X) where
  choose_alone : (t : Bool) → alone t m old new ≡ true → pick t o (pick (ltb 0 m && leb new old) b o) ≡ o
  choose_alone true e = refl
  choose_alone false e =
      ⊎_elim (λ (none : eqb m 0 ≡ true). rw (eqb-true m 0 none) refl) (λ (more : ltb old new ≡ true). rw (lt-leb new old (ltb-true old new more)) (none_of (ltb 0 m))) (or_cases _ _ e)
    where
      none_of : (t : Bool) → pick (t && false) b o ≡ o
      none_of true = refl
      none_of false = refl

  choose_built : (t : Bool) → alone t m old new ≡ false → (pick t o (pick (ltb 0 m && leb new old) b o) ≡ b) × (new ≤ old)
  choose_built true e = let z : ◌≡◌ {A = ℕ} 0 1 = cc in absurd (omega (arith, z))
  choose_built false e =
      let n : (eqb m 0 ≡ false) × (ltb old new ≡ false) = or_parts _ _ e in
      let le : new ≤ old = ltb-false old new n.1 in
      let some : (m ≡ 0 → ⊥) = eqb-false m 0 n.0 in
      (rw (lt-ltb 0 m (omega (arith, some)), le-leb new old le), le)

-- what is dropped of AS4_PATH counts nothing
pub kept_counts : (rows : List Segment) → route_len_of (kept rows) ≡ route_len_of rows
unfolding tally kept
kept_counts [] = refl
kept_counts (g ∷ rows) = by (is_confed g) refl (kept_counts rows)
  where
    by : (t : Bool) → is_confed g ≡ t → route_len_of (kept rows) ≡ route_len_of rows → route_len_of (pick t (kept rows) (g ∷ kept rows)) ≡ route_len g + route_len_of rows
    by true e f = omega (arith, f, confed_none g e)
    by false e f = ap (λ (k : ℕ). route_len g + k) f

module _ (ignores : Bool) (path four : List ℕ) where
  pub both_verdict : fault_of path (old_path path) ≡ fine → (both_of ignores path four).verdict ≡ fault_of four (new_path four)
  unfolding both_of
  both_verdict e = either_second _ _ e

  -- where the first is refused, so is the path
  pub both_first : (n : Refusal) → fault_of path (old_path path) ≡ Err n → (both_of ignores path four).verdict ≡ Err n
  unfolding both_of
  both_first n e = either_first _ _ n e

  module _ (m old new : ℕ) (em : length (kept (new_path four).rows) ≡ m) (eo : route_len_of (old_path path).rows ≡ old) (en : route_len_of (new_path four).rows ≡ new) where
    rows_are : (both_of ignores path four).rows
        ≡ pick ignores (old_path path).rows (pick (ltb 0 m && leb new old) (leading (old - new) (old_path path).rows ++ kept (new_path four).rows) (old_path path).rows)
    unfolding both_of joint
    rows_are = rw (em, kept_counts (new_path four).rows, eo, en)

    pub both_alone : alone ignores m old new ≡ true → (both_of ignores path four).rows ≡ (old_path path).rows
    both_alone e = rows_are ∙ choose_alone m old new (old_path path).rows _ ignores e

    pub both_built : alone ignores m old new ≡ false → ((both_of ignores path four).rows ≡ leading (old - new) (old_path path).rows ++ kept (new_path four).rows) × (new ≤ old)
    both_built e = let c = choose_built m old new (old_path path).rows _ ignores e in (rows_are ∙ c.0, c.1)

-- ---- with the AGGREGATORs

module _ (path four first second : List ℕ) where
  pub built_sizes : (n : Refusal) → Err n ≡ sizes_fault first second → (built_of path four first second).verdict ≡ Err n
  unfolding built_of
  built_sizes n e = either_first _ _ n (sym e)

  pub built_both : fine ≡ sizes_fault first second → built_of path four first second ≡ both_of (ignored first second) path four
  unfolding built_of
  built_both e = rw (← e)

-- an absent AS4_PATH
pub both_absent : (ignores : Bool) (path four : List ℕ) → length four ≡ 0
    → ((both_of ignores path four).rows ≡ (old_path path).rows) × ((both_of ignores path four).verdict ≡ fault_of path (old_path path))
unfolding both_of joint kept path_of fault_of
both_absent ignores path [] e =
    let none : new_path [] ≡ record { rows = []; verdict = fine } = all_nil (segment_of known_type 4) tt in (
      ap (λ (r : Reading Segment). pick ignores (old_path path).rows (merged (old_path path).rows r.rows)) none ∙ same ignores,
      ap (λ (r : Reading Segment). either (fault_of path (old_path path)) r.verdict) none ∙ either_fine (fault_of path (old_path path)),
    )
  where
    same : (t : Bool) → pick t (old_path path).rows (old_path path).rows ≡ (old_path path).rows
    same true = refl
    same false = refl
both_absent ignores path (b ∷ four) e = absurd (omega (arith, e))

pub built_absent : (path four first second : List ℕ) → fine ≡ sizes_fault first second → length four ≡ 0
    → ((built_of path four first second).rows ≡ (old_path path).rows) × ((built_of path four first second).verdict ≡ fault_of path (old_path path))
built_absent path four first second good none =
    let b = built_both path four first second good in
    let a = both_absent (ignored first second) path four none in
    (ap (λ (r : Reading Segment). r.rows) b ∙ a.0, ap (λ (r : Reading Segment). r.verdict) b ∙ a.1)

-- a path that is not refused: neither value is, and its segments come from both
pub built_good : (path four first second : List ℕ) → (built_of path four first second).verdict ≡ fine
    → ((old_path path).verdict ≡ fine) × ((new_path four).verdict ≡ fine) × Comes (old_path path).rows (new_path four).rows (built_of path four first second).rows
unfolding built_of both_of
built_good path four first second good =
    let b = (either_none (sizes_fault first second) _ good).1 in
    let e = either_none (fault_of path (old_path path)) _ b in
    ((no_fault path (old_path path) e.0).1, (no_fault four (new_path four) e.1).1, from (ignored first second))
  where
    from : (t : Bool) → Comes (old_path path).rows (new_path four).rows (pick t (old_path path).rows (merged (old_path path).rows (new_path four).rows))
    from true = alone_comes (old_path path).rows (new_path four).rows
    from false = merged_comes (old_path path).rows (new_path four).rows

-- what is planned of both, by a test of the AGGREGATORs
pub built_planned : (path four first second : List ℕ) {ignores : Bool} (r : Result Plan Refusal) → fine ≡ sizes_fault first second → ignores ≡ ignored first second
    → Planned (both_of ignores path four) path four r → Planned (built_of path four first second) path four r
built_planned path four first second r good e =
    subst (λ (x : Reading Segment). Planned x path four r) (ap (λ (t : Bool). both_of t path four) e ∙ sym (built_both path four first second good))

-- ---- how many segments and numbers a front and what follows it have

module _ (path : List ℕ) (lead : Leading) (f : Front path lead) (more : List Segment) where
  pub front_segments : (m : ℕ) → length more ≡ m → length (front_of path lead ++ more) ≡ lead.segments + pick (leb 1 lead.split) 1 0 + m
  front_segments m e =
      let whole : List Segment = (old_path (take lead.end path)).rows in
      let part : List Segment = split_at path lead.end lead.split in
      length-append (whole ++ part) more ∙ ap₂ ◌+◌ (length-append whole part ∙ ap₂ ◌+◌ f.segments (split_length path lead.end lead.split)) e

  pub front_numbers : (n : ℕ) → length (flat asns_of more) ≡ n → length (flat asns_of (front_of path lead ++ more)) ≡ lead.numbers + lead.split + n
  front_numbers n e =
      let whole : List Segment = (old_path (take lead.end path)).rows in
      let part : List Segment = split_at path lead.end lead.split in
      ap length (flat_join asns_of (whole ++ part) more) ∙ length-append (flat asns_of (whole ++ part)) (flat asns_of more)
      ∙ ap₂ ◌+◌ (ap length (flat_join asns_of whole part) ∙ length-append (flat asns_of whole) (flat asns_of part) ∙ ap₂ ◌+◌ f.numbers (split_numbers path lead.end lead.split)) e

-- ---- a path that is built, by what AS4_PATH weighs

-- what a weight says of a value
pub record Weighs (s : List ℕ) (r : Reading Segment) (weight : Weight) : Type 0 where
  pub good : fault_of s r ≡ fine
  pub counted : route_len_of r.rows ≡ weight.route_len
  pub segments : length (kept r.rows) ≡ weight.segments
  pub numbers : length (flat asns_of (kept r.rows)) ≡ weight.numbers

pub weighs : (s : List ℕ) (r : Reading Segment) (weight : Weight) → Ok weight ≡ weighed s r → Weighs s r weight
weighs s r weight e =
    let told = weight_says s r weight (sym e) in
    record {
      good = told.0;
      counted = ap (λ (w : Weight). w.route_len) told.1;
      segments = ap (λ (w : Weight). w.segments) told.1;
      numbers = ap (λ (w : Weight). w.numbers) told.1;
    }

module _ (ignores : Bool) {path four : List ℕ} {old new : Weight} (p : Weighs path (old_path path) old) (q : Weighs four (new_path four) new) where
  -- AS_PATH alone
  pub weighs_alone : alone ignores new.segments old.route_len new.route_len ≡ true → ((both_of ignores path four).rows ≡ (old_path path).rows) × ((both_of ignores path four).verdict ≡ fault_of path (old_path path))
  weighs_alone e = (both_alone ignores path four new.segments old.route_len new.route_len q.segments p.counted q.counted e, both_verdict ignores path four p.good ∙ q.good ∙ sym p.good)

  module _ (e : alone ignores new.segments old.route_len new.route_len ≡ false) where
    pub weighs_less : new.route_len ≤ old.route_len
    weighs_less = (both_built ignores path four new.segments old.route_len new.route_len q.segments p.counted q.counted e).1

    module _ {lead : Leading} (leads : Leads path (old.route_len - new.route_len) lead) where
      -- no sum is over 131,325
      pub weighs_few : (lead.segments ≤ list_limit) × (lead.numbers ≤ list_limit) × (lead.split < 256) × (new.segments ≤ list_limit) × (new.numbers ≤ list_limit)
      weighs_few =
          let f = leads.front in
          let short = (no_fault path (old_path path) p.good).0 in
          let short_four = (no_fault four (new_path four) q.good).0 in
          let few = kept_few 4 (omega arith) four in
          (omega (arith, f.small.0, f.within, short), omega (arith, f.small.1, f.within, short), f.few, omega (arith, few.0, q.segments, short_four), omega (arith, few.1, q.numbers, short_four))

      -- its leading part, and what is left of AS4_PATH
      pub weighs_made : (one : ℕ) → one ≡ pick (leb 1 lead.split) 1 0
          → Made (both_of ignores path four) path four lead (record { segments = lead.segments + one + new.segments; numbers = lead.numbers + lead.split + new.numbers })
      weighs_made one is =
          let more : List Segment = kept (new_path four).rows in
          let rows : (both_of ignores path four).rows ≡ front_of path lead ++ more =
          (both_built ignores path four new.segments old.route_len new.route_len q.segments p.counted q.counted e).0 ∙ ap (λ (l : List Segment). l ++ more) leads.rows in
          let sound = no_fault four (new_path four) q.good in
          record {
            good = both_verdict ignores path four p.good ∙ q.good;
            front = leads.front;
            sound = sound.1;
            short = ((no_fault path (old_path path) p.good).0, sound.0);
            rows = rows;
            size = ap counts rows
                ∙ ap₂ (λ (m n : ℕ). record { segments = m; numbers = n })
                (front_segments path lead leads.front more new.segments q.segments ∙ ap (λ (k : ℕ). lead.segments + k + new.segments) (sym is))
                (front_numbers path lead leads.front more new.numbers q.numbers);
          }
