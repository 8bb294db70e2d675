-- Segments that can be written, and what is lent as pairs and numbers: one gives the other.
-- Assumes nothing.
use Prim.Native.Nat.{ℕ, ◌+◌, ◌-◌, ◌≤◌}
use mathlib.Core.Path.{◌≡◌, refl, sym, ap, ap₂, ◌∙◌}
use mathlib.Core.List.{List, [], ◌∷◌, ◌++◌}
use mathlib.Core.Bool.{true}
use native.Mathlib.Omega.{arith}
use borrow.Author.Tests.{leb-true, le-leb, eqb-true}
use lib.ListN.{length, get_or, take, drop, length-append, length-drop, take-append-drop}
use lib.Seq.{length-take-le, take_at, drop_at}
use lib.Dec.{leb}
use Rattle.wire.specs.Verdict.{Verdict, fine}
use Rattle.wire.specs.Walk.{took, Reading, more, read_all, flat}
use Rattle.wire.proofs.WalkLaws.{all_nil, all_took, all_ind}
use Rattle.wire.specs.Cutting.{Each, none, one}
use Rattle.wire.proofs.Parts.{two_more}
use Rattle.wire.proofs.AnswerLaws.{refused_not_fine}
use Rattle.wire.proofs.CuttingLaws.{each_map}
use Rattle.paths.specs.Segment.{Segment, Rule, known_type, rule_of, pair_of, asns_of}
use Rattle.paths.specs.declared.PathRule.{PathRule}
use Rattle.paths.proofs.FormedLaws.{rule_known}
use Rattle.path_writer.specs.Write.{adds_up, all_fit, most_numbers, lent_of, lent_path}
use Rattle.path_writer.proofs.WriteLaws.{fit_append, holds, adds_pair, fault_none, none_fault, lent_took, took_lent, lent_sound}

-- ---- segments that can be written

pub record WritableSegment (rule : Rule) (w : ℕ) (g : Segment) : Type 0 where
  pub fine : rule g.kind (length g.asns) ≡ fine
  pub short : length g.asns ≤ most_numbers
  pub fit : all_fit w g.asns ≡ true

-- ---- what is lent, where it adds up and nothing stands against it, is what its segments are lent as

empty : (l : List ℕ) → length l ≡ 0 → [] ≡ l
empty [] e = refl
empty (x ∷ l) e = absurd (omega (arith, e))

module _ (rule : Rule) (w : ℕ) where
  -- what a good reading of pairs and numbers says
  abbrev Back : List ℕ → List ℕ → Reading Segment → Type 0
  Back numbers pairs r =
      adds_up pairs (length numbers) ≡ true → r.verdict ≡ fine → Each (WritableSegment rule w) r.rows × (flat pair_of r.rows ≡ pairs) × (flat asns_of r.rows ≡ numbers)

  back_took : (st st' s : List ℕ) (used : ℕ) (g : Segment) → lent_of rule w st s ≡ took used g st'
      → Back st' (drop used s) (read_all (lent_of rule w) st' (drop used s)) → Back st s (more g (read_all (lent_of rule w) st' (drop used s)))
  unfolding flat
  back_took st st' s used g e ih adds v =
      let t = lent_took rule w st s st' used g e in
      let c : ℕ = get_or s 1 0 in
      let sums = holds (leb c (length st)) (adds_up (drop 2 s) (length st - c)) (sym (adds_pair s (length st) t.there) ∙ adds) in
      let le : c ≤ length st = leb-true c (length st) sums.0 in
      let n : length (take c st) ≡ c = length-take-le c st le in
      let asns_is : asns_of g ≡ take c st = ap asns_of t.is in
      let len : length (asns_of g) ≡ c = ap length asns_is ∙ n in
      let left : length st' ≡ length st - c = ap length t.after ∙ length-drop c st in
      let rest = ih (ap₂ (λ (u k : ℕ). adds_up (drop u s) k) t.size left ∙ sums.1) v in
      let f = fault_none rule w (get_or s 0 0) c (take c st) t.good in
      let kind_is : g.kind ≡ get_or s 0 0 = ap (λ (h : Segment). h.kind) t.is in
      let good : WritableSegment rule w g = record {
        fine = ap₂ rule kind_is len ∙ f.0;
        short = omega (arith, len, f.1);
        fit = ap (all_fit w) asns_is ∙ f.2;
      } in (
        one good rest.0,
        ap₂ (λ (k n : ℕ). k ∷ n ∷ flat pair_of (read_all (lent_of rule w) st' (drop used s)).rows) kind_is len
            ∙ ap (λ (l : List ℕ). get_or s 0 0 ∷ c ∷ l) (rest.1 ∙ ap (λ (u : ℕ). drop u s) t.size) ∙ two_more s t.there,
        ap₂ ◌++◌ asns_is (rest.2 ∙ t.after) ∙ take-append-drop c st,
      )

  pub lent_back : (pairs numbers : List ℕ) → adds_up pairs (length numbers) ≡ true → (lent_path rule w pairs numbers).verdict ≡ fine
      → Each (WritableSegment rule w) (lent_path rule w pairs numbers).rows
      × (flat pair_of (lent_path rule w pairs numbers).rows ≡ pairs)
      × (flat asns_of (lent_path rule w pairs numbers).rows ≡ numbers)
  unfolding lent_path flat adds_up
  lent_back pairs numbers =
      all_ind (lent_of rule w) (lent_sound rule w) Back
      (λ st adds _. (none, refl, empty st (eqb-true (length st) 0 adds)))
      (λ st s r pos e _ v. absurd (refused_not_fine r v))
      (λ st st' s used g pos e ih. back_took st st' s used g e ih)
      numbers pairs

  -- so each number fits
  rows_fit : (rows : List Segment) → Each (WritableSegment rule w) rows → all_fit w (flat asns_of rows) ≡ true
  unfolding flat all_fit
  rows_fit [] none = refl
  rows_fit (g ∷ rows) (one r rs) = fit_append w g.asns (flat asns_of rows) r.fit (rows_fit rows rs)

  pub lent_fit : (pairs numbers : List ℕ) → adds_up pairs (length numbers) ≡ true → (lent_path rule w pairs numbers).verdict ≡ fine → all_fit w numbers ≡ true
  lent_fit pairs numbers adds good =
      let b = lent_back pairs numbers adds good in
      sym (ap (all_fit w) b.2) ∙ rows_fit (lent_path rule w pairs numbers).rows b.0

  -- ---- segments that can be written, lent as pairs and numbers, are read back

  module _ (g : Segment) (ps ns : List ℕ) where
    head_is : take (length (asns_of g)) (asns_of g ++ ns) ≡ asns_of g
    head_is = take_at (asns_of g) ns (length (asns_of g)) refl

    tail_is : drop (length (asns_of g)) (asns_of g ++ ns) ≡ ns
    tail_is = drop_at (asns_of g) ns (length (asns_of g)) refl

    pub lend_one : WritableSegment rule w g → lent_of rule w (asns_of g ++ ns) (pair_of g ++ ps) ≡ took 2 g ns
    lend_one h =
        let fault = none_fault rule w g.kind (length (asns_of g)) (asns_of g) h.fine h.short h.fit in
        took_lent rule w (asns_of g ++ ns) (pair_of g ++ ps) (omega arith) (rw head_is fault)
        ∙ ap₂ (λ (a l : List ℕ). took 2 (record { kind = g.kind; asns = a }) l) head_is tail_is

  pub lend : (rows : List Segment) → Each (WritableSegment rule w) rows
      → (lent_path rule w (flat pair_of rows) (flat asns_of rows) ≡ record { rows = rows; verdict = fine }) × (adds_up (flat pair_of rows) (length (flat asns_of rows)) ≡ true)
  unfolding lent_path flat adds_up
  lend [] none = (all_nil (lent_of rule w) [], refl)
  lend (g ∷ rows) (one h hs) =
      let ih = lend rows hs in
      let n : length (asns_of g ++ flat asns_of rows) ≡ length (asns_of g) + length (flat asns_of rows) = length-append (asns_of g) (flat asns_of rows) in
      let le : length (asns_of g) ≤ length (asns_of g ++ flat asns_of rows) = omega (arith, n) in
      let rest : length (asns_of g ++ flat asns_of rows) - length (asns_of g) ≡ length (flat asns_of rows) = omega (arith, n) in (
        all_took (lent_of rule w) (asns_of g ++ flat asns_of rows) (flat asns_of rows) (pair_of g ++ flat pair_of rows) 2 g (omega arith) (omega arith) (lend_one g (flat pair_of rows) (flat asns_of rows) h)
            ∙ ap (more g) ih.0,
        rw (le-leb (length (asns_of g)) (length (asns_of g ++ flat asns_of rows)) le, rest) ih.1,
      )

-- ---- what a rule lets be written, the crate's lets be written, as the same segments

pub lent_alike : (rule : PathRule) (w : ℕ) (pairs numbers : List ℕ) → adds_up pairs (length numbers) ≡ true → (lent_path (rule_of rule) w pairs numbers).verdict ≡ fine
    → lent_path known_type w pairs numbers ≡ lent_path (rule_of rule) w pairs numbers
lent_alike rule w pairs numbers adds good =
    let rows : List Segment = (lent_path (rule_of rule) w pairs numbers).rows in
    let back = lent_back (rule_of rule) w pairs numbers adds good in
    let each : Each (WritableSegment known_type w) rows =
    each_map (λ g h. record { fine = rule_known rule g.kind (length g.asns) h.fine; short = h.short; fit = h.fit }) rows back.0 in
    ap₂ (lent_path known_type w) (sym back.1) (sym back.2) ∙ (lend known_type w rows each).0 ∙ ap (λ (v : Verdict). record { rows = rows; verdict = v }) (sym good)
