-- Of the paths that the crate's rule writes, the strict one refuses those with a segment of no numbers, with 16, and no other.
-- Assumes nothing.
use Prim.Native.Nat.{ℕ, zero, suc, ◌≤◌}
use mathlib.Core.Path.{◌≡◌, refl, sym, ap, ap₂, ◌∙◌}
use mathlib.Core.List.{List, [], ◌∷◌, ◌++◌}
use mathlib.Core.Logic.{◌⊎◌, inl, inr, ⊎_elim}
use native.Mathlib.Omega.{arith}
use lib.ListN.{length}
use Rattle.wire.specs.Cutting.{Each, none, one, Some, here, later}
use Rattle.std.specs.Prelude.{Result, Ok, Err}
use Rattle.wire.specs.Verdict.{Verdict}
use Rattle.wire.specs.declared.refusal.Refusal.{Refusal}
use Rattle.wire.specs.declared.refusal.Refusal.TheVariants.{EmptySegment}
use Rattle.wire.specs.Walk.{Reading, read_all, flat}
use Rattle.wire.proofs.AnswerLaws.{either_second}
use Rattle.wire.proofs.WalkLaws.{all_stop, all_took}
use Rattle.paths.specs.Segment.{Segment, NoNumbers, known_type, non_empty, type_fault, pair_of, asns_of}
use Rattle.paths.specs.declared.PathRule.TheVariants.{Crate, Strict}
use Rattle.paths.proofs.FormedLaws.{ruled}
use Rattle.path_writer.specs.Write.{lent_of, lent_path}
use Rattle.path_writer.specs.Promises.{encode_answer}
use Rattle.path_writer.proofs.WriteLaws.{fault_rule, stop_lent}
use Rattle.path_writer.proofs.Lent.{WritableSegment, lent_back, lend, lend_one}
use Rattle.path_writer.proofs.PromiseLaws.{bad_segment, encode_written, same_answer}

module _ (w : ℕ) where
  -- one with a number is written by the strict rule too
  strict_one : (g : Segment) → WritableSegment known_type w g → 1 ≤ length (asns_of g) → WritableSegment non_empty w g
  strict_one g h some = record {
    fine = (ruled Strict).whole g.kind (length (asns_of g)) ((ruled Crate).sound g.kind (length (asns_of g)) h.fine, some);
    short = h.short;
    fit = h.fit;
  }

  -- one without is 16
  empty_one : (g : Segment) (ps ns : List ℕ) → WritableSegment known_type w g → NoNumbers g
      → (read_all (lent_of non_empty w) (asns_of g ++ ns) (pair_of g ++ ps)).verdict ≡ Err EmptySegment
  empty_one g ps ns h e =
      let sixteen : non_empty g.kind (length (asns_of g)) ≡ Err EmptySegment = ap (non_empty g.kind) e ∙ either_second (type_fault g.kind) _ h.fine in
      let step = stop_lent non_empty w (asns_of g ++ ns) (pair_of g ++ ps) EmptySegment (omega arith) (fault_rule non_empty w g.kind (length (asns_of g)) _ EmptySegment sixteen) in
      ap (λ (r : Reading Segment). r.verdict) (all_stop (lent_of non_empty w) (asns_of g ++ ns) (pair_of g ++ ps) EmptySegment (omega arith) step)

  full_or_empty : (rows : List Segment) → Each (WritableSegment known_type w) rows
      → Each (WritableSegment non_empty w) rows ⊎ (Some NoNumbers rows × ((lent_path non_empty w (flat pair_of rows) (flat asns_of rows)).verdict ≡ Err EmptySegment))
  unfolding lent_path flat
  full_or_empty [] none = inl none
  full_or_empty (g ∷ rows) (one h hs) = by (length (asns_of g)) refl (full_or_empty rows hs)
    where
      on : WritableSegment non_empty w g
          → (read_all (lent_of non_empty w) (asns_of g ++ flat asns_of rows) (pair_of g ++ flat pair_of rows)).verdict ≡ (read_all (lent_of non_empty w) (flat asns_of rows) (flat pair_of rows)).verdict
      on s =
          ap (λ (r : Reading Segment). r.verdict)
          (all_took (lent_of non_empty w) (asns_of g ++ flat asns_of rows) (flat asns_of rows) (pair_of g ++ flat pair_of rows) 2 g (omega arith) (omega arith) (lend_one non_empty w g (flat pair_of rows) (flat asns_of rows) s))

      by : (n : ℕ) → length (asns_of g) ≡ n
          → Each (WritableSegment non_empty w) rows ⊎ (Some NoNumbers rows × ((read_all (lent_of non_empty w) (flat asns_of rows) (flat pair_of rows)).verdict ≡ Err EmptySegment))
          → Each (WritableSegment non_empty w) (g ∷ rows) ⊎ (Some NoNumbers (g ∷ rows) × ((read_all (lent_of non_empty w) (asns_of g ++ flat asns_of rows) (pair_of g ++ flat pair_of rows)).verdict ≡ Err EmptySegment))
      by zero e again = inr (here e, empty_one g (flat pair_of rows) (flat asns_of rows) h e)
      by (suc n) e again =
          let s = strict_one g h (omega (arith, e)) in
          ⊎_elim (λ (ss : Each (WritableSegment non_empty w) rows). inl (one s ss)) (λ o. inr (later o.0, on s ∙ o.1)) again

  -- no segment is empty that the strict rule writes
  never_empty : (rows : List Segment) → Each (WritableSegment non_empty w) rows → Some NoNumbers rows → ⊥
  never_empty [] _ some = elim some [ ]
  never_empty (g ∷ rows) (one h hs) (here e) = let some = ((ruled Strict).sound g.kind (length (asns_of g)) h.fine).1 in omega (arith, e, some)
  never_empty (g ∷ rows) (one h hs) (later e) = never_empty rows hs e

  module _ (pairs numbers : List ℕ) (places n : ℕ) (written : encode_answer known_type w pairs numbers places ≡ Ok n) where
    abbrev lent_rows : List Segment
    lent_rows = (lent_path known_type w pairs numbers).rows

    -- by the strict rule: the same, or 16
    strict_or_empty : (Each (WritableSegment non_empty w) lent_rows × (encode_answer non_empty w pairs numbers places ≡ Ok n))
        ⊎ (Some NoNumbers lent_rows × (encode_answer non_empty w pairs numbers places ≡ Err EmptySegment))
    strict_or_empty =
        let h = encode_written known_type w pairs numbers places n written in
        let back = lent_back known_type w pairs numbers h.0 h.1 in
        let here_is : lent_path non_empty w pairs numbers ≡ lent_path non_empty w (flat pair_of lent_rows) (flat asns_of lent_rows) = ap₂ (lent_path non_empty w) (sym back.1) (sym back.2) in
        ⊎_elim
        (λ (full : Each (WritableSegment non_empty w) lent_rows).
        let same : lent_path non_empty w pairs numbers ≡ lent_path known_type w pairs numbers =
        here_is ∙ (lend non_empty w lent_rows full).0 ∙ ap (λ (v : Verdict). record { rows = lent_rows; verdict = v }) (sym h.1) in
        inl (full, same_answer non_empty known_type w pairs numbers same places ∙ written))
        (λ o. inr (o.0, bad_segment non_empty w pairs numbers places h.0 EmptySegment (ap (λ (r : Reading Segment). r.verdict) here_is ∙ o.1)))
        (full_or_empty lent_rows back.0)

    pub empty_written : Some NoNumbers lent_rows → encode_answer non_empty w pairs numbers places ≡ Err EmptySegment
    empty_written e = ⊎_elim (λ f. absurd (never_empty lent_rows f.0 e)) (λ o. o.1) strict_or_empty

    pub written_empty : (r : Refusal) → encode_answer non_empty w pairs numbers places ≡ Err r → Some NoNumbers lent_rows × (r ≡ EmptySegment)
    written_empty r e =
        ⊎_elim
        (λ f. let both : Ok n ≡ Err r = sym f.1 ∙ e in cc)
        (λ o. let both : ◌≡◌ {A = Result ℕ Refusal} (Err r) (Err EmptySegment) = sym e ∙ o.1 in (o.0, cc))
        strict_or_empty
