-- The crate's rule beside the others: what one of them takes, the crate's takes the same; and what the crate's takes and the strict one does not.
-- Assumes nothing.
use Prim.Native.Nat.{ℕ, zero, suc, ◌*◌, ◌≤◌, ◌<◌}
use mathlib.Core.Path.{◌≡◌, refl, sym, ap, subst, ◌∙◌}
use mathlib.Core.List.{List, [], ◌∷◌, ◌++◌}
use mathlib.Core.Logic.{◌⊎◌, inl, inr, ⊎_elim}
use native.Mathlib.Omega.{arith}
use lib.ListN.{length, get_or}
use Rattle.wire.specs.Cutting.{Each, one, Some, here, later, joined, Cutting}
use Rattle.std.specs.Prelude.{Result, Ok, Err}
use Rattle.wire.specs.Refusal.{list_limit}
use Rattle.wire.specs.Verdict.{fine}
use Rattle.wire.specs.declared.refusal.Refusal.{Refusal}
use Rattle.wire.specs.declared.refusal.Refusal.TheVariants.{EmptySegment}
use Rattle.wire.specs.Walk.{stop, Reading, flat}
use Rattle.wire.proofs.AnswerLaws.{either_second}
use Rattle.wire.proofs.CuttingLaws as cuttings
use Rattle.asns.specs.Asn.{span}
use Rattle.paths.specs.Segment.{Segment, known_type, non_empty, rule_of, type_fault, NoState, segment_at, segment_of, path_of, pair_of, asns_of}
use Rattle.paths.specs.WellFormed.{Known, NonEmpty, Allowed, WellFormed, Empty}
use Rattle.paths.proofs.SegmentLaws.{known_type_lem, fault_segment}
use Rattle.paths.specs.Promises.{count_answer, in_stores, read_answer}
use Rattle.paths.proofs.PromiseLaws.{count_bad, count_path, read_path, pairs_length}
use Rattle.paths.specs.declared.Path.{Path}
use Rattle.paths.proofs.FormedLaws.{ruled, decides, allowed_known, wider_formed}
use Rattle.paths.specs.declared.PathRule.{PathRule}
use Rattle.paths.specs.declared.PathRule.TheVariants.{Crate, Strict}

-- a path that a rule accepts, the crate's accepts the same
pub path_alike : (rule : PathRule) (w : ℕ) (s : List ℕ) → (path_of (rule_of rule) w s).verdict ≡ fine → path_of (rule_of rule) w s ≡ path_of known_type w s
unfolding path_of
path_alike rule w s =
    cuttings.wider_read (segment_of (rule_of rule) w) (WellFormed (Allowed rule) w) (segment_at w) (decides (rule_of rule) (Allowed rule) (ruled rule) w) (WellFormed Known w)
    (segment_of known_type w) (decides known_type Known (ruled Crate) w) (wider_formed (allowed_known rule) w) tt tt s

-- what counting tells of a path that a rule accepts, as the crate's reads it
pub record Accepted (rule : PathRule) (w : ℕ) (s : List ℕ) (path : Path) : Type 0 where
  pub alike : path_of known_type w s ≡ path_of (rule_of rule) w s
  pub good : (path_of known_type w s).verdict ≡ fine
  pub pairs : length (flat pair_of (path_of known_type w s).rows) ≡ 2 * path.segments
  pub numbers : length (flat asns_of (path_of known_type w s).rows) ≡ path.numbers

module _ (rule : PathRule) (w : ℕ) (s : List ℕ) (path : Path) where
  pub accepted : Ok path ≡ count_answer s (path_of (rule_of rule) w s) → Accepted rule w s path
  accepted e =
      let c = count_path s _ path (sym e) in
      let alike : path_of known_type w s ≡ path_of (rule_of rule) w s = sym (path_alike rule w s c.1) in
      record {
        alike = alike;
        good = rw alike c.1;
        pairs = pairs_length (path_of known_type w s).rows ∙ rw alike (ap (λ (p : Path). 2 * p.segments) c.2);
        numbers = rw alike (ap (λ (p : Path). p.numbers) c.2);
      }

  pub counted_alike : count_answer s (path_of (rule_of rule) w s) ≡ Ok path → path_of known_type w s ≡ path_of (rule_of rule) w s
  counted_alike e = sym (path_alike rule w s (count_path s _ path e).1)

  pub read_alike : (p q : ℕ) → read_answer s (path_of (rule_of rule) w s) p q ≡ Ok path → path_of known_type w s ≡ path_of (rule_of rule) w s
  read_alike p q e = sym (path_alike rule w s (read_path s _ path p q e).1)

module _ (w : ℕ) where
  -- a segment that the crate takes has a number, or is empty
  sorted : (item : List ℕ) → WellFormed Known w item → WellFormed NonEmpty w item ⊎ Empty item
  sorted item f = by f.count refl
    where
      by : (c : ℕ) → f.count ≡ c → WellFormed NonEmpty w item ⊎ Empty item
      by zero e = inr (ap (λ (l : List ℕ). get_or l 1 0) f.parts ∙ e)
      by (suc c) e = inl (record { kind = f.kind; count = f.count; body = f.body; parts = f.parts; meant = (f.meant, omega (arith, e)); long = f.long })

  -- and an empty one is refused by the strict rule, whatever follows
  empty_stops : (kind count : ℕ) (body rest : List ℕ) → Known kind count → count ≡ 0
      → (0 < length ((kind ∷ count ∷ body) ++ rest)) × (segment_of non_empty w tt ((kind ∷ count ∷ body) ++ rest) ≡ stop EmptySegment)
  unfolding span
  empty_stops kind zero body rest known e =
      let sixteen : non_empty kind 0 ≡ Err EmptySegment = either_second (type_fault kind) _ (known_type_lem kind known.0 known.1) in
      (omega arith, fault_segment non_empty w (kind ∷ zero ∷ (body ++ rest)) (omega arith) (omega arith) EmptySegment sixteen)
  empty_stops kind (suc count) body rest known e = absurd (omega (arith, e))

  refuses : (st : NoState) (item rest : List ℕ) → WellFormed Known w item → Empty item → (0 < length (item ++ rest)) × (segment_of non_empty w st (item ++ rest) ≡ stop EmptySegment)
  refuses tt item rest f e =
      subst (λ (l : List ℕ). (0 < length (l ++ rest)) × (segment_of non_empty w tt (l ++ rest) ≡ stop EmptySegment)) (sym f.parts)
      (empty_stops f.kind f.count f.body rest f.meant (sym (ap (λ (l : List ℕ). get_or l 1 0) f.parts) ∙ e))

  -- of a path that the crate's rule accepts: each segment has a number, or some are empty and the strict rule says 16
  pub full_or_empty : (s : List ℕ) (items : List (List ℕ)) → Cutting (WellFormed Known w) s items
      → Cutting (WellFormed NonEmpty w) s items ⊎ (Some Empty items × ((path_of non_empty w s).verdict ≡ Err EmptySegment))
  unfolding path_of
  full_or_empty s items c =
      by (cuttings.all_or_odd (segment_of non_empty w) (WellFormed NonEmpty w) (segment_at w) (decides non_empty NonEmpty (ruled Strict) w) (WellFormed Known w) Empty EmptySegment sorted refuses tt items c.each)
    where
      by : Each (WellFormed NonEmpty w) items ⊎ (Some Empty items × ((path_of non_empty w (joined items)).verdict ≡ Err EmptySegment))
          → Cutting (WellFormed NonEmpty w) s items ⊎ (Some Empty items × ((path_of non_empty w s).verdict ≡ Err EmptySegment))
      by (inl each) = inl (record { each = each; whole = c.whole })
      by (inr o) = inr (o.0, ap (λ (l : List ℕ). (path_of non_empty w l).verdict) (sym c.whole) ∙ o.1)

  -- an empty segment is in no path that the strict rule accepts
  never_empty : (items : List (List ℕ)) → Each (WellFormed NonEmpty w) items → Some Empty items → ⊥
  never_empty [] _ s = elim s [ ]
  never_empty (item ∷ items) (one f fs) (here e) = let zero_count : f.count ≡ 0 = sym (ap (λ (l : List ℕ). get_or l 1 0) f.parts) ∙ e in omega (arith, zero_count, f.meant.1)
  never_empty (item ∷ items) (one f fs) (later e) = never_empty items fs e

  -- so of the paths that the crate's rule accepts, the strict one refuses those with an empty segment, with 16, and no other: counted, and read into stores
  module _ (s : List ℕ) (short : length s ≤ list_limit) (items : List (List ℕ)) (c : Cutting (WellFormed Known w) s items) where
    sixteen : (path_of non_empty w s).verdict ≡ Err EmptySegment → count_answer s (path_of non_empty w s) ≡ Err EmptySegment
    sixteen v = sym (count_bad s (path_of non_empty w s) EmptySegment short v)

    pub empty_counted : Some Empty items → count_answer s (path_of non_empty w s) ≡ Err EmptySegment
    empty_counted e = ⊎_elim (λ (f : Cutting (WellFormed NonEmpty w) s items). absurd (never_empty items f.each e)) (λ o. sixteen o.1) (full_or_empty s items c)

    pub empty_read : (p q : ℕ) → Some Empty items → read_answer s (path_of non_empty w s) p q ≡ Err EmptySegment
    unfolding read_answer
    empty_read p q e = ap (λ (a : Result Path Refusal). in_stores a p q) (empty_counted e)

    -- where no segment is empty, both read the same
    full_read : Cutting (WellFormed NonEmpty w) s items → path_of non_empty w s ≡ path_of known_type w s
    unfolding path_of
    full_read f =
        path_alike Strict w s
        (ap (λ (r : Reading Segment). r.verdict) (cuttings.cut_read (segment_of non_empty w) (WellFormed NonEmpty w) (segment_at w) (decides non_empty NonEmpty (ruled Strict) w) tt s items f))

    refused_by : (answer : Reading Segment → Result Path Refusal) (path : Path) (r : Refusal) → answer (path_of known_type w s) ≡ Ok path
        → ((path_of non_empty w s).verdict ≡ Err EmptySegment → answer (path_of non_empty w s) ≡ Err EmptySegment) → answer (path_of non_empty w s) ≡ Err r
        → Some Empty items × (r ≡ EmptySegment)
    refused_by answer path r good bad e =
        ⊎_elim
        (λ (f : Cutting (WellFormed NonEmpty w) s items).
        let both : Ok path ≡ Err r = sym good ∙ ap answer (sym (full_read f)) ∙ e in cc)
        (λ o. let both : ◌≡◌ {A = Result Path Refusal} (Err r) (Err EmptySegment) = sym e ∙ bad o.1 in (o.0, cc))
        (full_or_empty s items c)

    pub counted_empty : (path : Path) (r : Refusal) → count_answer s (path_of known_type w s) ≡ Ok path → count_answer s (path_of non_empty w s) ≡ Err r → Some Empty items × (r ≡ EmptySegment)
    counted_empty path r good = refused_by (count_answer s) path r good sixteen

    pub read_empty : (p q : ℕ) (path : Path) (r : Refusal) → read_answer s (path_of known_type w s) p q ≡ Ok path → read_answer s (path_of non_empty w s) p q ≡ Err r
        → Some Empty items × (r ≡ EmptySegment)
    unfolding read_answer
    read_empty p q path r good = refused_by (λ x. read_answer s x p q) path r good (λ v. ap (λ (a : Result Path Refusal). in_stores a p q) (sixteen v))
