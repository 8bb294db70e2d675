-- Segments and their bytes stand for each other: over any rule, any idea of a segment that it is for, and any width.
-- Assumes nothing.
use Prim.Native.Nat.{ℕ, zero, suc, ◌*◌, ◌^◌, ◌≤◌, ◌<◌}
use mathlib.Core.Path.{◌≡◌, refl, sym, ap, ap₂, subst, ◌∙◌}
use mathlib.Core.List.{List, [], ◌∷◌, ◌++◌}
use mathlib.Core.Bool.{true}
use native.Mathlib.Omega.{arith}
use lib.ListN.{length, take, drop, length-drop}
use lib.Seq.{take-add, drop_at, take-length}
use Rattle.wire.specs.Number.{be, to_be, padded, be_at, Bytes}
use Rattle.wire.proofs.NumberLaws.{be_lt, to_be_be, length_to_be, length_padded, padded_take, bytes_drop, bytes_padded}
use Rattle.wire.specs.Walk.{flat}
use Rattle.wire.proofs.CuttingLaws.{Stands}
use Rattle.asns.specs.Asn.{span}
use Rattle.asns.proofs.AsnLaws.{span_is, number_back}
use Rattle.paths.specs.Segment.{Segment, numbers_of, Rule, segment_at}
use Rattle.paths.specs.WellFormed.{WellFormed}
use Rattle.paths.proofs.SegmentLaws.{length_numbers}
use Rattle.paths.proofs.FormedLaws.{RuleFor}
use Rattle.path_writer.specs.Write.{segment_bytes, all_fit}
use Rattle.path_writer.proofs.WriteLaws.{fit_here, fit_cons, bytes_length}
use Rattle.path_writer.proofs.Lent.{WritableSegment}

-- ---- numbers

module _ (w : ℕ) where
  number_bytes : (s : List ℕ) → Bytes s → w ≤ length s → to_be w (be_at s 0 w) ≡ take w s
  unfolding be_at
  number_bytes s b h =
      ap (λ (k : ℕ). to_be k (be (padded w s))) (sym (length_padded w s)) ∙ to_be_be (padded w s) (bytes_padded w s b) ∙ padded_take w s h

  numbers_bytes : (n : ℕ) (s : List ℕ) → Bytes s → span w n ≤ length s → flat (to_be w) (numbers_of w n s) ≡ take (span w n) s
  unfolding span numbers_of flat
  numbers_bytes zero s b h = refl
  numbers_bytes (suc n) s b h =
      ap₂ ◌++◌ (number_bytes s b (omega arith)) (numbers_bytes n (drop w s) (bytes_drop w s b) (omega (arith, length-drop w s)))
      ∙ sym (take-add w (span w n) s)

  numbers_fit : (n : ℕ) (s : List ℕ) → Bytes s → all_fit w (numbers_of w n s) ≡ true
  unfolding numbers_of all_fit be_at
  numbers_fit zero s b = refl
  numbers_fit (suc n) s b =
      let lt : be (padded w s) < 256 ^ w = rw (length_padded w s) at (be_lt (padded w s) (bytes_padded w s b)) in
      fit_cons w (be (padded w s)) (numbers_of w n (drop w s)) lt (numbers_fit n (drop w s) (bytes_drop w s b))

  numbers_back : (ns : List ℕ) → all_fit w ns ≡ true → numbers_of w (length ns) (flat (to_be w) ns) ≡ ns
  unfolding numbers_of flat
  numbers_back [] e = refl
  numbers_back (v ∷ ns) e =
      let f = fit_here w v ns e in
      ap₂ ◌∷◌ (number_back [] 0 w v (flat (to_be w) ns) refl f.0)
      (ap (numbers_of w (length ns)) (drop_at (to_be w v) (flat (to_be w) ns) w (length_to_be w v)) ∙ numbers_back ns f.1)

-- ---- one segment

module _ (rule : Rule) (allowed : ℕ → ℕ → Type 0) (for : RuleFor rule allowed) (w : ℕ) where
  -- of well-formed bytes: it can be written, and is written as them
  item_written : (kind count : ℕ) (body : List ℕ) → allowed kind count → length body ≡ count * w → Bytes (kind ∷ count ∷ body)
      → WritableSegment rule w (segment_at w (kind ∷ count ∷ body)) × (segment_bytes w (segment_at w (kind ∷ count ∷ body)) ≡ kind ∷ count ∷ body)
  unfolding segment_bytes segment_at
  item_written kind count body a e b =
      let after : Bytes body = bytes_drop 2 (kind ∷ count ∷ body) b in
      let small : count < 256 = b 1 in
      let len : length (numbers_of w count body) ≡ count = length_numbers w count body in
      let size : span w count ≡ length body = span_is w count ∙ sym e in (
        record { fine = ap (rule kind) len ∙ for.whole kind count a; short = omega (arith, len, small); fit = numbers_fit w count body after },
        ap₂ (λ (n : ℕ) (l : List ℕ). kind ∷ n ∷ l) len (numbers_bytes w count body after (omega (arith, size)) ∙ ap (λ (k : ℕ). take k body) size ∙ take-length body),
      )

  -- one that can be written: its bytes are well formed, and are read as it
  segment_back : (g : Segment) → WritableSegment rule w g → WellFormed allowed w (segment_bytes w g) × (segment_at w (segment_bytes w g) ≡ g)
  unfolding segment_bytes segment_at
  segment_back g h = (
    record {
      kind = g.kind;
      count = length g.asns;
      body = flat (to_be w) g.asns;
      parts = refl;
      meant = for.sound g.kind (length g.asns) h.fine;
      long = bytes_length w g.asns ∙ span_is w (length g.asns);
    },
    ap (λ (l : List ℕ). record { kind = g.kind; asns = l }) (numbers_back w g.asns h.fit),
  )

  pub stands : Stands (WellFormed allowed w) (segment_at w) (WritableSegment rule w) (segment_bytes w)
  stands = record {
    written =
        λ item f b. subst (λ (l : List ℕ). Bytes l → WritableSegment rule w (segment_at w l) × (segment_bytes w (segment_at w l) ≡ l)) (sym f.parts)
        (item_written f.kind f.count f.body f.meant f.long) b;
    read = segment_back;
  }
