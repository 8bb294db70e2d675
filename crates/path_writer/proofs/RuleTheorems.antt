-- What reading and writing a path are, over any rule, the idea of a segment that it is for, and any width: the laws behind the demands.
-- Assumes nothing.
use Prim.Native.Nat.{ℕ, ◌+◌, ◌*◌, ◌/◌, ◌≤◌}
use mathlib.Core.Path.{◌≡◌, sym, ap, ap₂, subst, ◌∙◌}
use mathlib.Core.List.{List, map}
use native.Mathlib.Omega.{arith}
use lib.ListN.{length, take, length-map}
use lib.Seq.{take-append_seam}
use Rattle.wire.specs.Number.{Bytes}
use Rattle.std.specs.Prelude.{Ok}
use Rattle.wire.specs.Refusal.{list_limit}
use Rattle.wire.specs.Verdict.{fine}
use Rattle.wire.specs.Store.{laid}
use Rattle.wire.specs.Walk.{Reading, flat}
use Rattle.wire.proofs.WalkLaws.{tally_one, tally_flat}
use Rattle.wire.specs.Cutting.{Each, Cutting}
use Rattle.wire.proofs.CuttingLaws as cuttings
use Rattle.asns.specs.Asn.{span}
use Rattle.paths.specs.Segment.{Segment, Rule, segment_at, segment_of, path_of, pair_of, asns_of}
use Rattle.paths.specs.WellFormed.{WellFormed, head_of, as_numbers}
use Rattle.paths.specs.Promises.{counts, count_answer, read_answer, pairs_after, numbers_after}
use Rattle.paths.proofs.FormedLaws.{RuleFor, decides, items_pairs, items_numbers}
use Rattle.paths.proofs.PromiseLaws.{count_good, count_path, read_path, path_read, path_stores, pairs_length}
use Rattle.paths.specs.declared.Path.{Path}
use Rattle.path_writer.specs.Write.{segment_bytes, lent_path, path_bytes}
use Rattle.path_writer.proofs.Lent.{WritableSegment, lent_back, lend}
use Rattle.path_writer.specs.Promises.{lent_bytes, encode_answer, encode_left}
use Rattle.path_writer.proofs.PromiseLaws.{size_is, all_written, encode_written, written_out}
use Rattle.path_writer.proofs.RoundTrip.{stands}

-- what was laid at the front
front : (d vs : List ℕ) (n : ℕ) → length vs ≡ n → take n (laid d 0 vs) ≡ vs
front d vs n e = ap (λ (k : ℕ). take k (laid d 0 vs)) (sym e) ∙ take-append_seam vs _

module _ (rule : Rule) (allowed : ℕ → ℕ → Type 0) (for : RuleFor rule allowed) (w : ℕ) where
  -- two cuttings of the same bytes are equal
  pub one_cutting : (s : List ℕ) (items items' : List (List ℕ)) → Cutting (WellFormed allowed w) s items → Cutting (WellFormed allowed w) s items' → items ≡ items'
  one_cutting s items items' c c' = cuttings.one_cutting (segment_of rule w) (WellFormed allowed w) (segment_at w) (decides rule allowed for w) tt s items items' c c'

  module _ (s : List ℕ) where
    -- ---- bytes that can be cut

    module _ (items : List (List ℕ)) (c : Cutting (WellFormed allowed w) s items) where
      cut_path : path_of rule w s ≡ record { rows = map (segment_at w) items; verdict = fine }
      unfolding path_of
      cut_path = cuttings.cut_read (segment_of rule w) (WellFormed allowed w) (segment_at w) (decides rule allowed for w) tt s items c

      cut_good : (path_of rule w s).verdict ≡ fine
      cut_good = ap (λ (r : Reading Segment). r.verdict) cut_path

      cut_rows : (path_of rule w s).rows ≡ map (segment_at w) items
      cut_rows = ap (λ (r : Reading Segment). r.rows) cut_path

      cut_many : length (path_of rule w s).rows ≡ length items
      cut_many = ap length cut_rows ∙ length-map items (segment_at w)

      cut_pairs : flat pair_of (path_of rule w s).rows ≡ flat head_of items
      cut_pairs = ap (flat pair_of) cut_rows ∙ items_pairs rule allowed for w items

      cut_numbers : flat asns_of (path_of rule w s).rows ≡ flat (as_numbers w) items
      cut_numbers = ap (flat asns_of) cut_rows ∙ items_numbers rule allowed for w items c.each

      cut_counts : counts (path_of rule w s).rows ≡ record { segments = length items; numbers = length (flat (as_numbers w) items) }
      cut_counts = ap₂ (λ (m n : ℕ). record { segments = m; numbers = n }) cut_many (ap length cut_numbers)

      pub cut_counted : length s ≤ list_limit → count_answer s (path_of rule w s) ≡ Ok (record { segments = length items; numbers = length (flat (as_numbers w) items) })
      cut_counted short =
          sym (count_good s (path_of rule w s) (length items) (length (flat (as_numbers w) items)) short cut_good
          (tally_one (path_of rule w s).rows ∙ cut_many) (tally_flat asns_of (path_of rule w s).rows ∙ ap length cut_numbers))

      pub cut_accepted : (p q : ℕ) → length s ≤ list_limit → length items ≤ p / 2 → length (flat (as_numbers w) items) ≤ q
          → read_answer s (path_of rule w s) p q ≡ Ok (record { segments = length items; numbers = length (flat (as_numbers w) items) })
      cut_accepted p q short h k = path_read s (path_of rule w s) _ p q short cut_good (cut_counts) h k

      pub cut_stores : (pairs numbers : List ℕ) (path : Path) → read_answer s (path_of rule w s) (length pairs) (length numbers) ≡ Ok path
          → (path ≡ record { segments = length items; numbers = length (flat (as_numbers w) items) })
          × (pairs_after s (path_of rule w s) pairs (length numbers) ≡ laid pairs 0 (flat head_of items))
          × (numbers_after s (path_of rule w s) (length pairs) numbers ≡ laid numbers 0 (flat (as_numbers w) items))
      cut_stores pairs numbers path e =
          let r = read_path s (path_of rule w s) path (length pairs) (length numbers) e in
          let st = path_stores s (path_of rule w s) pairs numbers path e in
          (sym r.2 ∙ cut_counts, st.0 ∙ ap (laid pairs 0) cut_pairs, st.1 ∙ ap (laid numbers 0) cut_numbers)

    -- ---- bytes that are accepted

    path_cut : (path_of rule w s).verdict ≡ fine → (items : List (List ℕ)) × Cutting (WellFormed allowed w) s items
    unfolding path_of
    path_cut v = cuttings.read_cut (segment_of rule w) (WellFormed allowed w) (segment_at w) (decides rule allowed for w) tt s v

    pub counted_cut : (path : Path) → count_answer s (path_of rule w s) ≡ Ok path
        → (items : List (List ℕ)) × Cutting (WellFormed allowed w) s items
        × (length items ≡ path.segments) × (length (flat (as_numbers w) items) ≡ path.numbers) × (length s ≤ list_limit)
    counted_cut path e =
        let r = count_path s (path_of rule w s) path e in
        let k = path_cut r.1 in
        let same : record { segments = length k.0; numbers = length (flat (as_numbers w) k.0) } ≡ path = sym (cut_counts k.0 k.1) ∙ r.2 in
        (k.0, k.1, ap (λ (x : Path). x.segments) same, ap (λ (x : Path). x.numbers) same, r.0)

    pub accepted_cut : (p q : ℕ) (path : Path) → read_answer s (path_of rule w s) p q ≡ Ok path
        → (items : List (List ℕ)) × Cutting (WellFormed allowed w) s items
        × (length items ≡ path.segments) × (length (flat (as_numbers w) items) ≡ path.numbers) × (length s ≤ list_limit) × (path.segments ≤ p / 2) × (path.numbers ≤ q)
    accepted_cut p q path e =
        let r = read_path s (path_of rule w s) path p q e in
        let k = path_cut r.1 in
        let same : record { segments = length k.0; numbers = length (flat (as_numbers w) k.0) } ≡ path = sym (cut_counts k.0 k.1) ∙ r.2 in
        (k.0, k.1, ap (λ (x : Path). x.segments) same, ap (λ (x : Path). x.numbers) same, r.0, r.3, r.4)

    -- its segments can be written, and are written as it
    accepted : Bytes s → (path_of rule w s).verdict ≡ fine → Each (WritableSegment rule w) (path_of rule w s).rows × (path_bytes w (path_of rule w s).rows ≡ s)
    unfolding path_bytes
    accepted b v =
        let k = path_cut v in
        let rows_is = cut_rows k.0 k.1 in
        let h = cuttings.items_written (WellFormed allowed w) (segment_at w) (WritableSegment rule w) (segment_bytes w) (stands rule allowed for w) k.0 k.1.each (subst Bytes (sym k.1.whole) b) in
        (subst (Each (WritableSegment rule w)) (sym rows_is) h.0, ap (flat (segment_bytes w)) rows_is ∙ h.2 ∙ k.1.whole)

    -- ---- writing what was read

    module _ (b : Bytes s) (pairs numbers : List ℕ) (path : Path) (e : read_answer s (path_of rule w s) (length pairs) (length numbers) ≡ Ok path) where
      pub read_written : (out : List ℕ) → length s ≤ length out →
          let pairs' : List ℕ = take (2 * path.segments) (pairs_after s (path_of rule w s) pairs (length numbers)) in
          let numbers' : List ℕ = take path.numbers (numbers_after s (path_of rule w s) (length pairs) numbers) in
          (encode_answer rule w pairs' numbers' (length out) ≡ Ok (length s)) × (encode_left rule w pairs' numbers' out ≡ laid out 0 s)
      unfolding lent_bytes
      read_written out room =
          let rows : List Segment = (path_of rule w s).rows in
          let r = read_path s (path_of rule w s) path (length pairs) (length numbers) e in
          let a = accepted b r.1 in
          let st = path_stores s (path_of rule w s) pairs numbers path e in
          let p : List ℕ = flat pair_of rows in
          let q : List ℕ = flat asns_of rows in
          let p_is : take (2 * path.segments) (pairs_after s (path_of rule w s) pairs (length numbers)) ≡ p = ap (take (2 * path.segments)) st.0 ∙ front pairs p (2 * path.segments) (pairs_length rows ∙ ap (λ (x : Path). 2 * x.segments) r.2) in
          let q_is : take path.numbers (numbers_after s (path_of rule w s) (length pairs) numbers) ≡ q = ap (take path.numbers) st.1 ∙ front numbers q path.numbers (ap (λ (x : Path). x.numbers) r.2) in
          let l = lend rule w rows a.0 in
          let good : fine ≡ (lent_path rule w p q).verdict = sym (ap (λ (x : Reading Segment). x.verdict) l.0) in
          let bytes : lent_bytes rule w p q ≡ s = ap (λ (x : Reading Segment). path_bytes w x.rows) l.0 ∙ a.1 in
          let size : length p + span w (length q) ≡ length s = sym (size_is rule w p q (length out) l.1 good) ∙ ap length bytes in
          let answer : encode_answer rule w p q (length out) ≡ Ok (length s) =
          all_written rule w p q (length out) l.1 good (omega (arith, size, r.0)) (omega (arith, size)) ∙ ap Ok size in (
            ap₂ (λ (x y : List ℕ). encode_answer rule w x y (length out)) p_is q_is ∙ answer,
            ap₂ (λ (x y : List ℕ). encode_left rule w x y out) p_is q_is ∙ written_out rule w p q out (length s) answer ∙ ap (laid out 0) bytes,
          )

  -- ---- what is written stands for one input alone

  same_segments : (rows rows' : List Segment) → Each (WritableSegment rule w) rows → Each (WritableSegment rule w) rows' → path_bytes w rows ≡ path_bytes w rows' → rows ≡ rows'
  unfolding path_bytes
  same_segments rows rows' h h' e =
      cuttings.same_rows (WellFormed allowed w) (segment_at w) (WritableSegment rule w) (segment_bytes w) (stands rule allowed for w) (segment_of rule w) (decides rule allowed for w) tt rows rows' h h' e

  pub written_once : (pairs numbers out : List ℕ) (n : ℕ) (pairs' numbers' out' : List ℕ) (n' : ℕ)
      → encode_answer rule w pairs numbers (length out) ≡ Ok n → encode_answer rule w pairs' numbers' (length out') ≡ Ok n'
      → take n (encode_left rule w pairs numbers out) ≡ take n' (encode_left rule w pairs' numbers' out') → (pairs ≡ pairs') × (numbers ≡ numbers')
  unfolding lent_bytes
  written_once pairs numbers out n pairs' numbers' out' n' e e' same =
      let h = encode_written rule w pairs numbers (length out) n e in
      let h' = encode_written rule w pairs' numbers' (length out') n' e' in
      let back = lent_back rule w pairs numbers h.0 h.1 in
      let back' = lent_back rule w pairs' numbers' h'.0 h'.1 in
      let rows : List Segment = (lent_path rule w pairs numbers).rows in
      let rows' : List Segment = (lent_path rule w pairs' numbers').rows in
      let bytes : path_bytes w rows ≡ path_bytes w rows' =
      sym (ap (take n) (written_out rule w pairs numbers out n e) ∙ front out (path_bytes w rows) n h.2)
      ∙ same ∙ ap (take n') (written_out rule w pairs' numbers' out' n' e') ∙ front out' (path_bytes w rows') n' h'.2 in
      let equal : rows ≡ rows' = same_segments rows rows' back.0 back'.0 bytes in
      (sym back.1 ∙ ap (flat pair_of) equal ∙ back'.1, sym back.2 ∙ ap (flat asns_of) equal ∙ back'.2)
