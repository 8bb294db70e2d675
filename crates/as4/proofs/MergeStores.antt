-- What a merge answers and leaves in the two stores.
-- Assumes nothing.
use Prim.Native.Nat.{ℕ}
use mathlib.Core.Path.{◌≡◌, refl, subst}
use mathlib.Core.List.{List, []}
use lib.ListN.{length}
use Rattle.std.specs.Prelude.{Result, Ok}
use Rattle.wire.specs.Answer.{filled}
use Rattle.wire.specs.Walk.{Reading, flat}
use Rattle.wire.specs.declared.refusal.Refusal.{Refusal}
use Rattle.paths.specs.Segment.{Segment, pair_of, asns_of}
use Rattle.paths.specs.Promises.{path_meaning, answer_of, count_answer, in_stores, read_answer, pairs_after, numbers_after}
use Rattle.paths.specs.declared.Path.{Path}
use Rattle.as4.specs.Promises.{old_path, merge_answer, merged_pairs, merged_numbers}
use Rattle.as4.specs.Private.{Made, Planned}
use Rattle.as4.specs.declared.Leading.{Leading}
use Rattle.as4.specs.declared.Plan.{Plan}
use Rattle.as4.specs.declared.Plan.TheVariants as P
use Rattle.as4.proofs.PlanLaws.{answer_good, answer_alone}

-- ---- an answer, and the stores that go with it

module _ (r : Reading Segment) (pairs numbers : List ℕ) where
  pub leave : (y x : Result Path Refusal) → y ≡ answer_of r → in_stores y (length pairs) (length numbers) ≡ x
      → (x ≡ merge_answer r (length pairs) (length numbers))
      × ((filled (path_meaning x) (flat pair_of r.rows) pairs ≡ merged_pairs r pairs (length numbers))
      × (filled (path_meaning x) (flat asns_of r.rows) numbers ≡ merged_numbers r (length pairs) numbers))
  unfolding merged_pairs merged_numbers
  leave y x counted sized = rw (← counted, sized) (refl, (refl, refl))

  -- of AS_PATH alone, as the reader of a path leaves them
  pub leave_alone : (s : List ℕ) (q : Reading Segment) → count_answer s q ≡ answer_of r → r.rows ≡ q.rows
      → (read_answer s q (length pairs) (length numbers) ≡ merge_answer r (length pairs) (length numbers))
      × ((pairs_after s q pairs (length numbers) ≡ merged_pairs r pairs (length numbers))
      × (numbers_after s q (length pairs) numbers ≡ merged_numbers r (length pairs) numbers))
  unfolding read_answer pairs_after numbers_after merged_pairs merged_numbers
  leave_alone s q e rows = rw (e, ← rows) (refl, (refl, refl))

  -- what is answered and left is as of a reading of no bytes, whatever the reading is
  pub as_read : (merge_answer r (length pairs) (length numbers) ≡ read_answer [] r (length pairs) (length numbers))
      × ((merged_pairs r pairs (length numbers) ≡ pairs_after [] r pairs (length numbers)) × (merged_numbers r (length pairs) numbers ≡ numbers_after [] r (length pairs) numbers))
  unfolding count_answer read_answer pairs_after numbers_after merged_pairs merged_numbers
  as_read = (refl, (refl, refl))

-- ---- what is planned, and then counted or left

module _ (r : Reading Segment) (path four : List ℕ) {plan : Plan} (p : Planned r path four (Ok plan)) where
  pub planned_alone : plan ≡ P.Alone → (r.rows ≡ (old_path path).rows) × (count_answer path (old_path path) ≡ answer_of r)
  planned_alone e = let alone = subst (λ (x : Plan). Planned r path four (Ok x)) e p in (alone.0, answer_alone r path alone.0 alone.1)

  pub planned_made : {lead : Leading} {size : Path} → plan ≡ P.Built lead size → Made r path four lead size × (Ok size ≡ answer_of r)
  planned_made {size = size} e = let made = subst (λ (x : Plan). Planned r path four (Ok x)) e p in (made, answer_good r size made.good made.size)
