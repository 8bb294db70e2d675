-- Two results that the promise of a call allows are equal, and so is what it leaves: of the ensures clauses themselves.
use mathlib.Core.Path.{◌≡◌, sym, ◌∙◌}
use Rattle.wire.proofs.ExtentLaws.{one_part}
use Rattle.as4.proofs.which_aggregator.Reads as which_aggregator
use Rattle.as4.proofs.standing_aggregator.Reads as standing_aggregator
use Rattle.as4.proofs.count_merged_as_path.Reads as count_merged_as_path
use Rattle.as4.proofs.merge_as_path.Reads as merge_as_path

pub tight_which_aggregator : (κs : _) (a : _) (z z' : _) (e e' : _) → which_aggregator.Learnt κs a z e → which_aggregator.Learnt κs a z' e' → z ≡ z'
tight_which_aggregator κs a z z' e e' p q = p ∙ sym q

-- what the value holds, and where it lies: so to which of the two it belongs
pub tight_standing_aggregator : (κs : _) (a : _) (z z' : _) (e e' : _) → standing_aggregator.Learnt κs a z e → standing_aggregator.Learnt κs a z' e' → (z.now ≡ z'.now) × (z.ref_ptr ≡ z'.ref_ptr)
tight_standing_aggregator κs a z z' e e' p q = one_part _ _ z z' p q

pub tight_count_merged_as_path : (κs : _) (a : _) (z z' : _) (e e' : _) → count_merged_as_path.Learnt κs a z e → count_merged_as_path.Learnt κs a z' e' → z ≡ z'
tight_count_merged_as_path κs a z z' e e' p q = p ∙ sym q

-- the answer, the pairs and the numbers
pub tight_merge_as_path : (κs : _) (a : _) (z z' : _) (e e' : _) → merge_as_path.Learnt κs a z e → merge_as_path.Learnt κs a z' e'
    → (z ≡ z') × (e.1.1.1.1.0.now ≡ e'.1.1.1.1.0.now) × (e.1.1.1.1.1.0.now ≡ e'.1.1.1.1.1.0.now)
tight_merge_as_path κs a z z' e e' p q = (p.0 ∙ sym q.0, p.1.0 ∙ sym q.1.0, p.1.1 ∙ sym q.1.1)
