-- Two results that the promise of a call allows are equal, and so is what it leaves: of the ensures clauses themselves.
use mathlib.Core.Path.{◌≡◌, sym, ◌∙◌}
use Rattle.paths.proofs.rule_fault.Reads as rule_fault
use Rattle.paths.proofs.segment_size.Reads as segment_size
use Rattle.paths.proofs.segment_count.Reads as segment_count
use Rattle.paths.proofs.read_asns.Reads as read_asns
use Rattle.paths.proofs.count_as_path.Reads as count_as_path
use Rattle.paths.proofs.parse_as_path.Reads as parse_as_path

pub tight_rule_fault : (κs : _) (a : _) (z z' : _) (e e' : _) → rule_fault.Learnt κs a z e → rule_fault.Learnt κs a z' e' → z ≡ z'
tight_rule_fault κs a z z' e e' p q = p ∙ sym q

pub tight_segment_size : (κs : _) (a : _) (z z' : _) (e e' : _) → segment_size.Learnt κs a z e → segment_size.Learnt κs a z' e' → z ≡ z'
tight_segment_size κs a z z' e e' p q = p ∙ sym q

pub tight_segment_count : (κs : _) (a : _) (z z' : _) (e e' : _) → segment_count.Learnt κs a z e → segment_count.Learnt κs a z' e' → z ≡ z'
tight_segment_count κs a z z' e e' p q = p ∙ sym q

pub tight_read_asns : (κs : _) (a : _) (z z' : _) (e e' : _) → read_asns.Learnt κs a z e → read_asns.Learnt κs a z' e' → e.1.1.1.0.now ≡ e'.1.1.1.0.now
tight_read_asns κs a z z' e e' p q = p ∙ sym q

pub tight_count_as_path : (κs : _) (a : _) (z z' : _) (e e' : _) → count_as_path.Learnt κs a z e → count_as_path.Learnt κs a z' e' → z ≡ z'
tight_count_as_path κs a z z' e e' p q = p ∙ sym q

-- the answer, the pairs and the numbers
pub tight_parse_as_path : (κs : _) (a : _) (z z' : _) (e e' : _) → parse_as_path.Learnt κs a z e → parse_as_path.Learnt κs a z' e' → (z ≡ z') × (e.1.1.1.0.now ≡ e'.1.1.1.0.now) × (e.1.1.1.1.0.now ≡ e'.1.1.1.1.0.now)
tight_parse_as_path κs a z z' e e' p q = (p.0 ∙ sym q.0, p.1.0 ∙ sym q.1.0, p.1.1 ∙ sym q.1.1)
