-- Two results that the promise of a call allows are equal, and so is what it leaves: of the ensures clauses themselves.
use Rattle.std.proofs.Common.{◌≡◌, sym, ◌∙◌}
use Rattle.route_bytes.proofs.measure_nlri_prefixes.Reads as measure_nlri_prefixes

pub tight_measure_nlri_prefixes : (κs : _) (a : _) (z z' : _) (e e' : _) → measure_nlri_prefixes.Learnt κs a z e → measure_nlri_prefixes.Learnt κs a z' e' → z ≡ z'
tight_measure_nlri_prefixes κs a z z' e e' p q = p ∙ sym q
