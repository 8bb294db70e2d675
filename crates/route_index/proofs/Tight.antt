-- Two results that the promise of a call allows are equal, and so is what it leaves: of the ensures clauses themselves.
use mathlib.Core.Path.{◌≡◌, sym, ◌∙◌}
use Rattle.route_index.proofs.count_index.Reads as count_index
use Rattle.route_index.proofs.build_index.Reads as build_index
use Rattle.route_index.proofs.route_at.Reads as route_at

pub tight_count_index : (κs : _) (a : _) (z z' : _) (e e' : _) → count_index.Learnt κs a z e → count_index.Learnt κs a z' e' → z ≡ z'
tight_count_index κs a z z' e e' p q = p ∙ sym q

pub tight_build_index : (κs : _) (a : _) (z z' : _) (e e' : _) → build_index.Learnt κs a z e → build_index.Learnt κs a z' e' → (z ≡ z') × (e.1.1.1.0.now ≡ e'.1.1.1.0.now)
tight_build_index κs a z z' e e' p q = (p.0 ∙ sym q.0, p.1 ∙ sym q.1)

pub tight_route_at : (κs : _) (a : _) (z z' : _) (e e' : _) → route_at.Learnt κs a z e → route_at.Learnt κs a z' e' → z ≡ z'
tight_route_at κs a z z' e e' p q = p ∙ sym q
