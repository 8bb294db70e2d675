-- Two results that the promise of a call allows are equal, and so is what it leaves: of the ensures clauses themselves.
use mathlib.Core.Path.{◌≡◌, sym, ◌∙◌}
use Rattle.copies.proofs.copy_at.Reads as copy_at
use Rattle.copies.proofs.to_front.Reads as to_front

pub tight_copy_at : (κs : _) (a : _) (z z' : _) (e e' : _) → copy_at.Learnt κs a z e → copy_at.Learnt κs a z' e' → e.0.now ≡ e'.0.now
tight_copy_at κs a z z' e e' p q = p ∙ sym q

pub tight_to_front : (κs : _) (a : _) (z z' : _) (e e' : _) → to_front.Learnt κs a z e → to_front.Learnt κs a z' e' → e.0.now ≡ e'.0.now
tight_to_front κs a z z' e e' p q = p ∙ sym q
