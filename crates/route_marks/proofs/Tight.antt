-- Two results that the promise of a call allows are equal, and so is what it leaves: of the ensures clauses themselves.
use mathlib.Core.Path.{◌≡◌, sym, ◌∙◌}
use Rattle.route_marks.proofs.clear_guessed.Reads as clear_guessed

pub tight_clear_guessed : (κs : _) (a : _) (z z' : _) (e e' : _) → clear_guessed.Learnt κs a z e → clear_guessed.Learnt κs a z' e' → (z ≡ z') × (e.0.now ≡ e'.0.now)
tight_clear_guessed κs a z z' e e' p q = (p.0 ∙ sym q.0, p.1 ∙ sym q.1)
