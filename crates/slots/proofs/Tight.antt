-- Two results that the promise of a call allows are equal, and so is what it leaves: of the ensures clauses themselves.
use mathlib.Core.Path.{◌≡◌, sym, ◌∙◌}
use Rattle.slots.proofs.next_slot.Reads as next_slot

pub tight_next_slot : (κs : _) (a : _) (z z' : _) (e e' : _) → next_slot.Learnt κs a z e → next_slot.Learnt κs a z' e' → z ≡ z'
tight_next_slot κs a z z' e e' p q = p ∙ sym q
