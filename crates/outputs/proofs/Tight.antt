-- Two results that the promise of a call allows are equal, and so is what it leaves: of the ensures clauses themselves.
use mathlib.Core.Path.{◌≡◌, sym, ◌∙◌}
use Rattle.outputs.proofs.put_u16.Reads as put_u16
use Rattle.outputs.proofs.put_u32.Reads as put_u32
use Rattle.outputs.proofs.put_octets.Reads as put_octets

pub tight_put_u16 : (κs : _) (a : _) (z z' : _) (e e' : _) → put_u16.Learnt κs a z e → put_u16.Learnt κs a z' e' → e.0.now ≡ e'.0.now
tight_put_u16 κs a z z' e e' p q = p ∙ sym q

pub tight_put_u32 : (κs : _) (a : _) (z z' : _) (e e' : _) → put_u32.Learnt κs a z e → put_u32.Learnt κs a z' e' → e.0.now ≡ e'.0.now
tight_put_u32 κs a z z' e e' p q = p ∙ sym q

pub tight_put_octets : (κs : _) (a : _) (z z' : _) (e e' : _) → put_octets.Learnt κs a z e → put_octets.Learnt κs a z' e' → e.0.now ≡ e'.0.now
tight_put_octets κs a z z' e e' p q = p ∙ sym q
