-- Two results that the promise of a call allows are equal, and so is what it leaves: of the ensures clauses themselves.
use mathlib.Core.Path.{◌≡◌, sym, ◌∙◌}
use Rattle.wire.proofs.ExtentLaws.{one_part}
use Rattle.wire.proofs.octet.Reads as octet
use Rattle.wire.proofs.u16_at.Reads as u16_at
use Rattle.wire.proofs.u32_at.Reads as u32_at
use Rattle.wire.proofs.part.Reads as part
use Rattle.wire.proofs.refusal.U8FromRefusal.from.Reads as refusal_number

pub tight_octet : (κs : _) (a : _) (z z' : _) (e e' : _) → octet.Learnt κs a z e → octet.Learnt κs a z' e' → z ≡ z'
tight_octet κs a z z' e e' p q = p ∙ sym q

pub tight_u16_at : (κs : _) (a : _) (z z' : _) (e e' : _) → u16_at.Learnt κs a z e → u16_at.Learnt κs a z' e' → z ≡ z'
tight_u16_at κs a z z' e e' p q = p ∙ sym q

pub tight_u32_at : (κs : _) (a : _) (z z' : _) (e e' : _) → u32_at.Learnt κs a z e → u32_at.Learnt κs a z' e' → z ≡ z'
tight_u32_at κs a z z' e e' p q = p ∙ sym q

-- what the part holds, and where it lies
pub tight_part : (κs : _) (a : _) (z z' : _) (e e' : _) → part.Learnt κs a z e → part.Learnt κs a z' e' → (z.now ≡ z'.now) × (z.ref_ptr ≡ z'.ref_ptr)
tight_part κs a z z' e e' p q = one_part _ _ z z' p q

-- the number of a reason
pub tight_refusal_number : (κs : _) (a : _) (z z' : _) (e e' : _) → refusal_number.Learnt κs a z e → refusal_number.Learnt κs a z' e' → z ≡ z'
tight_refusal_number κs a z z' e e' p q = p ∙ sym q
