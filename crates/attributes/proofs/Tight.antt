-- Two results that the promise of a call allows are equal, and so is what it leaves: of the ensures clauses themselves.
use mathlib.Core.Path.{◌≡◌, sym, ◌∙◌}
use Rattle.wire.proofs.ExtentLaws.{one_part}
use Rattle.attributes.proofs.attribute_at.Reads as attribute_at
use Rattle.attributes.proofs.value_at.Reads as value_at
use Rattle.attributes.proofs.find_attribute.Reads as find_attribute
use Rattle.attributes.proofs.find_value.Reads as find_value

pub tight_attribute_at : (κs : _) (a : _) (z z' : _) (e e' : _) → attribute_at.Learnt κs a z e → attribute_at.Learnt κs a z' e' → z ≡ z'
tight_attribute_at κs a z z' e e' p q = p ∙ sym q

-- what each value holds, and where it lies
pub tight_value_at : (κs : _) (a : _) (z z' : _) (e e' : _) → value_at.Learnt κs a z e → value_at.Learnt κs a z' e' → (z.now ≡ z'.now) × (z.ref_ptr ≡ z'.ref_ptr)
tight_value_at κs a z z' e e' p q = one_part _ _ z z' p q

pub tight_find_attribute : (κs : _) (a : _) (z z' : _) (e e' : _) → find_attribute.Learnt κs a z e → find_attribute.Learnt κs a z' e' → z ≡ z'
tight_find_attribute κs a z z' e e' p q = p ∙ sym q

pub tight_find_value : (κs : _) (a : _) (z z' : _) (e e' : _) → find_value.Learnt κs a z e → find_value.Learnt κs a z' e' → (z.now ≡ z'.now) × (z.ref_ptr ≡ z'.ref_ptr)
tight_find_value κs a z z' e e' p q = one_part _ _ z z' p q
