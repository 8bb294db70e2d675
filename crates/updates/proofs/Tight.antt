-- Two results that the promise of a call allows are equal, and so is what it leaves: of the ensures clauses themselves.
use mathlib.Core.Path.{◌≡◌, sym, ap, ◌∙◌}
use Rattle.wire.proofs.ExtentLaws.{one_part}
use Rattle.updates.specs.Update.{withdrawn_after, announced_after}
use Rattle.updates.proofs.update_parts.Reads as update_parts
use Rattle.updates.proofs.withdrawn_part.Reads as withdrawn_part
use Rattle.updates.proofs.attribute_part.Reads as attribute_part
use Rattle.updates.proofs.announced_part.Reads as announced_part
use Rattle.updates.proofs.count_bgp_update_message.Reads as count_bgp_update_message
use Rattle.updates.proofs.parse_bgp_update_message.Reads as parse_bgp_update_message

pub tight_update_parts : (κs : _) (a : _) (z z' : _) (e e' : _) → update_parts.Learnt κs a z e → update_parts.Learnt κs a z' e' → z ≡ z'
tight_update_parts κs a z z' e e' p q = p ∙ sym q

-- what each section holds, and where it lies
pub tight_withdrawn_part : (κs : _) (a : _) (z z' : _) (e e' : _) → withdrawn_part.Learnt κs a z e → withdrawn_part.Learnt κs a z' e' → (z.now ≡ z'.now) × (z.ref_ptr ≡ z'.ref_ptr)
tight_withdrawn_part κs a z z' e e' p q = one_part _ _ z z' p q

pub tight_attribute_part : (κs : _) (a : _) (z z' : _) (e e' : _) → attribute_part.Learnt κs a z e → attribute_part.Learnt κs a z' e' → (z.now ≡ z'.now) × (z.ref_ptr ≡ z'.ref_ptr)
tight_attribute_part κs a z z' e e' p q = one_part _ _ z z' p q

pub tight_announced_part : (κs : _) (a : _) (z z' : _) (e e' : _) → announced_part.Learnt κs a z e → announced_part.Learnt κs a z' e' → (z.now ≡ z'.now) × (z.ref_ptr ≡ z'.ref_ptr)
tight_announced_part κs a z z' e e' p q = one_part _ _ z z' p q

pub tight_count_bgp_update_message : (κs : _) (a : _) (z z' : _) (e e' : _) → count_bgp_update_message.Learnt κs a z e → count_bgp_update_message.Learnt κs a z' e' → z ≡ z'
tight_count_bgp_update_message κs a z z' e e' p q = p ∙ sym q

-- the answer, and both stores
pub tight_parse_bgp_update_message : (κs : _) (a : _) (z z' : _) (e e' : _) → parse_bgp_update_message.Learnt κs a z e → parse_bgp_update_message.Learnt κs a z' e'
    → (z ≡ z') × ((e.1.1.0.now ≡ e'.1.1.0.now) × (e.1.1.1.0.now ≡ e'.1.1.1.0.now))
tight_parse_bgp_update_message κs a z z' e e' p q =
    let same : z ≡ z' = p.0 ∙ sym q.0 in (
      same,
      (
        p.1.0 ∙ ap (λ u. withdrawn_after u a.0.now a.1.0 a.1.1.0.now) same ∙ sym q.1.0,
        p.1.1 ∙ ap (λ u. announced_after u a.0.now a.1.0 a.1.1.1.0.now) same ∙ sym q.1.1,
      ),
    )
