-- Two results that the promise of a call allows are equal, and so is what it leaves: of the ensures clauses themselves.
use mathlib.Core.Path.{◌≡◌, sym, ap, ◌∙◌}
use Rattle.wire.specs.Answer.{filled, count_meaning}
use Rattle.wire.proofs.ExtentLaws.{one_part}
use Rattle.mp_nlri.specs.Value.{reach_bytes, unreach_bytes}
use Rattle.mp_nlri.specs.Read.{reach_after, unreach_after}
use Rattle.mp_nlri.specs.Write.{route_bytes}
use Rattle.mp_nlri.proofs.mp_reach_head.Reads as mp_reach_head
use Rattle.mp_nlri.proofs.next_hop_part.Reads as next_hop_part
use Rattle.mp_nlri.proofs.count_mp_reach_nlri.Reads as count_mp_reach_nlri
use Rattle.mp_nlri.proofs.parse_mp_reach_nlri.Reads as parse_mp_reach_nlri
use Rattle.mp_nlri.proofs.count_mp_unreach_nlri.Reads as count_mp_unreach_nlri
use Rattle.mp_nlri.proofs.parse_mp_unreach_nlri.Reads as parse_mp_unreach_nlri
use Rattle.mp_nlri.proofs.encode_mp_reach_nlri.Reads as encode_mp_reach_nlri
use Rattle.mp_nlri.proofs.encode_mp_unreach_nlri.Reads as encode_mp_unreach_nlri

pub tight_mp_reach_head : (κs : _) (a : _) (z z' : _) (e e' : _) → mp_reach_head.Learnt κs a z e → mp_reach_head.Learnt κs a z' e' → z ≡ z'
tight_mp_reach_head κs a z z' e e' p q = p ∙ sym q

-- what the next hop holds, and where it lies
pub tight_next_hop_part : (κs : _) (a : _) (z z' : _) (e e' : _) → next_hop_part.Learnt κs a z e → next_hop_part.Learnt κs a z' e' → (z.now ≡ z'.now) × (z.ref_ptr ≡ z'.ref_ptr)
tight_next_hop_part κs a z z' e e' p q = one_part _ _ z z' p q

pub tight_count_mp_reach_nlri : (κs : _) (a : _) (z z' : _) (e e' : _) → count_mp_reach_nlri.Learnt κs a z e → count_mp_reach_nlri.Learnt κs a z' e' → z ≡ z'
tight_count_mp_reach_nlri κs a z z' e e' p q = p ∙ sym q

-- what each of those after this leaves goes by the answer
pub tight_parse_mp_reach_nlri : (κs : _) (a : _) (z z' : _) (e e' : _) → parse_mp_reach_nlri.Learnt κs a z e → parse_mp_reach_nlri.Learnt κs a z' e' → (z ≡ z') × (e.1.1.0.now ≡ e'.1.1.0.now)
tight_parse_mp_reach_nlri κs a z z' e e' p q =
    let same : z ≡ z' = p.0 ∙ sym q.0 in
    (same, p.1 ∙ ap (λ x. reach_after x a.0.now a.1.0 a.1.1.0.now) same ∙ sym q.1)

pub tight_count_mp_unreach_nlri : (κs : _) (a : _) (z z' : _) (e e' : _) → count_mp_unreach_nlri.Learnt κs a z e → count_mp_unreach_nlri.Learnt κs a z' e' → z ≡ z'
tight_count_mp_unreach_nlri κs a z z' e e' p q = p ∙ sym q

pub tight_parse_mp_unreach_nlri : (κs : _) (a : _) (z z' : _) (e e' : _) → parse_mp_unreach_nlri.Learnt κs a z e → parse_mp_unreach_nlri.Learnt κs a z' e' → (z ≡ z') × (e.1.1.0.now ≡ e'.1.1.0.now)
tight_parse_mp_unreach_nlri κs a z z' e e' p q =
    let same : z ≡ z' = p.0 ∙ sym q.0 in
    (same, p.1 ∙ ap (λ x. unreach_after x a.0.now a.1.0 a.1.1.0.now) same ∙ sym q.1)

pub tight_encode_mp_reach_nlri : (κs : _) (a : _) (z z' : _) (e e' : _) → encode_mp_reach_nlri.Learnt κs a z e → encode_mp_reach_nlri.Learnt κs a z' e' → (z ≡ z') × (e.1.1.1.0.now ≡ e'.1.1.1.0.now)
tight_encode_mp_reach_nlri κs a z z' e e' p q =
    let same : z ≡ z' = p.0 ∙ sym q.0 in
    (same, p.1 ∙ ap (λ x. filled (count_meaning x) (reach_bytes a.0.now (route_bytes a.1.0.now a.1.1.0)) a.1.1.1.0.now) same ∙ sym q.1)

pub tight_encode_mp_unreach_nlri : (κs : _) (a : _) (z z' : _) (e e' : _) → encode_mp_unreach_nlri.Learnt κs a z e → encode_mp_unreach_nlri.Learnt κs a z' e' → (z ≡ z') × (e.1.1.0.now ≡ e'.1.1.0.now)
tight_encode_mp_unreach_nlri κs a z z' e e' p q =
    let same : z ≡ z' = p.0 ∙ sym q.0 in
    (same, p.1 ∙ ap (λ x. filled (count_meaning x) (unreach_bytes (route_bytes a.0.now a.1.0)) a.1.1.0.now) same ∙ sym q.1)
