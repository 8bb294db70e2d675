-- Two results that the promise of a call allows are equal, and so is what it leaves: of the ensures clauses themselves.
use mathlib.Core.Path.{◌≡◌, sym, ap, ◌∙◌}
use Rattle.wire.specs.Answer.{filled, count_meaning}
use Rattle.update_writer.specs.Body.{body_bytes}
use Rattle.update_writer.proofs.encode_bgp_update_message.Reads as encode_bgp_update_message

-- the answer, and the output
pub tight_encode_bgp_update_message : (κs : _) (a : _) (z z' : _) (e e' : _) → encode_bgp_update_message.Learnt κs a z e → encode_bgp_update_message.Learnt κs a z' e'
    → (z ≡ z') × (e.1.1.1.1.0.now ≡ e'.1.1.1.1.0.now)
tight_encode_bgp_update_message κs a z z' e e' p q =
    let same : z ≡ z' = p.0 ∙ sym q.0 in
    (same, p.1 ∙ ap (λ r. filled (count_meaning r) (body_bytes a.0.now a.1.0.now a.1.1.0.now a.1.1.1.0) a.1.1.1.1.0.now) same ∙ sym q.1)
