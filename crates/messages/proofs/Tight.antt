-- Two results that the promise of a call allows are equal, and so is what it leaves: of the ensures clauses themselves.
use mathlib.Core.Path.{◌≡◌, sym, ◌∙◌}
use Rattle.wire.proofs.ExtentLaws.{one_part}
use Rattle.messages.proofs.parse_bgp_message.Reads as parse_bgp_message
use Rattle.messages.proofs.parse_bgp_message_strict.Reads as parse_bgp_message_strict
use Rattle.messages.proofs.message_body.Reads as message_body
use Rattle.messages.proofs.message_body_strict.Reads as message_body_strict
use Rattle.messages.proofs.encode_bgp_message.Reads as encode_bgp_message
use Rattle.messages.proofs.kind.U8FromKind.from.Reads as kind_number
use Rattle.messages.proofs.kind.KindTryFromU8.try_from.Reads as kind_read

pub tight_parse_bgp_message : (κs : _) (a : _) (z z' : _) (e e' : _) → parse_bgp_message.Learnt κs a z e → parse_bgp_message.Learnt κs a z' e' → z ≡ z'
tight_parse_bgp_message κs a z z' e e' p q = p ∙ sym q

pub tight_parse_bgp_message_strict : (κs : _) (a : _) (z z' : _) (e e' : _) → parse_bgp_message_strict.Learnt κs a z e → parse_bgp_message_strict.Learnt κs a z' e' → z ≡ z'
tight_parse_bgp_message_strict κs a z z' e e' p q = p ∙ sym q

-- what the body holds, and where it lies
pub tight_message_body : (κs : _) (a : _) (z z' : _) (e e' : _) → message_body.Learnt κs a z e → message_body.Learnt κs a z' e' → (z.now ≡ z'.now) × (z.ref_ptr ≡ z'.ref_ptr)
tight_message_body κs a z z' e e' p q = one_part _ _ z z' p q

pub tight_message_body_strict : (κs : _) (a : _) (z z' : _) (e e' : _) → message_body_strict.Learnt κs a z e → message_body_strict.Learnt κs a z' e'
    → (z.now ≡ z'.now) × (z.ref_ptr ≡ z'.ref_ptr)
tight_message_body_strict κs a z z' e e' p q = one_part _ _ z z' p q

-- the answer, and the output
pub tight_encode_bgp_message : (κs : _) (a : _) (z z' : _) (e e' : _) → encode_bgp_message.Learnt κs a z e → encode_bgp_message.Learnt κs a z' e'
    → (z ≡ z') × (e.1.1.0.now ≡ e'.1.1.0.now)
tight_encode_bgp_message κs a z z' e e' p q = (p.0 ∙ sym q.0, p.1 ∙ sym q.1)

-- the number of a type, and the type of a number
pub tight_kind_number : (κs : _) (a : _) (z z' : _) (e e' : _) → kind_number.Learnt κs a z e → kind_number.Learnt κs a z' e' → z ≡ z'
tight_kind_number κs a z z' e e' p q = p ∙ sym q

pub tight_kind_read : (κs : _) (a : _) (z z' : _) (e e' : _) → kind_read.Learnt κs a z e → kind_read.Learnt κs a z' e' → z ≡ z'
tight_kind_read κs a z z' e e' p q = p ∙ sym q
