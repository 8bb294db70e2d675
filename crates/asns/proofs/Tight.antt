-- Two results that the promise of a call allows are equal, and so is what it leaves: of the ensures clauses themselves.
use mathlib.Core.Path.{◌≡◌, sym, ◌∙◌}
use Rattle.asns.proofs.asn_bytes.Reads as asn_bytes
use Rattle.asns.proofs.numbers_size.Reads as numbers_size
use Rattle.asns.proofs.eight_for.Reads as eight_for
use Rattle.asns.proofs.number_at.Reads as number_at
use Rattle.asns.proofs.fits_width.Reads as fits_width
use Rattle.asns.proofs.put_number.Reads as put_number
use Rattle.asns.proofs.parse_aggregator.Reads as parse_aggregator
use Rattle.asns.proofs.encode_aggregator.Reads as encode_aggregator

pub tight_asn_bytes : (κs : _) (a : _) (z z' : _) (e e' : _) → asn_bytes.Learnt κs a z e → asn_bytes.Learnt κs a z' e' → z ≡ z'
tight_asn_bytes κs a z z' e e' p q = p ∙ sym q

pub tight_numbers_size : (κs : _) (a : _) (z z' : _) (e e' : _) → numbers_size.Learnt κs a z e → numbers_size.Learnt κs a z' e' → z ≡ z'
tight_numbers_size κs a z z' e e' p q = p ∙ sym q

pub tight_eight_for : (κs : _) (a : _) (z z' : _) (e e' : _) → eight_for.Learnt κs a z e → eight_for.Learnt κs a z' e' → z ≡ z'
tight_eight_for κs a z z' e e' p q = p ∙ sym q

pub tight_number_at : (κs : _) (a : _) (z z' : _) (e e' : _) → number_at.Learnt κs a z e → number_at.Learnt κs a z' e' → z ≡ z'
tight_number_at κs a z z' e e' p q = p ∙ sym q

pub tight_fits_width : (κs : _) (a : _) (z z' : _) (e e' : _) → fits_width.Learnt κs a z e → fits_width.Learnt κs a z' e' → z ≡ z'
tight_fits_width κs a z z' e e' p q = p ∙ sym q

pub tight_put_number : (κs : _) (a : _) (z z' : _) (e e' : _) → put_number.Learnt κs a z e → put_number.Learnt κs a z' e' → e.0.now ≡ e'.0.now
tight_put_number κs a z z' e e' p q = p ∙ sym q

pub tight_parse_aggregator : (κs : _) (a : _) (z z' : _) (e e' : _) → parse_aggregator.Learnt κs a z e → parse_aggregator.Learnt κs a z' e' → z ≡ z'
tight_parse_aggregator κs a z z' e e' p q = p ∙ sym q

pub tight_encode_aggregator : (κs : _) (a : _) (z z' : _) (e e' : _) → encode_aggregator.Learnt κs a z e → encode_aggregator.Learnt κs a z' e' → (z ≡ z') × (e.1.1.1.0.now ≡ e'.1.1.1.0.now)
tight_encode_aggregator κs a z z' e e' p q = (p.0 ∙ sym q.0, p.1 ∙ sym q.1)
