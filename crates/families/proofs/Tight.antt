-- Two results that the promise of a call allows are equal, and so is what it leaves: of the ensures clauses themselves.
use mathlib.Core.Path.{◌≡◌, sym, ◌∙◌}
use lib.ListN.{length}
use Rattle.families.proofs.id_size.Reads as id_size
use Rattle.families.proofs.mark_of.Reads as mark_of
use Rattle.families.proofs.guess_mark.Reads as guess_mark
use Rattle.families.proofs.octet_count.Reads as octet_count
use Rattle.families.proofs.AddPathFromU8.from.Reads as add_path
use Rattle.families.proofs.octets.counts.Reads as counts
use Rattle.families.proofs.octets.put_counts.Reads as put_counts
use Rattle.families.proofs.octets.after.Reads as after

pub tight_id_size : (κs : _) (a : _) (z z' : _) (e e' : _) → id_size.Learnt κs a z e → id_size.Learnt κs a z' e' → z ≡ z'
tight_id_size κs a z z' e e' p q = p ∙ sym q

pub tight_mark_of : (κs : _) (a : _) (z z' : _) (e e' : _) → mark_of.Learnt κs a z e → mark_of.Learnt κs a z' e' → z ≡ z'
tight_mark_of κs a z z' e e' p q = p ∙ sym q

pub tight_guess_mark : (κs : _) (a : _) (z z' : _) (e e' : _) → guess_mark.Learnt κs a z e → guess_mark.Learnt κs a z' e' → z ≡ z'
tight_guess_mark κs a z z' e e' p q = p ∙ sym q

pub tight_octet_count : (κs : _) (a : _) (z z' : _) (e e' : _) → octet_count.Learnt κs a z e → octet_count.Learnt κs a z' e' → z ≡ z'
tight_octet_count κs a z z' e e' p q = p ∙ sym q

pub tight_add_path : (κs : _) (a : _) (z z' : _) (e e' : _) → add_path.Learnt κs a z e → add_path.Learnt κs a z' e' → z ≡ z'
tight_add_path κs a z z' e e' p q = p ∙ sym q

pub tight_counts : (κs : _) (a : _) (z z' : _) (e e' : _) → counts.Learnt κs a z e → counts.Learnt κs a z' e' → z ≡ z'
tight_counts κs a z z' e e' p q = p ∙ sym q

-- of an array of 256 entries, as its type has it
pub tight_put_counts : (κs : _) (a : _) (z z' : _) (e e' : _) → put_counts.Learnt κs a z e → put_counts.Learnt κs a z' e' → length a.1.0.now ≡ 256 → e.1.0.now ≡ e'.1.0.now
tight_put_counts κs a z z' e e' p q long = p long ∙ sym (q long)

pub tight_after : (κs : _) (a : _) (z z' : _) (e e' : _) → after.Learnt κs a z e → after.Learnt κs a z' e' → z ≡ z'
tight_after κs a z z' e e' p q = p ∙ sym q
