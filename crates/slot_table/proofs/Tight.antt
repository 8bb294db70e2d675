-- Two results that the promise of a call allows are equal, and so is what it leaves: of the ensures clauses themselves.
use Rattle.std.proofs.Common.{◌≡◌, sym, ◌∙◌}
use Rattle.slot_table.proofs.put_heading.Reads as put_heading
use Rattle.slot_table.proofs.put_ending.Reads as put_ending
use Rattle.slot_table.proofs.put_records.Reads as put_records

pub tight_put_heading : (κs : _) (a : _) (z z' : _) (e e' : _) → put_heading.Learnt κs a z e → put_heading.Learnt κs a z' e'
    → (z ≡ z') × (e.0.now ≡ e'.0.now)
tight_put_heading κs a z z' e e' p q = (p.0 ∙ sym q.0, p.1 ∙ sym q.1)

pub tight_put_ending : (κs : _) (a : _) (z z' : _) (e e' : _) → put_ending.Learnt κs a z e → put_ending.Learnt κs a z' e'
    → (z ≡ z') × (e.1.0.now ≡ e'.1.0.now)
tight_put_ending κs a z z' e e' p q = (p.0 ∙ sym q.0, p.1 ∙ sym q.1)

pub tight_put_records : (κs : _) (a : _) (z z' : _) (e e' : _) → put_records.Learnt κs a z e → put_records.Learnt κs a z' e'
    → (z ≡ z') × (e.1.1.1.0.now ≡ e'.1.1.1.0.now)
tight_put_records κs a z z' e e' p q = (p.0 ∙ sym q.0, p.1 ∙ sym q.1)
