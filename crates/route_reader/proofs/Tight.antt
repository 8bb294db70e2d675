-- Two results that the promise of a call allows are equal, and so is what it leaves: of the ensures clauses themselves.
use mathlib.Core.Path.{◌≡◌, sym, ap, ◌∙◌}
use Rattle.std.specs.Prelude.{Result}
use Rattle.wire.specs.declared.refusal.Refusal.{Refusal}
use Rattle.families.specs.Family.{max_of}
use Rattle.routes.specs.List.{section_of}
use Rattle.route_reader.specs.Pair.{read_pair_first, read_pair_second}
use Rattle.route_reader.specs.declared.Sections.{Sections}
use Rattle.route_reader.proofs.parse_nlri_list.Reads as parse_nlri_list
use Rattle.route_reader.proofs.read_nlri.Reads as read_nlri
use Rattle.route_reader.proofs.read_nlri_pair.Reads as read_nlri_pair

pub tight_parse_nlri_list : (κs : _) (a : _) (z z' : _) (e e' : _) → parse_nlri_list.Learnt κs a z e → parse_nlri_list.Learnt κs a z' e'
    → (z ≡ z') × (e.1.1.1.0.now ≡ e'.1.1.1.0.now)
tight_parse_nlri_list κs a z z' e e' p q = (p.0 ∙ sym q.0, p.1 ∙ sym q.1)

pub tight_read_nlri : (κs : _) (a : _) (z z' : _) (e e' : _) → read_nlri.Learnt κs a z e → read_nlri.Learnt κs a z' e' → (z ≡ z') × (e.1.1.1.0.now ≡ e'.1.1.1.0.now)
tight_read_nlri κs a z z' e e' p q = (p.0 ∙ sym q.0, p.1 ∙ sym q.1)

-- both stores, whose clauses are by the answer
pub tight_read_nlri_pair : (κs : _) (a : _) (z z' : _) (e e' : _) → read_nlri_pair.Learnt κs a z e → read_nlri_pair.Learnt κs a z' e'
    → (z ≡ z') × (e.1.1.1.1.0.now ≡ e'.1.1.1.1.0.now) × (e.1.1.1.1.1.0.now ≡ e'.1.1.1.1.1.0.now)
tight_read_nlri_pair κs a z z' e e' p q =
    let max = max_of a.1.1.0 in
    let mode = a.1.1.1.0 in
    let same = p.0 ∙ sym q.0 in (
      same,
      p.1.0 ∙ ap (λ (r : Result Sections Refusal). read_pair_first r (section_of a.0.now max mode) a.1.1.1.1.0.now) same ∙ sym q.1.0,
      p.1.1 ∙ ap (λ (r : Result Sections Refusal). read_pair_second r (section_of a.1.0.now max mode) a.1.1.1.1.1.0.now) same ∙ sym q.1.1,
    )
