-- Two results that the promise of a call allows are equal, and so is what it leaves: of the ensures clauses themselves.
use mathlib.Core.Path.{◌≡◌, sym, ◌∙◌}
use Rattle.path_writer.proofs.encode_as_path.Reads as encode_as_path

pub tight_encode_as_path : (κs : _) (a : _) (z z' : _) (e e' : _) → encode_as_path.Learnt κs a z e → encode_as_path.Learnt κs a z' e'
    → (z ≡ z') × (e.1.1.1.1.0.now ≡ e'.1.1.1.1.0.now)
tight_encode_as_path κs a z z' e e' p q = (p.0 ∙ sym q.0, p.1 ∙ sym q.1)
