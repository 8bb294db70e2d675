-- Two results that the promise of a call allows are equal, and so is what it leaves: of the ensures clauses themselves.
use mathlib.Core.Path.{◌≡◌, sym, ap, ◌∙◌}
use mathlib.Core.List.{List}
use Prim.Native.Nat.{ℕ}
use Rattle.std.specs.Prelude.{Result}
use Rattle.wire.specs.Answer.{count_meaning}
use Rattle.wire.specs.declared.refusal.Refusal.{Refusal}
use Rattle.families.specs.Family.{max_of}
use Rattle.route_bytes.specs.Encode.{bytes_of}
use Rattle.route_writer.specs.Promises.{filled_after}
use Rattle.route_writer.specs.Pair.{lists_meaning, write_pair_after}
use Rattle.route_writer.specs.declared.Lists.{Lists}
use Rattle.route_writer.proofs.encode_nlri_after.Reads as encode_nlri_after
use Rattle.route_writer.proofs.encode_nlri_prefixes.Reads as encode_nlri_prefixes
use Rattle.route_writer.proofs.encode_nlri_pair.Reads as encode_nlri_pair

-- what it leaves goes by the answer
pub tight_encode_nlri_after : (κs : _) (a : _) (z z' : _) (e e' : _) → encode_nlri_after.Learnt κs a z e → encode_nlri_after.Learnt κs a z' e'
    → (z ≡ z') × (e.1.1.1.1.0.now ≡ e'.1.1.1.1.0.now)
tight_encode_nlri_after κs a z z' e e' p q =
    let same = p.0 ∙ sym q.0 in
    let left : Result ℕ Refusal → List ℕ = λ x. filled_after (count_meaning x) a.0 (bytes_of a.1.0.now (max_of a.1.1.0) a.1.1.1.0) a.1.1.1.1.0.now in
    (same, p.1 ∙ ap left same ∙ sym q.1)

pub tight_encode_nlri_prefixes : (κs : _) (a : _) (z z' : _) (e e' : _) → encode_nlri_prefixes.Learnt κs a z e → encode_nlri_prefixes.Learnt κs a z' e'
    → (z ≡ z') × (e.1.1.1.0.now ≡ e'.1.1.1.0.now)
tight_encode_nlri_prefixes κs a z z' e e' p q = (p.0 ∙ sym q.0, p.1 ∙ sym q.1)

-- as here
pub tight_encode_nlri_pair : (κs : _) (a : _) (z z' : _) (e e' : _) → encode_nlri_pair.Learnt κs a z e → encode_nlri_pair.Learnt κs a z' e'
    → (z ≡ z') × (e.1.1.1.1.1.1.1.0.now ≡ e'.1.1.1.1.1.1.1.0.now)
tight_encode_nlri_pair κs a z z' e e' p q =
    let same = p.0 ∙ sym q.0 in
    let max = max_of a.1.1.0 in
    let form = a.1.1.1.0 in
    let left : Result Lists Refusal → List ℕ = λ x.
    write_pair_after (lists_meaning x) a.1.1.1.1.0 a.1.1.1.1.1.0 (bytes_of a.0.now max form) (bytes_of a.1.0.now max form) a.1.1.1.1.1.1.1.0.now in
    (same, p.1 ∙ ap left same ∙ sym q.1)
