use Rattle.std.proofs.Common.{ℕ, take, sym, ap, ◌∙◌}
use Rattle.wire.specs.Number.{to_be}
use Rattle.wire.specs.Store.{placed}
use Rattle.wire.proofs.StoreLaws.{placed_nil}
use Rattle.outputs.proofs.put_octets.Goals as goal

pub returns-in-0 : goal.returns-in-0
returns-in-0 c =
    let a = c.args in
    sym (ap (λ (m : ℕ). placed a.out.now a.to (take m (to_be 4 a.v))) c.in-0.is ∙ placed_nil a.out.now a.to)
