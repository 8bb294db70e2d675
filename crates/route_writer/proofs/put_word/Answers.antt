use mathlib.Core.Path.{refl, ap, ◌∙◌}
use mathlib.Core.List.{List, ◌++◌}
use Prim.Native.Nat.{ℕ, ◌+◌, ◌-◌}
use native.Mathlib.Omega.{arith}
use lib.ListN.{get_or, take, drop}
use Rattle.wire.specs.Number.{to_be}
use Rattle.wire.proofs.StoreLaws.{laid_between}
use Rattle.route_writer.proofs.put_word.Goals as goal

pub returns : goal.returns
returns c =
    let a = c.args in
    let d = a.out.now in
    let end = a.to + 4 in
    ap (λ (l : List ℕ). take a.to d ++ (l ++ drop (end - a.to) (drop a.to d))) c.put_u32.ensures
    ∙ laid_between d a.to end (to_be 4 (get_or a.rows.now a.i 0)) refl (omega arith)
