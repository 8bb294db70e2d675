use native.Mathlib.Omega.{arith}
use mathlib.Core.Path.{sym}
use Rattle.mp_nlri.proofs.ValueLaws.{head_good, hop_told}
use Rattle.mp_nlri.proofs.next_hop_part.Goals as goal

pub returns-in-Ok : goal.returns-in-Ok
returns-in-Ok c =
    let s = c.args.value in
    hop_told s _ _ c.in-Ok.ensures (omega (arith, (head_good s.now _ _ (sym c.in-Ok.ensures)).whole)) c.part.ensures

pub returns-in-Err : goal.returns-in-Err
returns-in-Err c = hop_told c.args.value _ _ c.in-Err.ensures (omega arith) c.part-in-Err.ensures
