use native.Mathlib.Omega.{arith}
use Prim.Native.Nat.{◌≤◌}
use lib.ListN.{length}
use Rattle.mp_nlri.proofs.ValueLaws.{hop_cases}
use Rattle.mp_nlri.proofs.WriteLaws.{hop_one, hop_two}
use Rattle.mp_nlri.proofs.put_hop.Goals as goal

pub slice_bounds-copy_at-end : goal.slice_bounds-copy_at-end
slice_bounds-copy_at-end c = omega (arith, hop_cases (λ k. 16 ≤ k) (length c.args.next_hop.now) c.requires.0 (omega arith) (omega arith))

pub returns-then-next_hop-ne32 : goal.returns-then-next_hop-ne32
returns-then-next_hop-ne32 c = hop_one c.args.out.now _ c.args.next_hop.now c.requires.0 c.if-next_hop-ne32.true c.copy_at.ensures

pub returns : goal.returns
returns c = hop_two c.args.out.now _ _ c.args.next_hop.now c.if-next_hop-ne32.false c.requires.1 c.copy_at.ensures c.copy_at-2.ensures
