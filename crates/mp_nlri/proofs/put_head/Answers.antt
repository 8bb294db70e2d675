use native.Mathlib.Omega.{arith}
use lib.ListN.{length}
use Rattle.mp_nlri.proofs.ValueLaws.{hop_few}
use Rattle.mp_nlri.proofs.WriteLaws.{head_size_lem, head_put}
use Rattle.mp_nlri.proofs.put_head.Goals as goal

pub overflow_cast-n : goal.overflow_cast-n
overflow_cast-n c = omega (arith, hop_few (length c.args.next_hop.now) c.requires.0)

pub overflow_add-n : goal.overflow_add-n
overflow_add-n c = omega (arith, hop_few (length c.args.next_hop.now) c.requires.0)

pub put_hop-requires : goal.put_hop-requires
put_hop-requires c = (c.requires.0, omega (arith, c.requires.1, head_size_lem c.args.next_hop.now))

pub returns : goal.returns
returns c = head_put c.args.out.now _ _ _ c.args.next_hop.now c.requires.0 c.requires.1 c.put_u32.ensures c.put_hop.ensures c.put_octets.ensures
