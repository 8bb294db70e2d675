use native.Mathlib.Omega.{arith}
use lib.ListN.{length-set}
use Rattle.asns.specs.Asn.{width_of}
use Rattle.as4.proofs.PutLaws.{room_one, put_first}
use Rattle.as4.proofs.put_segment.Goals as goal

pub bounds-pairs-0 : goal.bounds-pairs-0
bounds-pairs-0 c = omega (arith, room_one c.requires.room)

pub bounds-pairs-1 : goal.bounds-pairs-1
bounds-pairs-1 c = simp length-set (omega (arith, room_one c.requires.room))

pub returns : goal.returns
returns c =
    let a = c.args in
    rw (c.from.ensures, c.from-2.ensures, c.read_asns.ensures) (put_first (width_of a.width) a.s.now a.n c.requires.there c.requires.room)
