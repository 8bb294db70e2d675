use Prim.Native.Nat.{◌<◌}
use native.Mathlib.Omega.{arith}
use Rattle.as4.proofs.FrontLaws.{split_lent, split_none}
use Rattle.as4.proofs.put_split.Goals as goal

pub returns-then-front-eq0 : goal.returns-then-front-eq0
returns-then-front-eq0 c = let a = c.args in split_none a.as_path.now a.front.end a.pairs.now a.numbers.now c.if-front-eq0.true

pub put_segment-requires-clause-room : goal.put_segment-requires-clause-room
put_segment-requires-clause-room c =
    let some : 0 < c.args.front.split = omega (arith, c.if-front-eq0.false) in
    rw (split_lent c.args.as_path.now c.args.front.end c.args.front.split some) at c.requires.room

pub returns : goal.returns
returns c =
    let some : 0 < c.args.front.split = omega (arith, c.if-front-eq0.false) in
    rw (split_lent c.args.as_path.now c.args.front.end c.args.front.split some) c.put_segment.ensures
