use Prim.Native.Nat.{◌+◌}
use Rattle.families.specs.Private.{eight}
use Rattle.families.proofs.CopyLaws.{copied_on}
use Rattle.families.proofs.octets.put_sixteen.Goals as goal

pub returns : goal.returns
returns c =
    let a = c.args in
    copied_on a.table.now a.out.now _ _ (eight a.at) (eight (a.at + 4)) c.put_eight.ensures c.put_eight-2.ensures
