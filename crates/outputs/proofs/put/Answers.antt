use Rattle.std.proofs.Common.{◌+◌, ◌<◌, length, sym, ◌∙◌, arith}
use Rattle.std.proofs.lemmas.Slice.{put_mid-paste}
use Rattle.wire.proofs.StoreLaws.{placed_fits, placed_not, paste_laid}
use Rattle.outputs.proofs.put.Goals as goal
use Rattle.outputs.proofs.put.Goals.{then-out-to-via-then-out-to, then-out-to-via-else-out-to+then-out-to-2}

pub returns-then-out-to : goal.returns-then-out-to
returns-then-out-to g c =
    let over : length c.args.out.now < c.args.to + length c.args.bytes.now =
    elim c.then-out-to.branch [
      | then-out-to-via-then-out-to w ↦ omega (arith, w.if-out-to.true)
      | then-out-to-via-else-out-to+then-out-to-2 w ↦ omega (arith, w.if-out-to-2.true, c.told-bytes)
    ] in
    sym (placed_not c.args.out.now c.args.to c.args.bytes.now over)

pub returns : goal.returns
returns g c =
    let a = c.args in
    put_mid-paste a.to _ a.out.now _ a.bytes.now (length a.bytes.now) c.put_each.ensures (omega (arith, c.told-bytes)) (omega arith)
    ∙ paste_laid a.out.now a.to a.bytes.now
    ∙ sym (placed_fits a.out.now a.to a.bytes.now (omega (arith, c.told-bytes, c.if-out-to.false, c.if-out-to-2.false)))
