use Rattle.std.proofs.Common.{◌+◌, ◌-◌, ◌*◌, length, ◌∙◌, arith}
use Rattle.copies.proofs.Blocks.{block_next, block_last}
use Rattle.copies.proofs.copy_blocks.Goals as goal

pub loop-i-preserved : goal.loop-i-preserved
loop-i-preserved c =
    let l = c.loop-i in
    let at = 8 * l.i in
    block_next 8 at at l.out c.args.src.now (l.auto.out ∙ c.requires.0) (omega arith) l.invariant _ c.copy_block.ensures (8 * (l.i + 1)) (omega arith)
    (omega (arith, c.requires.1, c.loop-i-test.true))

pub returns : goal.returns
returns c =
    let l = c.loop-i in
    block_last 8 (8 * l.i) (length c.args.src.now - 8) l.out c.args.src.now (l.auto.out ∙ c.requires.0) (omega (arith, c.loop-i-test.false)) l.invariant _ c.copy_block-2.ensures
    (omega (arith, c.requires.1))
