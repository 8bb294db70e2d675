use Rattle.slot_table.proofs.LineLaws.{digits_left, digits_turn, digits_first, drop_set}
use Rattle.std.proofs.Common.{suc, ◌+◌, drop, sym, refl, ◌∙◌, arith, length-set}
use Rattle.slot_table.proofs.spell.Goals as goal

pub loop-left-init : goal.loop-left-init
loop-left-init c = (c.requires, omega arith, omega arith, refl)

pub overflow_sub-at : goal.overflow_sub-at
overflow_sub-at c = let l = c.loop-left in (digits_left l.at l.left c.loop-left-test.true l.invariant.2).0

pub loop-left-smaller : goal.loop-left-smaller
loop-left-smaller c = let l = c.loop-left in let p = (digits_left l.at l.left c.loop-left-test.true l.invariant.2).0 in omega arith

pub loop-left-preserved : goal.loop-left-preserved
loop-left-preserved c =
    let l = c.loop-left in
    let p = digits_left l.at l.left c.loop-left-test.true l.invariant.2 in (
      length-set l.text _ _ ∙ l.invariant.0,
      omega (arith, l.invariant.1),
      p.1,
      digits_turn l.text l.at l.left (omega (arith, l.invariant.0, l.invariant.1)) p.0 c.loop-left-test.true ∙ l.invariant.3,
    )

pub shape_of-text : goal.shape_of-text
shape_of-text c = let l = c.loop-left in length-set l.text l.at (48 + l.left) ∙ l.invariant.0 ∙ sym c.requires

pub returns : goal.returns
returns c =
    let l = c.loop-left in (
      drop_set l.text l.at (48 + l.left) (omega (arith, l.invariant.0, l.invariant.1))
          ∙ sym (digits_first l.at l.left (drop (suc l.at) l.text) (omega arith))
          ∙ l.invariant.3,
      omega (arith, l.invariant.1),
    )
