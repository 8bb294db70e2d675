use mathlib.Core.Path.{sym, ◌∙◌}
use native.Mathlib.Omega.{arith}
use Rattle.as4.proofs.FillTurn.{filled_start, filled_done, filled_fits, filled_passed, filled_room, filled_put}
use Rattle.as4.proofs.fill_kept.Goals as goal

pub loop-at-init : goal.loop-at-init
loop-at-init c = filled_start c.requires.good c.requires.room

pub bounds-s-1 : goal.bounds-s-1
bounds-s-1 c = omega (arith, filled_fits c.loop-at.invariant c.loop-at-test.true)

pub overflow_add-at : goal.overflow_add-at
overflow_add-at c = omega (arith, filled_fits c.loop-at.invariant c.loop-at-test.true, c.segment_size-at.ensures)

pub loop-at-preserved-then-is_confed : goal.loop-at-preserved-then-is_confed
loop-at-preserved-then-is_confed c =
    rw c.segment_size-at.ensures (filled_passed c.loop-at.invariant c.loop-at-test.true (sym c.is_confed.ensures ∙ c.if-is_confed.true))

pub put_segment-requires : goal.put_segment-requires
put_segment-requires c = record {
  there = (filled_fits c.loop-at.invariant c.loop-at-test.true).1;
  room = (filled_room c.loop-at.invariant c.loop-at-test.true (sym c.is_confed.ensures ∙ c.if-is_confed.false)).2;
}

pub loop-at-preserved : goal.loop-at-preserved
loop-at-preserved c =
    rw (c.segment_size-at.ensures, c.from-to.ensures)
    (filled_put c.loop-at.invariant c.loop-at-test.true (sym c.is_confed.ensures ∙ c.if-is_confed.false) c.put_segment.ensures)

pub returns : goal.returns
returns c = filled_done c.loop-at.invariant c.loop-at-test.false
