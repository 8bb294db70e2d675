use Prim.Native.Nat.{◌+◌, ◌-◌}
use lib.ListN.{drop, length-drop}
use lib.Seq.{length-take-le}
use Rattle.wire.proofs.Turn.{rest}
use native.Mathlib.Omega.{arith}
use Rattle.paths.proofs.PathTurn.{ahead_start, ahead_fits, ahead_long, ahead_next, ahead_done}
use Rattle.paths.proofs.fill.Goals as goal

pub loop-at-init : goal.loop-at-init
loop-at-init c = let p = c.requires in ahead_start p.good p.pairs_in_bounds p.total_is p.total_in_bounds

pub bounds-value-at : goal.bounds-value-at
bounds-value-at c = let fits = ahead_fits c.loop-at.invariant c.loop-at-test.true in omega (arith, fits)

pub put_pair-requires : goal.put_pair-requires
put_pair-requires c = (ahead_fits c.loop-at.invariant c.loop-at-test.true).1

pub slice_bounds-put_ahead-count : goal.slice_bounds-put_ahead-count
slice_bounds-put_ahead-count c = let fits = ahead_fits c.loop-at.invariant c.loop-at-test.true in omega (arith, fits)

pub slice_bounds-put_ahead-start : goal.slice_bounds-put_ahead-start
slice_bounds-put_ahead-start c = let fits = ahead_fits c.loop-at.invariant c.loop-at-test.true in omega (arith, fits)

pub slice_bounds-put_ahead-count-in-loop-at : goal.slice_bounds-put_ahead-count-in-loop-at
slice_bounds-put_ahead-count-in-loop-at c = let fits = ahead_fits c.loop-at.invariant c.loop-at-test.true in omega (arith, fits)

pub slice_bounds-put_ahead-start-in-loop-at : goal.slice_bounds-put_ahead-start-in-loop-at
slice_bounds-put_ahead-start-in-loop-at c = let fits = ahead_fits c.loop-at.invariant c.loop-at-test.true in omega (arith, fits)

pub put_ahead-requires : goal.put_ahead-requires
put_ahead-requires c =
    let fits = ahead_fits c.loop-at.invariant c.loop-at-test.true in
    let room = (ahead_long c.loop-at.invariant).2 in
    record {
      bytes_in_bounds = rw (c.from-in-loop-at-2.ensures, rest) (omega (arith, fits, length-drop (c.loop-at.at + 2) c.args.value.now));
      n_in_bounds =
          rw (c.from-in-loop-at-2.ensures, length-take-le (c.args.total - c.loop-at.to) (drop c.loop-at.to c.loop-at.numbers) (omega (arith, room, fits, length-drop c.loop-at.to c.loop-at.numbers))) (omega (arith, fits));
    }

pub overflow_add-at-in-loop-at : goal.overflow_add-at-in-loop-at
overflow_add-at-in-loop-at c = let fits = ahead_fits c.loop-at.invariant c.loop-at-test.true in omega (arith, fits, c.segment_size-at.ensures)

pub loop-at-preserved : goal.loop-at-preserved
loop-at-preserved c =
    rw (c.put_pair.ensures, c.from.ensures, c.from-in-loop-at.ensures, c.segment_size-at.ensures, c.from-to.ensures)
    (ahead_next c.loop-at.invariant c.loop-at-test.true _ c.put_ahead.auto.numbers (rw c.from-in-loop-at-2.ensures at c.put_ahead.ensures))

pub returns : goal.returns
returns c =
    let both = ahead_done c.loop-at.invariant c.loop-at-test.false in
    record { pairs = both.0; numbers = both.1 }
