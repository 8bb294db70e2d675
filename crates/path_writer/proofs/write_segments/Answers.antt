use native.Mathlib.Omega.{arith}
use Rattle.paths.proofs.SegmentLaws.{type_known}
use Rattle.path_writer.specs.Promises.{lent_bytes}
use Rattle.path_writer.proofs.Lent.{lent_fit}
use Rattle.path_writer.proofs.WriteTurn.{ahead_start, ahead_fits, ahead_rule, ahead_next, ahead_done}
use Rattle.path_writer.proofs.write_segments.Goals as goal

pub loop-at-init : goal.loop-at-init
unfolding lent_bytes
loop-at-init c = let p = c.requires in ahead_start p.adds p.path_good p.total_value.0 p.total_value.1

pub bounds-pairs-at : goal.bounds-pairs-at
bounds-pairs-at c = let f = ahead_fits c.loop-at.invariant c.loop-at-test.true in omega (arith, f.pair)

pub put_head-requires : goal.put_head-requires
put_head-requires c =
    let f = ahead_fits c.loop-at.invariant c.loop-at-test.true in
    let known = type_known _ (ahead_rule c.loop-at.invariant c.loop-at-test.true) in
    record { to_in_bounds = omega (arith, f.bytes, f.long); kind_bound = (omega (arith, known.1), f.count) }

pub put_ahead-requires : goal.put_ahead-requires
put_ahead-requires c =
    let f = ahead_fits c.loop-at.invariant c.loop-at-test.true in
    let p = c.requires in
    record {
      n_in_bounds = f.asns;
      numbers_value = lent_fit _ _ _ _ p.adds p.path_good;
      numbers_bound = (omega (arith, f.bytes, f.body), omega (arith, f.long));
    }

pub overflow_cast-count-in-loop-at : goal.overflow_cast-count-in-loop-at
overflow_cast-count-in-loop-at c = let f = ahead_fits c.loop-at.invariant c.loop-at-test.true in omega (arith, f.count)

pub overflow_add-to-in-loop-at : goal.overflow_add-to-in-loop-at
overflow_add-to-in-loop-at c = let f = ahead_fits c.loop-at.invariant c.loop-at-test.true in omega (arith, f.bytes, f.long, c.segment_size-to.ensures)

pub loop-at-preserved : goal.loop-at-preserved
loop-at-preserved c = rw c.segment_size-to.ensures (ahead_next c.loop-at.invariant c.loop-at-test.true _ _ c.put_head.ensures c.put_ahead.ensures)

pub returns : goal.returns
unfolding lent_bytes
returns c = ahead_done c.loop-at.invariant c.loop-at-test.false
