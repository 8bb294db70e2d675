use mathlib.Core.Path.{sym}
use native.Mathlib.Omega.{arith}
use borrow.Author.Tests.{lt-ltb, le-ltb}
use Rattle.route_writer.specs.Pair.{write_pair_sized}
use Rattle.route_writer.proofs.PairLaws.{write_pair_over, write_pair_under}
use Rattle.route_writer.proofs.pair_size.Goals as goal

pub returns-then-first-gt-LIST_LIMIT : goal.returns-then-first-gt-LIST_LIMIT
unfolding write_pair_sized
returns-then-first-gt-LIST_LIMIT c = simp (lt-ltb _ _ c.if-first-gt-LIST_LIMIT.true)

pub returns-then-second-gt-LIST_LIMIT : goal.returns-then-second-gt-LIST_LIMIT
unfolding write_pair_sized
returns-then-second-gt-LIST_LIMIT c = simp (le-ltb _ _ c.if-first-gt-LIST_LIMIT.false, lt-ltb _ _ c.if-second-gt-LIST_LIMIT.true)

pub returns-then-most-start : goal.returns-then-most-start
returns-then-most-start c = let a = c.args in sym (write_pair_over a.start a.between a.most a.places a.first a.second (omega arith))

pub returns-then-most-start-2 : goal.returns-then-most-start-2
returns-then-most-start-2 c = let a = c.args in sym (write_pair_over a.start a.between a.most a.places a.first a.second (omega arith))

pub returns-then-most-start-3 : goal.returns-then-most-start-3
returns-then-most-start-3 c = let a = c.args in sym (write_pair_over a.start a.between a.most a.places a.first a.second (omega arith))

pub returns-then-places-start : goal.returns-then-places-start
returns-then-places-start c = let a = c.args in sym (write_pair_under a.start a.between a.most a.places a.first a.second _ (omega arith) (omega arith) (omega arith) (lt-ltb _ _ c.if-places-start.true))

pub returns : goal.returns
returns c = let a = c.args in sym (write_pair_under a.start a.between a.most a.places a.first a.second _ (omega arith) (omega arith) (omega arith) (le-ltb _ _ c.if-places-start.false))
