use native.Mathlib.Omega.{arith}
use Rattle.wire.proofs.Turn.{rest}
use Rattle.mp_nlri.proofs.ValueLaws.{pair_good}
use Rattle.mp_nlri.proofs.routes_after_pair.Goals as goal

pub slice_bounds-result-count : goal.slice_bounds-result-count
slice_bounds-result-count c = (pair_good _ c.requires).there

pub slice_bounds-result-start : goal.slice_bounds-result-start
slice_bounds-result-start c = omega (arith, (pair_good _ c.requires).there)

pub returns : goal.returns
returns c = rest c.args.value.now 3
