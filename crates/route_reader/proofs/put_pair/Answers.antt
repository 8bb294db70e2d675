use mathlib.Core.List.{[], ◌∷◌}
use native.Mathlib.Omega.{arith}
use lib.ListN.{length-set}
use Rattle.wire.proofs.StoreLaws.{puts_laid}
use Rattle.route_reader.proofs.put_pair.Goals as goal

pub bounds-store-to-2 : goal.bounds-store-to-2
bounds-store-to-2 c = simp length-set (omega arith)

pub returns : goal.returns
returns c = let a = c.args in puts_laid a.store.now a.to (a.w0 ∷ a.w1 ∷ []) c.requires
