use mathlib.Core.Path.{sym, ap}
use native.Mathlib.Omega.{arith}
use Rattle.routes.proofs.TableLaws.{table_none}
use Rattle.routes.specs.Private.{size_of}
use Rattle.routes.proofs.front_size.Goals as goal

pub returns-then-s-k : goal.returns-then-s-k
returns-then-s-k c = let a = c.args in sym (ap size_of (table_none a.counts.now a.s.now a.form (omega arith)))
