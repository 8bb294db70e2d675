use Rattle.std.proofs.Common.{sym, arith}
use Rattle.route_bytes.proofs.EncodeLaws.{half_past}
use Rattle.route_bytes.proofs.clear_half.Goals as goal

pub returns : goal.returns
returns c = let a = c.args in sym (half_past a.m a.x (omega arith) (omega arith))
