use native.Mathlib.Omega.{arith}
use Rattle.firmware.proofs.IndexBounds.{used_few}
use Rattle.firmware.proofs.index.doorbramble_route_at.Goals as goal

pub overflow_cast-found : goal.overflow_cast-found
overflow_cast-found c = omega (arith, used_few _ _ _ _ _ _ c.in-Ok.ensures.answer)
