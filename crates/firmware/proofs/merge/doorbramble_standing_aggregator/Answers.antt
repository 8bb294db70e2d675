use native.Mathlib.Omega.{arith}
use Rattle.firmware.proofs.MergeBounds.{standing_sized}
use Rattle.firmware.proofs.merge.doorbramble_standing_aggregator.Goals as goal

pub overflow_cast-aggregator : goal.overflow_cast-aggregator
overflow_cast-aggregator c = omega (arith, (standing_sized _ _ _ c.in-Ok-Aggregator.ensures).0)

pub overflow_cast-as4_aggregator : goal.overflow_cast-as4_aggregator
overflow_cast-as4_aggregator c = omega (arith, (standing_sized _ _ _ c.in-Ok-As4Aggregator.ensures).1)
