use mathlib.Core.Path.{◌≡◌, refl, ap}
use Prim.Native.Nat.{ℕ, ◌+◌, ◌-◌}
use native.Mathlib.Omega.{arith}
use lib.ListN.{length, take, drop}
use Rattle.wire.specs.Extent.{extent}
use Rattle.wire.proofs.ExtentLaws.{clipped_fits, clipped_not, empty_part}
use Rattle.wire.proofs.part.Goals as goal

pub returns-then-s-start : goal.returns-then-s-start
returns-then-s-start c = let a = c.args in rw (clipped_not (extent a.start a.size) (length a.s.now) (omega arith)) (empty_part a.s _ refl refl)

pub returns-then-s-start-2 : goal.returns-then-s-start-2
returns-then-s-start-2 c = let a = c.args in rw (clipped_not (extent a.start a.size) (length a.s.now) (omega arith)) (empty_part a.s _ refl refl)

pub returns : goal.returns
returns c =
    let a = c.args in
    let n : a.start + a.size - a.start ≡ a.size = omega arith in
    rw (clipped_fits (extent a.start a.size) (length a.s.now) (omega arith)) (record { holds = ap (λ (k : ℕ). take k (drop a.start a.s.now)) n; lies = refl })
