use Prim.Native.Nat.{ℕ, ◌/◌, ◌%◌}
use mathlib.Core.Path.{◌≡◌}
use borrow.Author.Tests.{eq-eqb, ne_eqb}
use Rattle.families.specs.Family.{mode_of}
use Rattle.families.specs.declared.AddPath.TheVariants.{On, Off, Guess}
use Rattle.families.proofs.AddPathFromU8.from.Goals as goal

-- each setting, by its bits
module _ (settings : ℕ) where
  on : settings % 2 ≡ 1 → On ≡ mode_of settings
  unfolding mode_of
  on low = rw (eq-eqb _ _ low)

  module _ (not_low : settings % 2 ≡ 1 → ⊥) where
    guess : settings / 2 % 2 ≡ 1 → Guess ≡ mode_of settings
    unfolding mode_of
    guess next = rw (ne_eqb _ _ not_low, eq-eqb _ _ next)

    off : (settings / 2 % 2 ≡ 1 → ⊥) → Off ≡ mode_of settings
    unfolding mode_of
    off not_next = rw (ne_eqb _ _ not_low, ne_eqb _ _ not_next)

pub returns-then-settings-eq1 : goal.returns-then-settings-eq1
returns-then-settings-eq1 c = on c.args.settings c.if-settings-eq1.true

pub returns-then-settings-eq1-2 : goal.returns-then-settings-eq1-2
returns-then-settings-eq1-2 c = guess c.args.settings c.if-settings-eq1.false c.if-settings-eq1-2.true

pub returns-else-settings-eq1-2 : goal.returns-else-settings-eq1-2
returns-else-settings-eq1-2 c = off c.args.settings c.if-settings-eq1.false c.if-settings-eq1-2.false
