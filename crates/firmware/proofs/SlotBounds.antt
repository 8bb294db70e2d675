-- The fields of every answer of the module slot are of 16 bits; and a record that is not all there is no longer than the longest.
-- Assumes nothing.
use Prim.Native.Nat.{ℕ, ◌+◌, ◌≤◌, ◌<◌}
use mathlib.Core.Path.{◌≡◌}
use mathlib.Core.List.{List}
use mathlib.Core.Bool.{Bool}
use native.Mathlib.Omega.{arith}
use lib.ListN.{length, get_or}
use Rattle.wire.specs.Number.{Bytes}
use Rattle.wire.proofs.NumberLaws.{be_at_lt}
use Rattle.families.specs.Family.{mode_of}
use Rattle.families.specs.declared.AddPath.{AddPath}
use Rattle.families.specs.declared.AddPath.TheVariants.{On, Off, Guess}
use Rattle.slots.specs.Slot.{record_size, kept_of, slot_of}
use Rattle.slots.specs.declared.SlotAnswer.TheVariants.{More}
use Rattle.slots.proofs.SlotLaws.{slot_cases}
use Rattle.words.specs.Settings.{settings_of}
use Rattle.words.specs.Word.{field_size, Narrow}
use Rattle.firmware.specs.Fields.{slot_fields, kept_limit}

-- a count of two bytes
kept_small : (s : List ℕ) → Bytes s → kept_of s ≤ kept_limit
kept_small s b = omega (arith, be_at_lt s 2 2 b)

settings_small : (mode : AddPath) → settings_of mode < field_size
settings_small Off = omega arith
settings_small On = omega arith
settings_small Guess = omega arith

pub slot_narrow : (s : List ℕ) (last : Bool) → Bytes s → Narrow (slot_fields (slot_of s last))
slot_narrow s last b =
    slot_cases s last (λ a. Narrow (slot_fields a))
    (λ _ _. record { a = omega arith; b = omega arith; c = omega arith })
    (λ _. record { a = omega arith; b = omega arith; c = omega arith })
    (λ _. record { a = omega arith; b = omega arith; c = omega arith })
    (λ _. record { a = omega (arith, kept_small s b); b = settings_small (mode_of (get_or s 4 0)); c = omega arith })

-- more bytes are asked for of less than the longest record
pub more_short : (s : List ℕ) (last : Bool) → Bytes s → slot_of s last ≡ More → length s < record_size + kept_limit
more_short s last b =
    slot_cases s last (λ a. a ≡ More → length s < record_size + kept_limit)
    (λ _ _ e. let z : ◌≡◌ {A = ℕ} 0 1 = cc in absurd (omega arith))
    (λ h _. omega (arith, h, kept_small s b))
    (λ _ e. let z : ◌≡◌ {A = ℕ} 0 1 = cc in absurd (omega arith))
    (λ _ e. let z : ◌≡◌ {A = ℕ} 0 1 = cc in absurd (omega arith))
