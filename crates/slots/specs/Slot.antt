-- A slot record (document 01, "The lister"): two octets of mark, C5 3A, a two-octet count of kept bytes, an octet of settings, and the kept
-- bytes.
use Rattle.std.specs.Prelude.{ℕ, ◌+◌, List, ◌∷◌, ◌++◌, Bool, false, not, length, get_or, ltb, leb, eqb}
use Rattle.wire.specs.Choice.{pick}
use Rattle.wire.specs.Number.{be_at, to_be}
use Rattle.families.specs.Family.{mode_of}
use Rattle.slots.specs.declared.SlotAnswer.{SlotAnswer}
use Rattle.slots.specs.declared.SlotAnswer.TheVariants.{Slot, More, Stop, End}

abbrev pub mark_first : ℕ
mark_first = 197

abbrev pub mark_second : ℕ
mark_second = 58

-- the octets before the kept bytes
abbrev pub record_size : ℕ
record_size = 5

abbrev pub settings_limit : ℕ
settings_limit = 3

-- a byte stands at a place, and a test holds of it
unfoldable pub found : (ℕ → Bool) → List ℕ → ℕ → Bool
found test s at = pick (leb (length s) at) false (test (get_or s at 0))

-- it is another one than b
abbrev pub differs : List ℕ → ℕ → ℕ → Bool
differs s at b = found (λ x. not (eqb x b)) s at

-- the settings byte is over 3
abbrev pub over_settings : List ℕ → Bool
over_settings s = found (λ x. ltb settings_limit x) s 4

abbrev pub kept_of : List ℕ → ℕ
kept_of s = be_at s 2 2

-- a record that is not all there: more may come, unless these are the last bytes
abbrev pub short : Bool → SlotAnswer
short last = pick last Stop More

-- what stands at the front of the input: a wrong byte decides as soon as it is there
unfoldable pub slot_of : List ℕ → Bool → SlotAnswer
slot_of s last =
    pick (eqb (length s) 0) (pick last End More)
    (pick (differs s 0 mark_first) Stop
    (pick (differs s 1 mark_second) Stop
    (pick (over_settings s) Stop
    (pick (ltb (length s) record_size) (short last)
    (pick (ltb (length s) (record_size + kept_of s)) (short last)
    (Slot (kept_of s) (mode_of (get_or s 4 0))))))))

-- decided: whatever bytes follow, the answer is the same
abbrev pub Decided : SlotAnswer → Type 0
Decided (Slot kept mode) = Unit
Decided More = ⊥
Decided Stop = Unit
Decided End = ⊥

-- the bytes of a record
unfoldable pub record_of : ℕ → List ℕ → List ℕ
record_of settings kept = mark_first ∷ mark_second ∷ (to_be 2 (length kept) ++ (settings ∷ kept))
