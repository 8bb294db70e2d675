-- The fields of every answer of the module attribute are of 16 bits; and whether there is an attribute, and where the next one stands, is read
-- from them as include/doorbramble.h does it.
-- Assumes nothing.
use Prim.Native.Nat.{ℕ, ◌+◌, ◌≤◌, ◌<◌}
use mathlib.Core.Path.{◌≡◌, refl, ap}
use mathlib.Core.List.{List}
use native.Mathlib.Omega.{arith}
use borrow.Author.Tests.{lt-ltb}
use lib.ListN.{length, get_or, drop, length-drop}
use lib.Dec.{ltb}
use Rattle.wire.specs.Answer.{value_in, flag}
use Rattle.wire.specs.Number.{Bytes}
use Rattle.wire.proofs.NumberLaws.{bytes_drop}
use Rattle.attributes.specs.Attribute.{head_size, Head, size_of, attribute_front}
use Rattle.attributes.specs.Promises.{Found, attribute_meaning, standing, attribute_at, find_answer}
use Rattle.attributes.proofs.AttributeLaws.{head_bounds, attribute_taken, at_cases}
use Rattle.attributes.proofs.SearchTurn.{find_by}
use Rattle.words.specs.Word.{Narrow}
use Rattle.words.proofs.WordLaws.{refused_narrow}
use Rattle.firmware.specs.Fields.{attribute_fields}

pub attribute_narrow : (s : List ℕ) (place : ℕ) → Bytes s → Narrow (attribute_fields (attribute_at s place))
unfolding standing attribute_front
attribute_narrow s place b =
    at_cases s place (λ a. Narrow (attribute_fields a)) (λ _. refused_narrow _) (λ _ _. refused_narrow 0)
    (λ used a short before e.
    let t = attribute_taken (drop place s) tt tt used a e in
    let flags : get_or (drop place s) 0 0 ≡ a.flags = ap (λ (x : Head). x.flags) t.is in
    let kind : get_or (drop place s) 1 0 ≡ a.kind = ap (λ (x : Head). x.kind) t.is in
    let end : place + size_of a ≤ length s = omega (arith, t.size, t.room, length-drop place s) in
    record { a = omega (arith, end); b = omega (arith, end); c = omega (arith, flags, kind, bytes_drop place s b 0, bytes_drop place s b 1) })
    (λ _ _ _. refused_narrow _)

pub find_narrow : (s : List ℕ) (kind : ℕ) → Bytes s → Narrow (attribute_fields (find_answer s kind))
find_narrow s kind b = find_by s kind (λ a. Narrow (attribute_fields a)) (λ r. refused_narrow _) (λ place. attribute_narrow s place b)

-- ---- what the header's functions take from the fields

-- there is one exactly where its value does not start at 0, and the next stands where its value ends
pub record ByFields (a : Found) : Type 0 where
  pub found : value_in 0 (attribute_meaning a) ≡ flag (ltb 0 (attribute_fields a).a)
  pub next : value_in 5 (attribute_meaning a) ≡ (attribute_fields a).a + (attribute_fields a).b

pub attribute_by_fields : (s : List ℕ) (place : ℕ) → ByFields (attribute_at s place)
unfolding standing
attribute_by_fields s place =
    at_cases s place ByFields (λ _. record { found = refl; next = refl }) (λ _ _. record { found = refl; next = refl })
    (λ used a _ _ _.
    let past : 0 < place + head_size a.flags = omega (arith, head_bounds a.flags) in
    record { found = rw (lt-ltb 0 (place + head_size a.flags) past); next = omega arith })
    (λ _ _ _. record { found = refl; next = refl })

pub find_by_fields : (s : List ℕ) (kind : ℕ) → ByFields (find_answer s kind)
find_by_fields s kind = find_by s kind ByFields (λ n. record { found = refl; next = refl }) (attribute_by_fields s)
