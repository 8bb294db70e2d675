-- Laws of host bits: where they stand in an item, and how many items have one.
-- Assumes nothing.
use Prim.Native.Nat.{ℕ, ◌+◌, ◌-◌, ◌*◌, ◌^◌, ◌%◌, ◌≤◌, ◌<◌}
use mathlib.Core.Path.{◌≡◌, refl, sym, ap, ap₂, ◌∙◌}
use mathlib.Core.List.{List, [], ◌∷◌}
use mathlib.Core.Bool.{Bool, true, false, not}
use native.Mathlib.Omega.{arith}
use mir.Val.{bool_byte}
use lib.Bits.{bit_and}
use lib.Dec.{eqb}
use lib.ListN.{length, get_or, take, drop, length-drop}
use lib.Seq.{get_or-drop, get_or-take, length-take-le}
use Rattle.wire.specs.Answer.{flag}
use Rattle.wire.specs.Choice.{below}
use Rattle.wire.specs.Walk.{tally}
use Rattle.wire.proofs.ChoiceLaws.{below_at}
use Rattle.wire.proofs.NumberLaws.{be_last}
use Rattle.families.specs.Family.{id_size, octets}
use Rattle.families.specs.declared.Form.{Form}
use Rattle.routes.specs.Prefix.{host_bits}
use Rattle.routes.specs.Private.{past_length, past_masks}

-- ---- in an item

-- they are the last bits of its last byte
pub host_last : (form : Form) (item : List ℕ) → 0 < length item → host_bits form item ≡ past_length (get_or item (id_size form) 0) (get_or item (length item - 1) 0)
unfolding host_bits
host_last form item pos =
    let l : ℕ = get_or item (id_size form) 0 in
    ap (λ (x : ℕ). not (eqb x 0)) (be_last item (8 * octets l - l) pos (omega arith))

-- of the item at a place, whose length byte and last byte stand there
pub host_at : (s : List ℕ) (n used : ℕ) (form : Form) (bits last : ℕ) → id_size form + 1 ≤ used → n + used ≤ length s
    → bits ≡ get_or s (n + id_size form) 0 → last ≡ get_or s (n + used - 1) 0 → past_length bits last ≡ host_bits form (take used (drop n s))
host_at s n used form bits last low high b e =
    let item : List ℕ = take used (drop n s) in
    let size : length item ≡ used = length-take-le used (drop n s) (omega (arith, length-drop n s)) in
    let byte : (i : ℕ) → i < used → get_or item i 0 ≡ get_or s (n + i) 0 = λ i lt. get_or-take used (drop n s) i 0 lt ∙ get_or-drop n s i 0 in
    let place : n + (length item - 1) ≡ n + used - 1 = omega (arith, size) in
    ap₂ past_length
    (b ∙ sym (byte (id_size form) (omega arith)))
    (e ∙ ap (λ (i : ℕ). get_or s i 0) (sym place) ∙ sym (byte (length item - 1) (omega (arith, size))))
    ∙ sym (host_last form item (omega (arith, size)))

-- ---- as code finds them

abbrev alike : Bool → Bool → Bool
alike true b = b
alike false b = not b

alike_same : (a b : Bool) → alike a b ≡ true → a ≡ b
alike_same true true e = refl
alike_same true false e = sym e
alike_same false true e = e
alike_same false false e = refl

-- by a mask for each length modulo 8: what it leaves of a byte, and what the last bits of the byte are
abbrev masked : ℕ → ℕ → Bool
masked k last = eqb (bit_and last (get_or past_masks k 0)) 0

abbrev last_bits : ℕ → ℕ → Bool
last_bits k last = eqb (last % 2 ^ ((8 - k) % 8)) 0

abbrev each_byte : ℕ → Bool
each_byte k = below (λ last. alike (masked k last) (last_bits k last)) 256

masks_fit : below each_byte 8 ≡ true
masks_fit = refl

pub masked_past : (bits last : ℕ) (past : List ℕ) → last < 256 → past ≡ past_masks → not (eqb (bit_and last (get_or past (bits % 8) 0)) 0) ≡ past_length bits last
masked_past bits last past byte e =
    let k : ℕ = bits % 8 in
    let few : k < 8 = omega arith in
    let left : (8 - k) % 8 ≡ 8 * octets bits - bits = omega arith in
    let same : masked k last ≡ last_bits k last = alike_same (masked k last) (last_bits k last) (below_at (λ x. alike (masked k x) (last_bits k x)) 256 last (below_at each_byte 8 k masks_fit few) byte) in
    ap (λ (l : List ℕ). not (eqb (bit_and last (get_or l k 0)) 0)) e ∙ ap not same ∙ ap (λ (q : ℕ). not (eqb (last % 2 ^ q) 0)) left

-- ---- a count of them

-- as `usize::from` counts one
pub flag_from : (host : Bool) → bool_byte host ≡ flag host
flag_from true = refl
flag_from false = refl

pub flag_few : (host : Bool) → flag host ≤ 1
flag_few true = omega arith
flag_few false = omega arith

pub tally_flags : (l : List Bool) → tally flag l ≤ length l
unfolding tally
tally_flags [] = omega arith
tally_flags (true ∷ l) = omega (arith, tally_flags l)
tally_flags (false ∷ l) = omega (arith, tally_flags l)
