-- The step of a section decides what a well-formed attribute is.
-- Assumes nothing.
use Prim.Native.Nat.{ℕ, ◌+◌, ◌≤◌}
use mathlib.Core.Path.{◌≡◌, sym, ap, ap₂, subst, ◌∙◌}
use mathlib.Core.List.{List, ◌∷◌, ◌++◌, append_assoc}
use native.Mathlib.Omega.{arith}
use lib.ListN.{length, get_or, take, drop, length-append, length-drop}
use lib.Seq.{take-add, take-append_seam, length-take-le}
use Rattle.wire.specs.Number.{be, padded, be_at}
use Rattle.wire.specs.Walk.{took}
use Rattle.wire.proofs.CuttingLaws.{Decides}
use Rattle.wire.proofs.NumberLaws.{padded_take}
use Rattle.wire.proofs.Parts.{take_two_more}
use Rattle.attributes.specs.Attribute.{length_size, head_size, Head, size_of, attribute_front, NoState, attribute_of}
use Rattle.attributes.specs.WellFormed.{WellFormed}
use Rattle.attributes.proofs.AttributeLaws.{Taken, attribute_taken, taken_attribute, attribute_sound}

-- what stands at the front of flags, a type and a length, whatever follows
front_is : (flags kind : ℕ) (count after : List ℕ) → length count ≡ length_size flags
    → attribute_front (flags ∷ kind ∷ (count ++ after)) ≡ record { flags = flags; kind = kind; size = be count }
unfolding attribute_front be_at
front_is flags kind count after wide =
    let long : length count ≤ length (count ++ after) = omega (arith, length-append count after) in
    ap (λ (n : ℕ). record { flags = flags; kind = kind; size = n })
    (ap (λ (k : ℕ). be (padded k (count ++ after))) (sym wide) ∙ ap be (padded_take (length count) (count ++ after) long ∙ take-append_seam count after))

module _ (flags kind : ℕ) (count value : List ℕ) (wide : length count ≡ length_size flags) (long : length value ≡ be count) where
  -- all of a well-formed attribute
  all_of : size_of (attribute_front (flags ∷ kind ∷ (count ++ value))) ≡ length (flags ∷ kind ∷ (count ++ value))
  unfolding head_size
  all_of = ap size_of (front_is flags kind count value wide) ∙ omega (arith, wide, long, length-append count value)

  -- is taken whole, whatever follows
  whole_taken : (rest : List ℕ) → attribute_of tt ((flags ∷ kind ∷ (count ++ value)) ++ rest) ≡ took (length (flags ∷ kind ∷ (count ++ value))) (attribute_front (flags ∷ kind ∷ (count ++ value))) tt
  whole_taken rest =
      let item : List ℕ = flags ∷ kind ∷ (count ++ value) in
      let same : attribute_front (item ++ rest) ≡ attribute_front item =
      ap (λ (l : List ℕ). attribute_front (flags ∷ kind ∷ l)) (append_assoc count value rest) ∙ front_is flags kind count (value ++ rest) wide ∙ sym (front_is flags kind count value wide) in
      let size : size_of (attribute_front (item ++ rest)) ≡ length item = ap size_of same ∙ all_of in
      taken_attribute (item ++ rest) (omega (arith, size, length-append item rest)) ∙ ap₂ (λ (u : ℕ) (a : Head). took u a tt) size same

item_taken : (st : NoState) (item rest : List ℕ) → WellFormed item → (st' : NoState) × (attribute_of st (item ++ rest) ≡ took (length item) (attribute_front item) st')
item_taken tt item rest f = (
  tt,
  subst (λ (l : List ℕ). attribute_of tt (l ++ rest) ≡ took (length l) (attribute_front l) tt) (sym f.parts) (whole_taken f.flags f.kind f.count f.value f.wide f.long rest),
)

-- its size is that of its bytes
pub formed_size : (item : List ℕ) → WellFormed item → size_of (attribute_front item) ≡ length item
formed_size item f = subst (λ (l : List ℕ). size_of (attribute_front l) ≡ length l) (sym f.parts) (all_of f.flags f.kind f.count f.value f.wide f.long)

-- and what is taken is well formed
taken_formed : (s : List ℕ) (used : ℕ) (a : Head) → Taken s used a → WellFormed (take used s)
unfolding attribute_front head_size be_at
taken_formed s used a t =
    let f : ℕ = get_or s 0 0 in
    let n : ℕ = length_size f in
    let m : ℕ = (attribute_front s).size in
    let size : 2 + (n + m) ≡ used = omega (arith, ap size_of t.is, t.size) in
    let there : 2 ≤ length s = omega (arith, size, t.room) in
    let tail : n + m ≤ length (drop 2 s) = omega (arith, size, t.room, length-drop 2 s) in
    record {
      flags = f;
      kind = get_or s 1 0;
      count = take n (drop 2 s);
      value = take m (drop n (drop 2 s));
      parts = ap (λ (u : ℕ). take u s) (sym size) ∙ take_two_more s (n + m) there ∙ ap (λ (l : List ℕ). f ∷ get_or s 1 0 ∷ l) (take-add n m (drop 2 s));
      wide = length-take-le n (drop 2 s) (omega (arith, tail));
      long = length-take-le m (drop n (drop 2 s)) (omega (arith, tail, length-drop n (drop 2 s))) ∙ ap be (padded_take n (drop 2 s) (omega (arith, tail)));
    }

pub decides : Decides attribute_of WellFormed attribute_front
decides = record {
  sound = attribute_sound;
  taken = item_taken;
  formed = λ st st' s used a e. taken_formed s used a (attribute_taken s st st' used a e);
}
