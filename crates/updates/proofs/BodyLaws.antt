-- Laws of the sections of a body.
-- Assumes nothing.
use Prim.Native.Nat.{ℕ, ◌+◌, ◌-◌, ◌≤◌, ◌<◌}
use mathlib.Core.Path.{◌≡◌, refl, sym, ap, ap₂, ◌∙◌}
use mathlib.Core.List.{List}
use native.Mathlib.Omega.{arith}
use borrow.Author.Tests.{le-ltb, lt-ltb, ltb-false}
use lib.ListN.{length}
use lib.Dec.{ltb}
use denote.Ref.{Bor}
use Rattle.std.specs.Prelude.{Result, Ok, Err}
use Rattle.wire.proofs.ChoiceLaws.{pick_any, pick_unless}
use Rattle.wire.specs.Extent.{Extent, PartOf, clipped}
use Rattle.wire.proofs.ExtentLaws.{clipped_fits}
use Rattle.wire.specs.Number.{be_at}
use Rattle.wire.specs.Refusal.{body_limit}
use Rattle.wire.specs.declared.refusal.Refusal.{Refusal}
use Rattle.wire.specs.declared.refusal.Refusal.TheVariants.{TooLong, Truncated}
use Rattle.updates.specs.Body.{length_size, withdrawn_size, withdrawn_end, attributes_size, attributes_end, parts_of, withdrawn_at, attributes_at, announced_at, withdrawn_of, attributes_of, announced_of}
use Rattle.updates.specs.declared.Parts.{Parts}

-- the three lengths of a body whose sections are all there
abbrev pub sizes_of : List ℕ → Parts
sizes_of b = record { withdrawn = withdrawn_size b; attributes = attributes_size b; announced = length b - attributes_end b }

-- what holds of every refusal, and of a body whose sections are all there, holds of every body
pub parts_cases {ℓ} : (b : List ℕ) (P : Result Parts Refusal → Type ℓ) → ((r : Refusal) → P (Err r))
    → (length b ≤ body_limit → attributes_end b ≤ length b → P (Ok (sizes_of b))) → P (parts_of b)
unfolding parts_of
parts_cases b P bad good =
    pick_unless P (ltb body_limit (length b)) (Err TooLong) _ (bad TooLong) (λ small.
    pick_unless P (ltb (length b) length_size) (Err Truncated) _ (bad Truncated) (λ _.
    pick_unless P (ltb (length b) (withdrawn_end b)) (Err Truncated) _ (bad Truncated) (λ _.
    pick_unless P (ltb (length b) (withdrawn_end b + length_size)) (Err Truncated) _ (bad Truncated) (λ _.
    pick_unless P (ltb (length b) (attributes_end b)) (Err Truncated) _ (bad Truncated) (λ there.
    good (ltb-false body_limit (length b) small) (ltb-false (length b) (attributes_end b) there))))))

-- and a body whose sections are all there is not refused
pub parts_by : (b : List ℕ) → length b ≤ body_limit → attributes_end b ≤ length b → parts_of b ≡ Ok (sizes_of b)
unfolding parts_of
parts_by b small there =
    simp (
      le-ltb body_limit (length b) small,
      le-ltb (length b) length_size (omega arith),
      le-ltb (length b) (withdrawn_end b) (omega arith),
      le-ltb (length b) (withdrawn_end b + length_size) (omega arith),
      le-ltb (length b) (attributes_end b) there,
    )

-- one that ends before they do is refused
pub parts_short : (b : List ℕ) → length b ≤ body_limit → length b < attributes_end b → Err Truncated ≡ parts_of b
unfolding parts_of
parts_short b small short =
    let P : Result Parts Refusal → Type 0 = λ p. Err Truncated ≡ p in
    rw (le-ltb body_limit (length b) small)
    (pick_any P (ltb (length b) length_size) _ _ refl
    (pick_any P (ltb (length b) (withdrawn_end b)) _ _ refl
    (pick_any P (ltb (length b) (withdrawn_end b + length_size)) _ _ refl
    (rw (lt-ltb (length b) (attributes_end b) short)))))

-- where the attributes end, from the two lengths as they were read
pub attributes_end_lem : (b : List ℕ) (w a : ℕ) → w ≡ be_at b 0 length_size → a ≡ be_at b (length_size + w) length_size → length_size + w + length_size + a ≡ attributes_end b
attributes_end_lem b w a e f =
    let g : a ≡ attributes_size b = f ∙ ap (λ (n : ℕ). be_at b (length_size + n) length_size) e in
    ap₂ (λ (m n : ℕ). length_size + m + length_size + n) e g

-- and the answer from them
pub parts_read : (b : List ℕ) (w a : ℕ) → w ≡ be_at b 0 length_size → a ≡ be_at b (length_size + w) length_size → length b ≤ body_limit → length_size + w + length_size + a ≤ length b
    → Ok (record { withdrawn = w; attributes = a; announced = length b - (length_size + w + length_size + a) }) ≡ parts_of b
parts_read b w a e f small there =
    let end = attributes_end_lem b w a e f in
    let g : a ≡ attributes_size b = f ∙ ap (λ (n : ℕ). be_at b (length_size + n) length_size) e in
    let sizes : ℕ → ℕ → ℕ → Result Parts Refusal = λ w a end. Ok (record { withdrawn = w; attributes = a; announced = length b - end }) in
    ap₂ (λ (w a : ℕ). sizes w a (length_size + w + length_size + a)) e g ∙ sym (parts_by b small (omega (arith, end)))

-- the three lengths and the four length bytes add up to the body
pub parts_add_up : (b : List ℕ) (p : Parts) → parts_of b ≡ Ok p → (p.withdrawn + p.attributes + p.announced + (length_size + length_size) ≡ length b) × (length b ≤ body_limit)
parts_add_up b p =
    let P : Result Parts Refusal → Type 0 = λ r. r ≡ Ok p → (p.withdrawn + p.attributes + p.announced + (length_size + length_size) ≡ length b) × (length b ≤ body_limit) in
    parts_cases b P
    (λ m e. let z : ◌≡◌ {A = ℕ} 0 1 = cc in absurd (omega arith))
    (λ small there e.
    let is : sizes_of b ≡ p = cc in
    rw (← is) (omega arith, small))

-- the part that was taken for a section, as an answer told its place and size
pub part_told : (section : Result Parts Refusal → Extent) (s r : Bor (List ℕ)) (p : Parts) → parts_of s.now ≡ Ok p
    → (section (Ok p)).start + (section (Ok p)).size ≤ length s.now → PartOf s (clipped (section (Ok p)) (length s.now)) r → PartOf s (section (parts_of s.now)) r
part_told section s r p is fits h = rw is (rw (clipped_fits (section (Ok p)) (length s.now) fits) at h)

-- what a part that was handed back holds
pub holds_withdrawn : (s r : Bor (List ℕ)) → PartOf s (withdrawn_at (parts_of s.now)) r → r.now ≡ withdrawn_of s.now
unfolding withdrawn_of
holds_withdrawn s r h = h.holds

pub holds_attributes : (s r : Bor (List ℕ)) → PartOf s (attributes_at (parts_of s.now)) r → r.now ≡ attributes_of s.now
unfolding attributes_of
holds_attributes s r h = h.holds

pub holds_announced : (s r : Bor (List ℕ)) → PartOf s (announced_at (parts_of s.now)) r → r.now ≡ announced_of s.now
unfolding announced_of
holds_announced s r h = h.holds
