-- The sections of an UPDATE body. RFC 4271 section 4.3: a two-octet length and the withdrawn routes, a two-octet length and the path
-- attributes; the rest are the announced routes.
use Rattle.std.specs.Prelude.{ℕ, ◌+◌, ◌-◌, List, [], ◌∷◌, length, ltb, Result, Ok, Err}
use Rattle.wire.specs.Answer.{Answer, meaning_of, value_in, handed}
use Rattle.wire.specs.Choice.{pick}
use Rattle.wire.specs.Extent.{Extent, extent, within}
use Rattle.wire.specs.Number.{be_at}
use Rattle.wire.specs.Refusal.{body_limit}
use Rattle.wire.specs.declared.refusal.Refusal.{Refusal}
use Rattle.wire.specs.declared.refusal.Refusal.TheVariants.{TooLong, Truncated}
use Rattle.updates.specs.declared.Parts.{Parts}

-- the sections as document 01 has them: the lengths of the withdrawn, the attribute and the announced one
abbrev pub parts_meaning : Result Parts Refusal → Answer
parts_meaning = meaning_of (λ p. p.withdrawn ∷ p.attributes ∷ p.announced ∷ [])

-- the octets of a length
abbrev pub length_size : ℕ
length_size = 2

-- ---- the lengths, and where the sections start and end

abbrev pub withdrawn_size : List ℕ → ℕ
withdrawn_size b = be_at b 0 length_size

abbrev pub withdrawn_end : List ℕ → ℕ
withdrawn_end b = length_size + withdrawn_size b

abbrev pub attributes_size : List ℕ → ℕ
attributes_size b = be_at b (withdrawn_end b) length_size

abbrev pub attributes_end : List ℕ → ℕ
attributes_end b = withdrawn_end b + length_size + attributes_size b

-- 1 first; then each length and each section is all there
unfoldable pub parts_of : List ℕ → Result Parts Refusal
parts_of b =
    pick (ltb body_limit (length b)) (Err TooLong)
    (pick (ltb (length b) length_size) (Err Truncated)
    (pick (ltb (length b) (withdrawn_end b)) (Err Truncated)
    (pick (ltb (length b) (withdrawn_end b + length_size)) (Err Truncated)
    (pick (ltb (length b) (attributes_end b)) (Err Truncated)
    (Ok (record { withdrawn = withdrawn_size b; attributes = attributes_size b; announced = length b - attributes_end b }))))))

-- ---- the sections as parts of the body, and nothing where it is refused

abbrev pub withdrawn_at : Result Parts Refusal → Extent
withdrawn_at p = handed (parts_meaning p) (extent length_size (value_in 0 (parts_meaning p)))

abbrev pub attributes_at : Result Parts Refusal → Extent
attributes_at p = handed (parts_meaning p) (extent (length_size + value_in 0 (parts_meaning p) + length_size) (value_in 1 (parts_meaning p)))

abbrev pub announced_at : Result Parts Refusal → Extent
announced_at p =
    handed (parts_meaning p) (extent (length_size + value_in 0 (parts_meaning p) + length_size + value_in 1 (parts_meaning p)) (value_in 2 (parts_meaning p)))

unfoldable pub withdrawn_of : List ℕ → List ℕ
withdrawn_of b = within (withdrawn_at (parts_of b)) b

unfoldable pub attributes_of : List ℕ → List ℕ
attributes_of b = within (attributes_at (parts_of b)) b

unfoldable pub announced_of : List ℕ → List ℕ
announced_of b = within (announced_at (parts_of b)) b
