-- The bytes of a segment as the RFCs have them, over bytes alone and apart from any reader or writer: `Cutting` of wire over `WellFormed` is what
-- it is to cut bytes into segments.
use Rattle.std.specs.Prelude.{ℕ, zero, suc, ◌*◌, ◌≤◌, ◌≡◌, List, [], ◌∷◌, length, get_or, take, drop}
use Rattle.wire.specs.Number.{be}
use Rattle.paths.specs.declared.PathRule.{PathRule}
use Rattle.paths.specs.declared.PathRule.TheVariants.{Crate, Strict}

-- the segment types: 1 AS_SET, 2 AS_SEQUENCE (RFC 4271 section 4.3), 3 AS_CONFED_SEQUENCE, 4 AS_CONFED_SET (RFC 5065 section 3)
abbrev pub Known : ℕ → ℕ → Type 0
Known kind count = (1 ≤ kind) × (kind ≤ 4)

-- of these, the ones that are not empty: a segment whose length is zero is malformed (RFC 7606 section 7.2)
abbrev pub NonEmpty : ℕ → ℕ → Type 0
NonEmpty kind count = Known kind count × (1 ≤ count)

-- the types and counts of segments in a path that is read or written by a rule
abbrev pub Allowed : PathRule → ℕ → ℕ → Type 0
Allowed Crate = Known
Allowed Strict = NonEmpty

-- the bytes of one segment: a type, a count, and that many numbers of w bytes each. Which types and counts there are is a parameter
pub record WellFormed (allowed : ℕ → ℕ → Type 0) (w : ℕ) (item : List ℕ) : Type 0 where
  pub kind : ℕ
  pub count : ℕ
  pub body : List ℕ
  pub parts : item ≡ kind ∷ count ∷ body
  pub meant : allowed kind count
  pub long : length body ≡ count * w

-- a segment of no numbers: its count is 0
abbrev pub Empty : List ℕ → Type 0
Empty item = get_or item 1 0 ≡ 0

-- n numbers of w bytes each, the first byte highest (RFC 4271 section 4)
unfoldable pub numbers_in : ℕ → ℕ → List ℕ → List ℕ
numbers_in w zero body = []
numbers_in w (suc n) body = be (take w body) ∷ numbers_in w n (drop w body)

-- the type and the count of a segment's bytes, and its AS numbers
abbrev pub head_of : List ℕ → List ℕ
head_of item = get_or item 0 0 ∷ get_or item 1 0 ∷ []

abbrev pub as_numbers : ℕ → List ℕ → List ℕ
as_numbers w item = numbers_in w (get_or item 1 0) (drop 2 item)
