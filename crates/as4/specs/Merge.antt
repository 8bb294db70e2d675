-- The path that AS_PATH, of AS numbers of two octets, and AS4_PATH, of four, make together, over lists of segments. RFC 6793 section 4.2.3: where AS_PATH has
-- fewer AS numbers it stands alone; else as many numbers and segments as necessary are taken from its front and put before AS4_PATH, so that the path has as many
-- as AS_PATH; a confederation segment is taken too where it leads, or is next to one that is taken.
use Rattle.std.specs.Prelude.{ℕ, ◌-◌, ◌<◌, ◌≡◌, List, [], ◌∷◌, ◌++◌, Bool, ◌&&◌, ◌⊎◌, length, take, leb, ltb, eqb}
use Rattle.wire.specs.Choice.{pick}
use Rattle.wire.specs.Walk.{tally}
use Rattle.paths.specs.Segment.{Segment, as_set}

-- ---- counting AS numbers

-- the types of confederation segments, of which there are no others above (RFC 5065 section 3)
abbrev pub confed_sequence : ℕ
confed_sequence = 3

abbrev pub is_confed : Segment → Bool
is_confed g = leb confed_sequence g.kind

-- what a segment counts: a set one, whatever it has, a sequence its numbers, a confederation segment none (RFC 4271 section 9.1.2.2, RFC 5065 section 5.3)
abbrev pub route_len : Segment → ℕ
route_len g = pick (eqb g.kind as_set) 1 (pick (is_confed g) 0 (length g.asns))

abbrev pub route_len_of : List Segment → ℕ
route_len_of path = tally route_len path

-- AS4_PATH has no business with confederation segments (RFC 6793 section 3): what is left without them
unfoldable pub kept : List Segment → List Segment
kept [] = []
kept (g ∷ path) = pick (is_confed g) (kept path) (g ∷ kept path)

-- ---- the leading part of AS_PATH

-- the first n numbers of a sequence
abbrev pub split : ℕ → Segment → Segment
split n g = record { kind = g.kind; asns = take n g.asns }

-- the leading segments that count n: confederation segments on the way are taken; with nothing left to make up another segment ends it, and so does a split
unfoldable pub leading : ℕ → List Segment → List Segment
leading n [] = []
leading n (g ∷ path) =
    pick (is_confed g) (g ∷ leading n path)
    (pick (eqb n 0) []
    (pick (leb (route_len g) n) (g ∷ leading (n - route_len g) path)
    (split n g ∷ [])))

-- ---- the path

abbrev pub some : List Segment → Bool
some path = ltb 0 (length path)

-- of AS_PATH and what is left of AS4_PATH
unfoldable pub joint : List Segment → List Segment → List Segment
joint path four = pick (some four && leb (route_len_of four) (route_len_of path)) (leading (route_len_of path - route_len_of four) path ++ four) path

abbrev pub merged : List Segment → List Segment → List Segment
merged path four = joint path (kept four)

-- ---- where the segments of a path come from

-- what is taken of segments after those that are taken whole: nothing, or the first numbers of one
pub data Piece : List Segment → List Segment → Type 0 where
  nothing : (rest : List Segment) → Piece rest []
  cut : (n : ℕ) (g : Segment) (rest : List Segment) → 0 < n → n < length g.asns → Piece (g ∷ rest) (split n g ∷ [])

-- leading segments of AS_PATH, whole but for the last, which may be split, and then all that is left of AS4_PATH, or none of it
pub record Comes (path four built : List Segment) : Type 0 where
  pub front : List Segment
  pub rest : List Segment
  pub piece : List Segment
  pub more : List Segment
  pub parts : front ++ rest ≡ path
  pub once : Piece rest piece
  pub left : more ≡ [] ⊎ more ≡ kept four
  pub is : built ≡ front ++ (piece ++ more)
