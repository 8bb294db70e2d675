-- What only private functions' contracts name: what a path weighs, where its leading part ends, and what the path to build is made of.
use Rattle.std.specs.Prelude.{ℕ, zero, suc, ◌+◌, ◌≤◌, ◌<◌, ◌≡◌, List, [], ◌∷◌, ◌++◌, Bool, ◌&&◌, ◌||◌, length, get_or, take, drop, leb, ltb, eqb, Result, Ok, Err}
use Rattle.wire.specs.Choice.{pick}
use Rattle.wire.specs.Refusal.{list_limit}
use Rattle.wire.specs.Store.{laid}
use Rattle.wire.specs.Verdict.{fine, unless}
use Rattle.wire.specs.Walk.{Reading, flat}
use Rattle.wire.specs.declared.refusal.Refusal.{Refusal}
use Rattle.asns.specs.Asn.{span}
use Rattle.paths.specs.declared.Path.{Path}
use Rattle.paths.specs.Promises.{counts}
use Rattle.paths.specs.Segment.{Segment, as_set, numbers_of, pair_of, asns_of}
use Rattle.as4.specs.Merge.{confed_sequence, route_len_of, kept, leading}
use Rattle.as4.specs.Promises.{old_path, new_path, fault_of}
use Rattle.as4.specs.declared.Weight.{Weight}
use Rattle.as4.specs.declared.Leading.{Leading}
use Rattle.as4.specs.declared.Plan.{Plan}
use Rattle.as4.specs.declared.Plan.TheVariants as P

-- ---- one segment, by its type and its count

-- n, or the places of it, and none for a confederation segment
unfoldable pub kept_count : ℕ → ℕ → ℕ
kept_count kind n = pick (leb confed_sequence kind) 0 n

unfoldable pub kept_of : ℕ → List ℕ → List ℕ
kept_of kind l = pick (leb confed_sequence kind) [] l

-- what it counts
unfoldable pub route_count : ℕ → ℕ → ℕ
route_count kind n = pick (eqb kind as_set) 1 (kept_count kind n)

-- what is put of a segment
abbrev pub kept_by : (Segment → List ℕ) → Segment → List ℕ
kept_by emit g = kept_of g.kind (emit g)

-- ---- a path weighed: what it counts, and its segments and numbers without those of confederations

abbrev pub weight_of : List Segment → Weight
weight_of rows = record { route_len = route_len_of rows; segments = length (kept rows); numbers = length (flat asns_of (kept rows)) }

unfoldable pub weighed : List ℕ → Reading Segment → Result Weight Refusal
weighed s r = unless (fault_of s r) (weight_of r.rows)

-- ---- the leading part

-- whether a segment stands there and is to be taken, with so much left to make up
abbrev pub goes_on : List ℕ → ℕ → ℕ → Bool
goes_on s at left = ltb at (length s) && (ltb 0 left || leb confed_sequence (get_or s at 0))

-- the first n numbers of the segment at the front, as a segment
abbrev pub first_of : ℕ → ℕ → List ℕ → Segment
first_of w n s = record { kind = get_or s 0 0; asns = numbers_of w n (drop 2 s) }

-- a sequence that is split: the first n numbers of the segment at a place, where n is not 0
unfoldable pub split_at : List ℕ → ℕ → ℕ → List Segment
split_at s at zero = []
split_at s at (suc n) = first_of 2 (suc n) (drop at s) ∷ []

-- the whole segments up to a place, and the split after them
abbrev pub front_of : List ℕ → Leading → List Segment
front_of s r = (old_path (take r.end s)).rows ++ split_at s r.end r.split

pub record Front (s : List ℕ) (r : Leading) : Type 0 where
  pub good : (old_path (take r.end s)).verdict ≡ fine
  pub segments : length (old_path (take r.end s)).rows ≡ r.segments
  pub numbers : length (flat asns_of (old_path (take r.end s)).rows) ≡ r.numbers
  pub within : r.end ≤ length s
  pub there : 0 < r.split → r.end + (2 + span 2 r.split) ≤ length s
  pub few : r.split < 256
  pub small : (r.segments ≤ r.end) × (r.numbers ≤ r.end)

-- they are the leading part
pub record Leads (s : List ℕ) (need : ℕ) (r : Leading) : Type 0 where
  pub front : Front s r
  pub rows : leading need (old_path s).rows ≡ front_of s r

-- ---- the two stores

-- segments have room in stores that are p and n
pub record Room (rows : List Segment) (p n : List ℕ) : Type 0 where
  pub pairs : length (flat pair_of rows) ≤ length p
  pub numbers : length (flat asns_of rows) ≤ length n

-- they are put at the front, which makes p' and n' of p and n
pub record Put (rows : List Segment) (p n p' n' : List ℕ) : Type 0 where
  pub pairs : p' ≡ laid p 0 (flat pair_of rows)
  pub numbers : n' ≡ laid n 0 (flat asns_of rows)

-- ---- the path to build

-- whether AS_PATH stands alone: AS4_PATH is ignored, has no segments left, or counts more
abbrev pub alone : Bool → ℕ → ℕ → ℕ → Bool
alone ignores segments old new = ignores || (eqb segments 0 || ltb old new)

-- r is a front of AS_PATH and what is left of AS4_PATH, of so many segments and numbers
pub record Made (r : Reading Segment) (path four : List ℕ) (lead : Leading) (both : Path) : Type 0 where
  pub good : r.verdict ≡ fine
  pub front : Front path lead
  pub sound : (new_path four).verdict ≡ fine
  pub short : (length path ≤ list_limit) × (length four ≤ list_limit)
  pub rows : r.rows ≡ front_of path lead ++ kept (new_path four).rows
  pub size : counts r.rows ≡ both

-- r by a plan: AS_PATH alone; such a front; or a refusal
abbrev pub Planned : Reading Segment → List ℕ → List ℕ → Result Plan Refusal → Type 0
Planned r path four (Ok P.Alone) = (r.rows ≡ (old_path path).rows) × (r.verdict ≡ fault_of path (old_path path))
Planned r path four (Ok (P.Built lead both)) = Made r path four lead both
Planned r path four (Err n) = r.verdict ≡ Err n
