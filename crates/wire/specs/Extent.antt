-- A part of a lent list: what it holds, and where it lies, so that a copy would not do.
use Rattle.std.specs.Prelude.{ℕ, ◌+◌, ◌≡◌, List, take, drop, leb}
use Rattle.std.specs.Borrow.{Bor}
use Rattle.wire.specs.Choice.{pick}

-- from a place on, so many
pub record Extent : Type 0 where
  pub start : ℕ
  pub size : ℕ

abbrev pub extent : ℕ → ℕ → Extent
extent start size = record { start = start; size = size }

-- nothing, at the front: what a refusal hands back
abbrev pub nothing : Extent
nothing = extent 0 0

-- a part of a list of n places, and nothing where it is not all there
unfoldable pub clipped : Extent → ℕ → Extent
clipped e n = pick (leb (e.start + e.size) n) e nothing

-- what stands there
abbrev pub within : Extent → List ℕ → List ℕ
within e s = take e.size (drop e.start s)

-- r is that part of s
pub record PartOf (s : Bor (List ℕ)) (e : Extent) (r : Bor (List ℕ)) : Type 0 where
  pub holds : r.now ≡ within e s.now
  pub lies : r.ref_ptr ≡ (s.ref_ptr.0, e.start + s.ref_ptr.1)
