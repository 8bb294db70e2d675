-- The routes of an UPDATE: both sections are lists of IPv4 routes (RFC 4271 section 4.3). A malformed one has no rows and its own verdict,
-- and does not refuse the UPDATE.
use Rattle.std.specs.Prelude.{ℕ, List, [], ◌∷◌, Result, Ok, Err}
use Rattle.wire.specs.Answer.{Answer, refusal, meaning_of, count_meaning, filled}
use Rattle.wire.specs.Refusal.{number_of}
use Rattle.wire.specs.Walk.{flat}
use Rattle.wire.specs.declared.refusal.Refusal.{Refusal}
use Rattle.families.specs.Family.{max_of}
use Rattle.routes.specs.List.{up_to, section_of}
use Rattle.routes.specs.Prefix.{words}
use Rattle.routes.specs.Promises.{rows_alone, rows_in, hosts_in, verdict_in, count_section}
use Rattle.route_reader.specs.Pair.{read_pair}
use Rattle.families.specs.declared.Afi.TheVariants.{Ipv4}
use Rattle.families.specs.declared.AddPath.{AddPath}
use Rattle.routes.specs.declared.Routes.{Routes}
use Rattle.route_reader.specs.declared.Sections.{Sections}
use Rattle.updates.specs.Body.{parts_of, withdrawn_of, announced_of}
use Rattle.updates.specs.declared.Parts.{Parts}
use Rattle.updates.specs.declared.Update.{Update}

-- an UPDATE as documents 01 and 02 have it: the rows and the verdict of its withdrawn section, and of its announced one; then the rows of each that have a
-- host bit
abbrev pub update_meaning : Result Update Refusal → Answer
update_meaning =
    meaning_of (λ u. rows_in u.withdrawn ∷ verdict_in u.withdrawn ∷ rows_in u.announced ∷ verdict_in u.announced ∷ hosts_in u.withdrawn ∷ hosts_in u.announced ∷ [])

-- each section by itself, and how many rows it has
abbrev pub withdrawn_meaning : Result Update Refusal → Answer
withdrawn_meaning (Ok u) = count_meaning (rows_alone u.withdrawn)
withdrawn_meaning (Err r) = refusal (number_of r)

abbrev pub announced_meaning : Result Update Refusal → Answer
announced_meaning (Ok u) = count_meaning (rows_alone u.announced)
announced_meaning (Err r) = refusal (number_of r)

-- a body whose sections are not all there is refused first
abbrev pub if_parts : Result Parts Refusal → Result Update Refusal → Result Update Refusal
if_parts (Ok p) u = u
if_parts (Err r) u = Err r

-- the two sections as those of an UPDATE, the withdrawn one first
abbrev pub update_of : Result Routes Refusal → Result Routes Refusal → Result Update Refusal
update_of withdrawn announced = Ok (record { withdrawn = withdrawn; announced = announced })

abbrev pub as_update : Result Sections Refusal → Result Update Refusal
as_update (Ok p) = update_of p.first p.second
as_update (Err r) = Err r

-- counting
abbrev pub counted : List ℕ → AddPath → Result Routes Refusal
counted s mode = count_section (up_to (max_of Ipv4)) s mode

unfoldable pub count_update : List ℕ → AddPath → Result Update Refusal
count_update b mode = if_parts (parts_of b) (update_of (counted (withdrawn_of b) mode) (counted (announced_of b) mode))

-- reading into stores of so many places: 11 last
unfoldable pub read_update : List ℕ → AddPath → ℕ → ℕ → Result Update Refusal
read_update b mode places places' = if_parts (parts_of b) (as_update (read_pair (withdrawn_of b) (announced_of b) (max_of Ipv4) mode places places'))

-- the stores afterwards, by the answer: the rows of each good section from the front, and else as it was
abbrev pub withdrawn_after : Result Update Refusal → List ℕ → AddPath → List ℕ → List ℕ
withdrawn_after u b mode store = filled (withdrawn_meaning u) (flat words (section_of (withdrawn_of b) (max_of Ipv4) mode).rows) store

abbrev pub announced_after : Result Update Refusal → List ℕ → AddPath → List ℕ → List ℕ
announced_after u b mode store = filled (announced_meaning u) (flat words (section_of (announced_of b) (max_of Ipv4) mode).rows) store
