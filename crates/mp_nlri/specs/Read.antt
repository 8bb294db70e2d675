-- What the calls that read MP_REACH_NLRI and MP_UNREACH_NLRI answer and leave: their routes are a list of IPv6 routes, without the rule for a section of
-- one byte.
use Rattle.std.specs.Prelude.{ℕ, ◌+◌, List, [], ◌∷◌, drop, Result, Ok, Err}
use Rattle.wire.specs.Answer.{Answer, meaning_of, flag, filled}
use Rattle.wire.specs.Verdict.{answer_by}
use Rattle.wire.specs.Walk.{flat}
use Rattle.wire.specs.declared.refusal.Refusal.{Refusal}
use Rattle.families.specs.Family.{max_of}
use Rattle.families.specs.declared.Afi.TheVariants.{Ipv6}
use Rattle.families.specs.declared.AddPath.{AddPath}
use Rattle.routes.specs.Prefix.{words}
use Rattle.routes.specs.List.{Reader, up_to, list_of}
use Rattle.routes.specs.Promises.{count_list, read_list, routes_meaning}
use Rattle.routes.specs.declared.Row.{Row}
use Rattle.routes.specs.declared.Routes.{Routes}
use Rattle.mp_nlri.specs.Value.{reserved_at, pair_fault, head_of}
use Rattle.mp_nlri.specs.declared.Head.{Head}
use Rattle.mp_nlri.specs.declared.Reach.{Reach}

-- as document 02 has it: the length of the next hop, whether the reserved byte is not 0, the rows, and those that have a host bit
abbrev pub reach_meaning : Result Reach Refusal → Answer
reach_meaning = meaning_of (λ a. a.next_hop ∷ flag a.reserved ∷ a.rows ∷ a.hosts ∷ [])

-- the bytes of the routes
abbrev pub reach_list : List ℕ → List ℕ
reach_list v = drop (reserved_at v + 1) v

abbrev pub unreach_list : List ℕ → List ℕ
unreach_list v = drop 3 v

-- a family's way to read one of them, and the rows of a list
abbrev pub ipv6 : Reader
ipv6 = up_to (max_of Ipv6)

abbrev pub rows_of : List ℕ → AddPath → List Row
rows_of list mode = (list_of list (max_of Ipv6) mode).rows

-- ---- MP_REACH_NLRI

abbrev pub as_reach : Head → Routes → Reach
as_reach head routes = record { next_hop = head.next_hop; reserved = head.reserved; rows = routes.rows; hosts = routes.hosts }

-- what stands before the routes is refused first
abbrev pub if_head : Result Head Refusal → Result Routes Refusal → Result Reach Refusal
if_head (Ok head) (Ok routes) = Ok (as_reach head routes)
if_head (Ok head) (Err r) = Err r
if_head (Err r) routes = Err r

unfoldable pub count_reach : List ℕ → AddPath → Result Reach Refusal
count_reach v mode = if_head (head_of v) (count_list ipv6 (reach_list v) mode)

-- into a store of so many places: 11 last
unfoldable pub read_reach : List ℕ → AddPath → ℕ → Result Reach Refusal
read_reach v mode places = if_head (head_of v) (read_list ipv6 (reach_list v) mode places)

-- the store afterwards, by the answer: the rows from its front, and as it was where it is refused
abbrev pub reach_after : Result Reach Refusal → List ℕ → AddPath → List ℕ → List ℕ
reach_after a v mode store = filled (reach_meaning a) (flat words (rows_of (reach_list v) mode)) store

-- ---- MP_UNREACH_NLRI

unfoldable pub count_unreach : List ℕ → AddPath → Result Routes Refusal
count_unreach v mode = answer_by (pair_fault v) (count_list ipv6 (unreach_list v) mode) Err

unfoldable pub read_unreach : List ℕ → AddPath → ℕ → Result Routes Refusal
read_unreach v mode places = answer_by (pair_fault v) (read_list ipv6 (unreach_list v) mode places) Err

abbrev pub unreach_after : Result Routes Refusal → List ℕ → AddPath → List ℕ → List ℕ
unreach_after a v mode store = filled (routes_meaning a) (flat words (rows_of (unreach_list v) mode)) store
