-- The bytes of MP_REACH_NLRI and MP_UNREACH_NLRI, apart from any reader and any writer, and what is accepted of them in one form.
use Rattle.std.specs.Prelude.{ℕ, ◌≤◌, ◌≡◌, List, ◌∷◌, ◌++◌, map, Bool, not, length, eqb}
use Rattle.wire.specs.Answer.{flag}
use Rattle.wire.specs.Cutting.{Cutting}
use Rattle.wire.specs.Refusal.{list_limit}
use Rattle.wire.specs.Walk.{tally}
use Rattle.families.specs.Family.{max_of}
use Rattle.families.specs.declared.Afi.TheVariants.{Ipv6}
use Rattle.families.specs.declared.Form.{Form}
use Rattle.routes.specs.Prefix.{host_bits}
use Rattle.routes.specs.WellFormed.{WellFormed}

-- RFC 2545 section 3: a global address, or one and a link-local address
pub data HopSize : ℕ → Type 0 where
  global : HopSize 16
  both : HopSize 32

-- RFC 4760 section 3, octet by octet: AFI 2, SAFI 1, the length of the next hop, the next hop, a reserved octet, the routes
pub record ReachFormed (hop : List ℕ) (reserved : ℕ) (list : List ℕ) (v : List ℕ) : Type 0 where
  pub octets : v ≡ 0 ∷ 2 ∷ 1 ∷ length hop ∷ (hop ++ (reserved ∷ list))
  pub sized : HopSize (length hop)

-- section 4: AFI 2, SAFI 1, the routes
pub record UnreachFormed (list : List ℕ) (v : List ℕ) : Type 0 where
  pub octets : v ≡ 0 ∷ 2 ∷ 1 ∷ list

-- routes that can be cut in a form: so many items, and so many of them with a host bit
pub record RoutesFormed (form : Form) (list : List ℕ) (rows hosts : ℕ) : Type 0 where
  pub items : List (List ℕ)
  pub cut : Cutting (WellFormed (max_of Ipv6) form) list items
  pub many : rows ≡ length items
  pub marked : hosts ≡ tally flag (map (host_bits form) items)

-- a value of at most 65,535 octets that has the shape and such routes, as a reader tells it: the length of the next hop, and whether the reserved octet is not 0
pub record ReachAccepted (form : Form) (v : List ℕ) (size : ℕ) (reserved : Bool) (rows hosts : ℕ) : Type 0 where
  pub hop : List ℕ
  pub octet : ℕ
  pub list : List ℕ
  pub formed : ReachFormed hop octet list v
  pub routes : RoutesFormed form list rows hosts
  pub hop_told : size ≡ length hop
  pub octet_told : reserved ≡ not (eqb octet 0)
  pub short : length v ≤ list_limit

pub record UnreachAccepted (form : Form) (v : List ℕ) (rows hosts : ℕ) : Type 0 where
  pub list : List ℕ
  pub formed : UnreachFormed list v
  pub routes : RoutesFormed form list rows hosts
  pub short : length v ≤ list_limit
