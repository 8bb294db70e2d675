-- The bytes of MP_REACH_NLRI and MP_UNREACH_NLRI of IPv6 unicast routes. RFC 4760 section 3: an address family of two octets, a subsequent one of one
-- octet, the length of the next hop in one octet, the next hop, a reserved octet, the routes. Section 4: both families, and the routes withdrawn.
-- RFC 2545 section 3: the next hop has 16 octets, a global address, or 32, where a link-local one follows.
use Rattle.std.specs.Prelude.{ℕ, ◌+◌, List, [], ◌∷◌, ◌++◌, Bool, not, ◌&&◌, ◌||◌, length, get_or, ltb, eqb, Result, Ok, Err}
use Rattle.wire.specs.Choice.{pick}
use Rattle.wire.specs.Extent.{Extent, extent, nothing}
use Rattle.wire.specs.Number.{be_at}
use Rattle.wire.specs.Refusal.{list_limit}
use Rattle.wire.specs.Verdict.{Verdict, fine, answer_by}
use Rattle.wire.specs.declared.refusal.Refusal.{Refusal}
use Rattle.wire.specs.declared.refusal.Refusal.TheVariants.{TooLong, Truncated, OtherFamily, NextHopLength}
use Rattle.mp_nlri.specs.declared.Head.{Head}

-- ---- written

-- AFI 2, SAFI 1
abbrev pub ipv6_unicast : List ℕ
ipv6_unicast = 0 ∷ 2 ∷ 1 ∷ []

-- what stands before the routes: the next hop after its length, and the reserved octet, which is 0
unfoldable pub reach_head : List ℕ → List ℕ
reach_head hop = ipv6_unicast ++ (length hop ∷ (hop ++ (0 ∷ [])))

unfoldable pub reach_bytes : List ℕ → List ℕ → List ℕ
reach_bytes hop list = reach_head hop ++ list

unfoldable pub unreach_bytes : List ℕ → List ℕ
unreach_bytes list = ipv6_unicast ++ list

-- ---- read

abbrev pub is_pair : List ℕ → Bool
is_pair v = eqb (be_at v 0 2) 2 && eqb (get_or v 2 0) 1

abbrev pub is_hop_size : ℕ → Bool
is_hop_size n = eqb n 16 || eqb n 32

-- where the next hop starts, how long it is said to be, and where the reserved octet stands after it
abbrev pub hop_start : ℕ
hop_start = 4

abbrev pub hop_size : List ℕ → ℕ
hop_size v = get_or v 3 0

abbrev pub reserved_at : List ℕ → ℕ
reserved_at v = hop_start + hop_size v

-- why both are refused first, where they are: 1; under three octets, whatever they are, 2; another pair, 17
unfoldable pub pair_fault : List ℕ → Verdict
pair_fault v =
    pick (ltb list_limit (length v)) (Err TooLong)
    (pick (ltb (length v) 3) (Err Truncated)
    (pick (is_pair v) fine (Err OtherFamily)))

-- what stands after the pair and before the routes of MP_REACH_NLRI: no length octet, 2; another length than 16 or 32, 18, be its octets there or not; the
-- next hop and the reserved octet all there, 2
abbrev pub after_pair : List ℕ → Result Head Refusal
after_pair v =
    pick (ltb (length v) hop_start) (Err Truncated)
    (pick (is_hop_size (hop_size v))
    (pick (ltb (reserved_at v) (length v)) (Ok (record { next_hop = hop_size v; reserved = not (eqb (get_or v (reserved_at v) 0) 0) })) (Err Truncated))
    (Err NextHopLength))

unfoldable pub head_of : List ℕ → Result Head Refusal
head_of v = answer_by (pair_fault v) (after_pair v) Err

-- the next hop as a part of the value, and nothing where it is refused
abbrev pub next_hop_at : Result Head Refusal → Extent
next_hop_at (Ok head) = extent hop_start head.next_hop
next_hop_at (Err r) = nothing
