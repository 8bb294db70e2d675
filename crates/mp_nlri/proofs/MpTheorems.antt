-- What reading and writing MP_REACH_NLRI and MP_UNREACH_NLRI are, in terms of bytes alone, over the definitions: what the demand of the calls cites.
-- Assumes nothing.
use Prim.Native.Nat.{ℕ, suc, ◌+◌, ◌/◌, ◌≤◌}
use mathlib.Core.Path.{◌≡◌, refl, sym, ap, ap₂, subst, ◌∙◌}
use mathlib.Core.List.{List, [], ◌∷◌, ◌++◌, append_assoc, map}
use mathlib.Core.Bool.{Bool, true, not}
use native.Mathlib.Omega.{arith}
use borrow.Author.Tests.{eqb-true}
use lib.ListN.{length, get_or, take, drop, length-append, length-drop, take-append-drop}
use lib.Seq.{take_at, drop_at, drop-drop, drop-cons, get_or_at, length-take-le}
use lib.Dec.{eqb}
use Rattle.std.specs.Prelude.{Result, Ok, Err}
use Rattle.wire.specs.Answer.{flag}
use Rattle.wire.specs.Cutting.{Cutting}
use Rattle.wire.specs.Number.{be_at}
use Rattle.wire.specs.Refusal.{list_limit}
use Rattle.wire.specs.Verdict.{fine, answer_by}
use Rattle.wire.specs.declared.refusal.Refusal.{Refusal}
use Rattle.wire.specs.Walk.{Reading, tally}
use Rattle.wire.proofs.ChoiceLaws.{and_true}
use Rattle.families.specs.Family.{max_of}
use Rattle.families.specs.declared.Afi.TheVariants.{Ipv6}
use Rattle.families.specs.declared.Form.{Form}
use Rattle.families.specs.declared.AddPath.{AddPath}
use Rattle.routes.specs.List.{fixed, list_of, hosts_of}
use Rattle.routes.specs.Prefix.{item_row, host_bits}
use Rattle.routes.specs.Promises.{count_answer, read_answer, with_hosts, count_list, read_list}
use Rattle.routes.specs.WellFormed.{WellFormed}
use Rattle.routes.specs.declared.Row.{Row}
use Rattle.routes.specs.declared.Routes.{Routes}
use Rattle.routes.proofs.PrefixLaws.{given_not_refused}
use Rattle.routes.proofs.CuttingLaws.{cut_hosts}
use Rattle.routes.proofs.ListLaws.{beside}
use Rattle.route_writer.proofs.RouteTheorems as Lists
use Rattle.mp_nlri.specs.Value.{is_pair, is_hop_size, hop_start, hop_size, reserved_at, pair_fault, head_of}
use Rattle.mp_nlri.specs.Read.{ipv6, reach_list, unreach_list, rows_of, if_head, count_reach, read_reach, count_unreach, read_unreach}
use Rattle.mp_nlri.specs.WellFormed.{HopSize, global, both, ReachFormed, RoutesFormed, ReachAccepted, UnreachAccepted}
use Rattle.mp_nlri.specs.declared.Head.{Head}
use Rattle.mp_nlri.specs.declared.Reach.{Reach}
use Rattle.mp_nlri.proofs.ValueLaws.{Paired, Headed, head_with, pair_cases, pair_by, head_by, head_good, hop_cases}

-- ---- the shape

pub hop_formed : (n : ℕ) → is_hop_size n ≡ true → HopSize n
hop_formed n e = hop_cases HopSize n e global both

pub formed_hop : (n : ℕ) → HopSize n → is_hop_size n ≡ true
formed_hop _ global = refl
formed_hop _ both = refl

pair_octets : (v : List ℕ) → 3 ≤ length v → is_pair v ≡ true → v ≡ 0 ∷ 2 ∷ 1 ∷ drop 3 v
unfolding be_at
pair_octets [] h e = absurd (omega arith)
pair_octets (a ∷ []) h e = absurd (omega arith)
pair_octets (a ∷ b ∷ []) h e = absurd (omega arith)
pair_octets (a ∷ b ∷ c ∷ t) h e =
    let both = and_true (eqb (be_at (a ∷ b ∷ c ∷ t) 0 2) 2) (eqb c 1) e in
    let family : be_at (a ∷ b ∷ c ∷ t) 0 2 ≡ 2 = eqb-true (be_at (a ∷ b ∷ c ∷ t) 0 2) 2 both.0 in
    let first : a ≡ 0 = omega (arith, family) in
    let second : b ≡ 2 = omega (arith, family) in
    let third : c ≡ 1 = eqb-true c 1 both.1 in
    rw (first, second, third) refl

octets_pair : (v t : List ℕ) → v ≡ 0 ∷ 2 ∷ 1 ∷ t → length v ≤ list_limit → Paired v
unfolding be_at
octets_pair v t e short = record { short = short; there = rw e (omega arith); pair = rw e refl }

-- a value up to its routes has it
head_formed : (v : List ℕ) (n : ℕ) (f : Bool) → Headed v n f → ReachFormed (take n (drop hop_start v)) (get_or v (hop_start + n) 0) (reach_list v) v
head_formed v n f h =
    let hop : List ℕ = take n (drop hop_start v) in
    let size : length hop ≡ n = length-take-le n (drop hop_start v) (omega (arith, h.whole, length-drop hop_start v)) in
    let past : drop n (drop hop_start v) ≡ get_or v (hop_start + n) 0 ∷ reach_list v =
    drop-drop n hop_start v
    ∙ drop-cons v (hop_start + n) 0 h.whole
    ∙ ap (λ (k : ℕ). get_or v (hop_start + n) 0 ∷ drop k v) (let same : suc (hop_start + n) ≡ reserved_at v + 1 = omega (arith, h.told) in same) in
    record {
      octets =
          pair_octets v h.paired.there h.paired.pair
          ∙ ap (λ (t : List ℕ). 0 ∷ 2 ∷ 1 ∷ t)
          (drop-cons v 3 0 (omega (arith, h.whole))
          ∙ ap₂ (λ (k : ℕ) (t : List ℕ). k ∷ t) (sym h.told ∙ sym size) (sym (take-append-drop n (drop hop_start v)) ∙ ap (λ (t : List ℕ). hop ++ t) past));
      sized = rw size (hop_formed n h.sized);
    }

-- and what has it is such a value, of that next hop and those routes
module _ (hop : List ℕ) (reserved : ℕ) (list : List ℕ) (v : List ℕ) (h : ReachFormed hop reserved list v) where
  front : List ℕ
  front = 0 ∷ 2 ∷ 1 ∷ length hop ∷ hop

  told : length hop ≡ hop_size v
  told = rw h.octets refl

  pub formed_length : length v ≡ hop_start + length hop + 1 + length list
  formed_length = rw h.octets (omega (arith, length-append hop (reserved ∷ list)))

  pub formed_octet : get_or v (hop_start + length hop) 0 ≡ reserved
  unfolding front
  formed_octet = rw h.octets (get_or_at front reserved list 0 (hop_start + length hop) (omega arith))

  pub formed_head : length v ≤ list_limit → Headed v (length hop) (not (eqb reserved 0))
  formed_head short = record {
    paired = octets_pair v _ h.octets short;
    told = told;
    sized = formed_hop (length hop) h.sized;
    whole = omega (arith, formed_length);
    flagged = rw formed_octet refl;
  }

  pub formed_list : reach_list v ≡ list
  unfolding front
  formed_list =
      let all : v ≡ (front ++ (reserved ∷ [])) ++ list = h.octets ∙ sym (append_assoc front (reserved ∷ []) list) in
      let size : length (front ++ (reserved ∷ [])) ≡ reserved_at v + 1 = omega (arith, length-append front (reserved ∷ []), told) in
      ap (drop (reserved_at v + 1)) all ∙ drop_at (front ++ (reserved ∷ [])) list (reserved_at v + 1) size

  pub formed_next_hop : take (length hop) (drop hop_start v) ≡ hop
  formed_next_hop = ap (λ (s : List ℕ). take (length hop) (drop hop_start s)) h.octets ∙ take_at hop (reserved ∷ list) (length hop) refl

-- so there is one such shape
pub one_shape : (hop hop' list list' v : List ℕ) (r r' : ℕ) → ReachFormed hop r list v → ReachFormed hop' r' list' v → (hop ≡ hop') × (r ≡ r') × (list ≡ list')
one_shape hop hop' list list' v r r' h h' =
    let size : length hop ≡ length hop' = told hop r list v h ∙ sym (told hop' r' list' v h') in (
      sym (formed_next_hop hop r list v h) ∙ ap (λ (n : ℕ). take n (drop hop_start v)) size ∙ formed_next_hop hop' r' list' v h',
      sym (formed_octet hop r list v h) ∙ ap (λ (n : ℕ). get_or v (hop_start + n) 0) size ∙ formed_octet hop' r' list' v h',
      sym (formed_list hop r list v h) ∙ formed_list hop' r' list' v h',
    )

-- ---- routes that are accepted

-- what is given is one value
given_same : {X : Type 0} (x y : X) → ◌≡◌ {A = Result X Refusal} (Ok x) (Ok y) → x ≡ y
given_same x y e = cc

abbrev pub rows_told : ℕ → ℕ → Result Routes Refusal
rows_told rows hosts = Ok (record { rows = rows; hosts = hosts })

pub answer_is : (a : Result ℕ Refusal) (h rows hosts : ℕ) → with_hosts a h ≡ rows_told rows hosts → (a ≡ Ok rows) × (h ≡ hosts)
answer_is (Ok n) h rows hosts e = let same = given_same _ _ e in (ap (λ (r : Routes). Ok r.rows) same, ap (λ (r : Routes). r.hosts) same)
answer_is (Err why) h rows hosts e = absurd (given_not_refused (sym e))

module _ (form : Form) (mode : AddPath) (on : mode ≡ fixed form) (l : List ℕ) where
  reads : Lists.Reads (max_of Ipv6) form l (list_of l (max_of Ipv6) mode)
  reads = Lists.list_reads (max_of Ipv6) form l mode on

  cut_marked : (items : List (List ℕ)) → Cutting (WellFormed (max_of Ipv6) form) l items → hosts_of l (max_of Ipv6) mode ≡ tally flag (map (host_bits form) items)
  cut_marked items c = ap (hosts_of l (max_of Ipv6)) on ∙ cut_hosts (max_of Ipv6) form l items c

  module _ (rows hosts : ℕ) where
    pub counted_formed : count_list ipv6 l mode ≡ rows_told rows hosts → RoutesFormed form l rows hosts
    counted_formed e =
        let p = answer_is (count_answer l (list_of l (max_of Ipv6) mode)) _ rows hosts e in
        let c = Lists.counted_cut reads rows p.0 in
        record { items = c.0; cut = c.1; many = sym c.2; marked = sym p.1 ∙ cut_marked c.0 c.1 }

    read_formed : (d : List ℕ) → read_list ipv6 l mode (length d) ≡ rows_told rows hosts → RoutesFormed form l rows hosts × (rows ≤ length d / 6)
    read_formed d e =
        let p = answer_is (read_answer l (list_of l (max_of Ipv6) mode) (length d)) _ rows hosts e in
        let c = Lists.accepted_cut reads d rows p.0 in
        (record { items = c.0; cut = c.1; many = sym c.2; marked = sym p.1 ∙ cut_marked c.0 c.1 }, c.4)

    module _ (h : RoutesFormed form l rows hosts) (short : length l ≤ list_limit) where
      formed_counted : count_list ipv6 l mode ≡ rows_told rows hosts
      formed_counted =
          beside (hosts_of l (max_of Ipv6) mode) _ _ (Lists.cut_counted reads h.items h.cut short)
          ∙ ap₂ rows_told (sym h.many) (cut_marked h.items h.cut ∙ sym h.marked)

      formed_read : (d : List ℕ) → rows ≤ length d / 6 → read_list ipv6 l mode (length d) ≡ rows_told rows hosts
      formed_read d room =
          beside (hosts_of l (max_of Ipv6) mode) _ _ (Lists.cut_accepted reads d h.items h.cut short (omega (arith, h.many)))
          ∙ ap₂ rows_told (sym h.many) (cut_marked h.items h.cut ∙ sym h.marked)

-- ---- MP_REACH_NLRI is accepted exactly if it has the shape and such routes

abbrev pub reach_told : ℕ → Bool → ℕ → ℕ → Result Reach Refusal
reach_told n f rows hosts = Ok (record { next_hop = n; reserved = f; rows = rows; hosts = hosts })

pub reach_is : (n : ℕ) (f : Bool) (rows hosts : ℕ) (x : Result Head Refusal) (a : Result Routes Refusal) → if_head x a ≡ reach_told n f rows hosts → (x ≡ Ok (head_with n f)) × (a ≡ rows_told rows hosts)
reach_is n f rows hosts (Ok head) (Ok routes) e =
    let same = given_same _ _ e in
    (ap (λ (r : Reach). Ok (head_with r.next_hop r.reserved)) same, ap (λ (r : Reach). rows_told r.rows r.hosts) same)
reach_is n f rows hosts (Ok head) (Err why) e = absurd (given_not_refused (sym e))
reach_is n f rows hosts (Err why) a e = absurd (given_not_refused (sym e))

module _ (v : List ℕ) (form : Form) (mode : AddPath) (on : mode ≡ fixed form) (n : ℕ) (f : Bool) (rows hosts : ℕ) where
  accepted_by : head_of v ≡ Ok (head_with n f) → RoutesFormed form (reach_list v) rows hosts → ReachAccepted form v n f rows hosts
  accepted_by e h =
      let k = head_good v n f e in
      let formed = head_formed v n f k in
      record {
        hop = take n (drop hop_start v);
        octet = get_or v (hop_start + n) 0;
        list = reach_list v;
        formed = formed;
        routes = h;
        hop_told = sym (length-take-le n (drop hop_start v) (omega (arith, k.whole, length-drop hop_start v)));
        octet_told = k.flagged;
        short = k.paired.short;
      }

  pub reach_counted : count_reach v mode ≡ reach_told n f rows hosts → ReachAccepted form v n f rows hosts
  unfolding count_reach
  reach_counted e = let p = reach_is n f rows hosts (head_of v) _ e in accepted_by p.0 (counted_formed form mode on (reach_list v) rows hosts p.1)

  pub reach_read : (d : List ℕ) → read_reach v mode (length d) ≡ reach_told n f rows hosts → ReachAccepted form v n f rows hosts × (rows ≤ length d / 6)
  unfolding read_reach
  reach_read d e =
      let p = reach_is n f rows hosts (head_of v) _ e in
      let h = read_formed form mode on (reach_list v) rows hosts d p.1 in
      (accepted_by p.0 h.0, h.1)

  -- and such a value is
  module _ (h : ReachAccepted form v n f rows hosts) where
    headed : head_of v ≡ Ok (head_with n f)
    headed = head_by v _ _ (formed_head h.hop h.octet h.list v h.formed h.short) ∙ ap₂ (λ (k : ℕ) (g : Bool). Ok (head_with k g)) (sym h.hop_told) (sym h.octet_told)

    its_list : reach_list v ≡ h.list
    its_list = formed_list h.hop h.octet h.list v h.formed

    its_routes : RoutesFormed form (reach_list v) rows hosts
    its_routes = subst (λ (l : List ℕ). RoutesFormed form l rows hosts) (sym its_list) h.routes

    its_length : length (reach_list v) ≤ list_limit
    its_length = omega (arith, length-drop (reserved_at v + 1) v, h.short)

    pub accepted_counted : count_reach v mode ≡ reach_told n f rows hosts
    unfolding count_reach
    accepted_counted = ap₂ if_head headed (formed_counted form mode on (reach_list v) rows hosts its_routes its_length)

    pub accepted_read : (d : List ℕ) → rows ≤ length d / 6 → read_reach v mode (length d) ≡ reach_told n f rows hosts
    unfolding read_reach
    accepted_read d room = ap₂ if_head headed (formed_read form mode on (reach_list v) rows hosts its_routes its_length d room)

    -- its rows are those of the items
    pub accepted_rows : rows_of (reach_list v) mode ≡ map (item_row form) h.routes.items
    accepted_rows =
        ap (λ (l : List ℕ). rows_of l mode) its_list ∙ ap (λ (r : Reading Row). r.rows) ((reads form mode on h.list).read h.routes.items h.routes.cut)

-- ---- and MP_UNREACH_NLRI

-- what is not refused by the pair
pub unreach_is : (v : List ℕ) (a : Result Routes Refusal) (rows hosts : ℕ) → answer_by (pair_fault v) a Err ≡ rows_told rows hosts → Paired v × (a ≡ rows_told rows hosts)
unreach_is v a rows hosts =
    pair_cases v (λ k. answer_by k a Err ≡ rows_told rows hosts → Paired v × (a ≡ rows_told rows hosts)) bad bad bad (λ h e. (h, e))
  where
    bad : {why : Refusal} → Err why ≡ rows_told rows hosts → Paired v × (a ≡ rows_told rows hosts)
    bad e = absurd (given_not_refused (sym e))

module _ (v : List ℕ) (form : Form) (mode : AddPath) (on : mode ≡ fixed form) (rows hosts : ℕ) where
  withdrawn_by : Paired v → RoutesFormed form (unreach_list v) rows hosts → UnreachAccepted form v rows hosts
  withdrawn_by k h = record { list = unreach_list v; formed = record { octets = pair_octets v k.there k.pair }; routes = h; short = k.short }

  pub unreach_counted : count_unreach v mode ≡ rows_told rows hosts → UnreachAccepted form v rows hosts
  unfolding count_unreach
  unreach_counted e = let p = unreach_is v _ rows hosts e in withdrawn_by p.0 (counted_formed form mode on (unreach_list v) rows hosts p.1)

  pub unreach_read : (d : List ℕ) → read_unreach v mode (length d) ≡ rows_told rows hosts → UnreachAccepted form v rows hosts × (rows ≤ length d / 6)
  unfolding read_unreach
  unreach_read d e =
      let p = unreach_is v _ rows hosts e in
      let h = read_formed form mode on (unreach_list v) rows hosts d p.1 in
      (withdrawn_by p.0 h.0, h.1)

  module _ (h : UnreachAccepted form v rows hosts) where
    no_fault : pair_fault v ≡ fine
    no_fault = pair_by v (octets_pair v h.list h.formed.octets h.short)

    withdrawn_list : unreach_list v ≡ h.list
    withdrawn_list = ap (drop 3) h.formed.octets

    withdrawn_routes : RoutesFormed form (unreach_list v) rows hosts
    withdrawn_routes = subst (λ (l : List ℕ). RoutesFormed form l rows hosts) (sym withdrawn_list) h.routes

    withdrawn_length : length (unreach_list v) ≤ list_limit
    withdrawn_length = omega (arith, length-drop 3 v, h.short)

    pub withdrawn_counted : count_unreach v mode ≡ rows_told rows hosts
    unfolding count_unreach
    withdrawn_counted = rw no_fault (formed_counted form mode on (unreach_list v) rows hosts withdrawn_routes withdrawn_length)

    pub withdrawn_read : (d : List ℕ) → rows ≤ length d / 6 → read_unreach v mode (length d) ≡ rows_told rows hosts
    unfolding read_unreach
    withdrawn_read d room = rw no_fault (formed_read form mode on (unreach_list v) rows hosts withdrawn_routes withdrawn_length d room)

    pub withdrawn_rows : rows_of (unreach_list v) mode ≡ map (item_row form) h.routes.items
    withdrawn_rows =
        ap (λ (l : List ℕ). rows_of l mode) withdrawn_list ∙ ap (λ (r : Reading Row). r.rows) ((reads form mode on h.list).read h.routes.items h.routes.cut)
