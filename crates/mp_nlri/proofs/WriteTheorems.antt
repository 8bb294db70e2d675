-- What is written of MP_REACH_NLRI and MP_UNREACH_NLRI, in terms of bytes alone, over the definitions: what the demand of the calls cites.
-- Assumes nothing.
use Prim.Native.Nat.{ℕ, ◌+◌, ◌*◌, ◌/◌, ◌≤◌}
use mathlib.Core.Path.{◌≡◌, refl, sym, ap, subst, ◌∙◌}
use mathlib.Core.List.{List, [], ◌∷◌, ◌++◌, append_assoc, map}
use mathlib.Core.Bool.{Bool, false, not}
use native.Mathlib.Omega.{arith}
use borrow.Author.Tests.{eqb-true, not-false}
use lib.ListN.{length, take, drop, length-map}
use lib.Seq.{get_or-drop}
use lib.Dec.{eqb}
use Rattle.wire.specs.Number.{Words}
use Rattle.wire.specs.Number as Number
use Rattle.wire.specs.Refusal.{list_limit}
use Rattle.wire.specs.Store.{laid}
use Rattle.wire.specs.Walk.{flat}
use Rattle.std.specs.Prelude.{Result, Ok}
use Rattle.wire.specs.Verdict.{Verdict, fine}
use Rattle.wire.specs.declared.refusal.Refusal.{Refusal}
use Rattle.routes.proofs.PrefixLaws.{given_not_refused}
use Rattle.wire.proofs.AnswerLaws.{limited_fits}
use Rattle.wire.proofs.StoreLaws.{take_laid}
use Rattle.families.specs.Family.{max_of}
use Rattle.families.specs.declared.Afi.TheVariants.{Ipv6}
use Rattle.families.specs.declared.Form.{Form}
use Rattle.families.proofs.FamilyLaws.{max_small}
use Rattle.routes.specs.List.{fixed, hosts_of}
use Rattle.routes.specs.Prefix.{item_row, words}
use Rattle.routes.proofs.ListLaws.{words_length, beside}
use Rattle.route_bytes.specs.Encode.{writing}
use Rattle.route_writer.specs.Promises.{write_after}
use Rattle.route_writer.proofs.PromiseLaws.{after_written}
use Rattle.route_writer.proofs.RouteTheorems as Lists
use Rattle.mp_nlri.specs.Value.{is_hop_size, hop_start, reserved_at, reach_head, reach_bytes, unreach_bytes}
use Rattle.mp_nlri.specs.Read.{rows_of, reach_list, unreach_list}
use Rattle.mp_nlri.specs.Write.{route_bytes, write_reach, write_unreach}
use Rattle.mp_nlri.specs.WellFormed.{HopSize, ReachFormed, UnreachFormed, RoutesFormed, ReachAccepted, UnreachAccepted}
use Rattle.mp_nlri.proofs.ValueLaws.{pick_told}
use Rattle.mp_nlri.proofs.MpTheorems.{hop_formed, formed_hop, formed_length, formed_list, one_shape, counted_formed}

-- ---- what the writers put

abbrev verdict : List ℕ → Form → Verdict
verdict ws form = (writing ws (max_of Ipv6) form).verdict

-- a next hop and routes, with a reserved octet of 0
pub reach_shape : (hop list : List ℕ) → HopSize (length hop) → ReachFormed hop 0 list (reach_bytes hop list)
unfolding reach_bytes reach_head
reach_shape hop list size = record { octets = ap (λ (t : List ℕ). 0 ∷ 2 ∷ 1 ∷ length hop ∷ t) (append_assoc hop (0 ∷ []) list); sized = size }

pub unreach_shape : (list : List ℕ) → UnreachFormed list (unreach_bytes list)
unfolding unreach_bytes
unreach_shape list = record { octets = refl }

module _ (hop ws : List ℕ) (form : Form) (places : ℕ) where
  -- what is written had a next hop of such a length and rows that can be written, keeps the limit, and had room
  pub reach_wrote : (n : ℕ) → write_reach (length hop) ws form places ≡ Ok n
      → HopSize (length hop) × (verdict ws form ≡ fine) × (length (reach_bytes hop (route_bytes ws form)) ≡ n) × (n ≤ list_limit) × (n ≤ places)
  unfolding write_reach
  reach_wrote n =
      pick_told (λ (a : Result ℕ Refusal). a ≡ Ok n → HopSize (length hop) × (verdict ws form ≡ fine) × (length (reach_bytes hop (route_bytes ws form)) ≡ n) × (n ≤ list_limit) × (n ≤ places))
      (is_hop_size (length hop)) _ _
      (λ size e.
      let w = after_written (hop_start + length hop + 1) ws (max_of Ipv6) form places n e in
      let shape = reach_shape hop (route_bytes ws form) (hop_formed (length hop) size) in
      (hop_formed (length hop) size, w.0, formed_length hop 0 (route_bytes ws form) _ shape ∙ w.1, w.2, w.3))
      (λ _ e. absurd (given_not_refused (sym e)))

  -- and what keeps the limit is written, given room
  pub reach_written_lem : HopSize (length hop) → verdict ws form ≡ fine → length (reach_bytes hop (route_bytes ws form)) ≤ list_limit → length (reach_bytes hop (route_bytes ws form)) ≤ places
      → write_reach (length hop) ws form places ≡ Ok (length (reach_bytes hop (route_bytes ws form)))
  unfolding write_reach write_after
  reach_written_lem size good short room =
      let is = formed_length hop 0 (route_bytes ws form) _ (reach_shape hop (route_bytes ws form) size) in
      rw (formed_hop (length hop) size, good, is) (limited_fits list_limit _ places (omega (arith, is)) (omega (arith, is)))

module _ (ws : List ℕ) (form : Form) (places : ℕ) where
  unreach_size : length (unreach_bytes (route_bytes ws form)) ≡ 3 + length (route_bytes ws form)
  unfolding unreach_bytes
  unreach_size = omega arith

  pub unreach_wrote : (n : ℕ) → write_unreach ws form places ≡ Ok n → (verdict ws form ≡ fine) × (length (unreach_bytes (route_bytes ws form)) ≡ n) × (n ≤ list_limit) × (n ≤ places)
  unreach_wrote n e = let w = after_written 3 ws (max_of Ipv6) form places n e in (w.0, unreach_size ∙ w.1, w.2, w.3)

  pub unreach_written_lem : verdict ws form ≡ fine → length (unreach_bytes (route_bytes ws form)) ≤ list_limit → length (unreach_bytes (route_bytes ws form)) ≤ places
      → write_unreach ws form places ≡ Ok (length (unreach_bytes (route_bytes ws form)))
  unfolding write_after
  unreach_written_lem good short room = rw (good, unreach_size) (limited_fits list_limit _ places (omega (arith, unreach_size)) (omega (arith, unreach_size)))

-- ---- what is written is read again

module _ (ws : List ℕ) (form : Form) (wide : Words ws) (good : verdict ws form ≡ fine) where
  -- how many of its routes have a host bit
  abbrev pub hosts_again : ℕ
  hosts_again = hosts_of (route_bytes ws form) (max_of Ipv6) (fixed form)

  routes_again : length (route_bytes ws form) ≤ list_limit → RoutesFormed form (route_bytes ws form) (length ws / 6) hosts_again
  routes_again short =
      counted_formed form (fixed form) refl (route_bytes ws form) (length ws / 6) hosts_again
      (beside hosts_again _ _ (Lists.counted_again (max_of Ipv6) (max_small Ipv6) form ws wide good short))

  pub reach_again : (hop : List ℕ) → HopSize (length hop) → length (reach_bytes hop (route_bytes ws form)) ≤ list_limit
      → ReachAccepted form (reach_bytes hop (route_bytes ws form)) (length hop) false (length ws / 6) hosts_again
  reach_again hop size short =
      let shape = reach_shape hop (route_bytes ws form) size in
      record {
        hop = hop;
        octet = 0;
        list = route_bytes ws form;
        formed = shape;
        routes = routes_again (omega (arith, short, formed_length hop 0 (route_bytes ws form) _ shape));
        hop_told = refl;
        octet_told = refl;
        short = short;
      }

  pub unreach_again : length (unreach_bytes (route_bytes ws form)) ≤ list_limit → UnreachAccepted form (unreach_bytes (route_bytes ws form)) (length ws / 6) hosts_again
  unreach_again short = record {
    list = route_bytes ws form;
    formed = unreach_shape (route_bytes ws form);
    routes = routes_again (omega (arith, short, unreach_size ws form 0));
    short = short;
  }

  -- its rows are the store that was written
  pub reach_words : (hop : List ℕ) → HopSize (length hop) → flat words (rows_of (reach_list (reach_bytes hop (route_bytes ws form))) (fixed form)) ≡ ws
  reach_words hop size =
      ap (λ (l : List ℕ). flat words (rows_of l (fixed form))) (formed_list hop 0 (route_bytes ws form) _ (reach_shape hop (route_bytes ws form) size))
      ∙ Lists.words_again (max_of Ipv6) (max_small Ipv6) form ws wide good

  pub unreach_words : flat words (rows_of (unreach_list (unreach_bytes (route_bytes ws form))) (fixed form)) ≡ ws
  unfolding unreach_bytes
  unreach_words = Lists.words_again (max_of Ipv6) (max_small Ipv6) form ws wide good

-- ---- what was read is written again

-- the rows that a store holds, of routes that were read into it
pub stored_words : (form : Form) (list : List ℕ) (rows hosts : ℕ) (h : RoutesFormed form list rows hosts) (d : List ℕ) → rows ≤ length d / 6
    → take (6 * rows) (laid d 0 (flat words (map (item_row form) h.items))) ≡ flat words (map (item_row form) h.items)
stored_words form list rows hosts h d room =
    let vs : List ℕ = flat words (map (item_row form) h.items) in
    let size : length vs ≡ 6 * rows = words_length (map (item_row form) h.items) ∙ ap (λ (k : ℕ). 6 * k) (length-map h.items (item_row form) ∙ sym h.many) in
    let all : 6 * rows ≡ 0 + length vs = omega arith in
    ap (λ (k : ℕ). take k (laid d 0 vs)) all ∙ take_laid d 0 vs (omega arith)

drop_bytes : (k : ℕ) (v : List ℕ) → Number.Bytes v → Number.Bytes (drop k v)
drop_bytes k v each i = rw (get_or-drop k v i 0) (each _)

-- the rows of routes that were accepted, from their bytes
module _ (form : Form) (list : List ℕ) (rows hosts : ℕ) (h : RoutesFormed form list rows hosts) (each : Number.Bytes list) where
  routes_back : let ws = flat words (map (item_row form) h.items) in (verdict ws form ≡ fine) × (route_bytes ws form ≡ list)
  routes_back = Lists.items_bytes (max_of Ipv6) (max_small Ipv6) form list h.items each h.cut

module _ (v : List ℕ) (form : Form) (n : ℕ) (f : Bool) (rows hosts : ℕ) (h : ReachAccepted form v n f rows hosts) (each : Number.Bytes v) where
  abbrev pub reach_rows : List ℕ
  reach_rows = flat words (map (item_row form) h.routes.items)

  reach_list_back : (verdict reach_rows form ≡ fine) × (route_bytes reach_rows form ≡ h.list)
  reach_list_back = routes_back form h.list rows hosts h.routes (subst Number.Bytes (formed_list h.hop h.octet h.list v h.formed) (drop_bytes (reserved_at v + 1) v each))

  shape_back : ReachFormed h.hop 0 h.list (reach_bytes h.hop (route_bytes reach_rows form))
  shape_back = rw reach_list_back.1 (reach_shape h.hop h.list h.formed.sized)

  pub same_length : length (reach_bytes h.hop (route_bytes reach_rows form)) ≡ length v
  same_length = formed_length h.hop 0 h.list _ shape_back ∙ sym (formed_length h.hop h.octet h.list v h.formed)

  -- its next hop and its rows are written in as many bytes
  pub reach_back : (places : ℕ) → length v ≤ places → write_reach (length h.hop) reach_rows form places ≡ Ok (length v)
  reach_back places room =
      reach_written_lem h.hop reach_rows form places h.formed.sized reach_list_back.0 (omega (arith, same_length, h.short)) (omega (arith, same_length)) ∙ ap Ok same_length

  -- and in the same exactly if the reserved octet was 0
  pub back_same : f ≡ false → reach_bytes h.hop (route_bytes reach_rows form) ≡ v
  back_same off =
      let zero : h.octet ≡ 0 = eqb-true h.octet 0 (not-false (eqb h.octet 0) (sym h.octet_told ∙ off)) in
      shape_back.octets ∙ ap (λ (b : ℕ). 0 ∷ 2 ∷ 1 ∷ length h.hop ∷ (h.hop ++ (b ∷ h.list))) (sym zero) ∙ sym h.formed.octets

  pub same_back : reach_bytes h.hop (route_bytes reach_rows form) ≡ v → f ≡ false
  same_back e =
      let one = one_shape h.hop h.hop h.list h.list v h.octet 0 h.formed (subst (ReachFormed h.hop 0 h.list) e shape_back) in
      h.octet_told ∙ ap (λ (b : ℕ). not (eqb b 0)) one.1

module _ (v : List ℕ) (form : Form) (rows hosts : ℕ) (h : UnreachAccepted form v rows hosts) (each : Number.Bytes v) where
  abbrev pub unreach_rows : List ℕ
  unreach_rows = flat words (map (item_row form) h.routes.items)

  unreach_list_back : (verdict unreach_rows form ≡ fine) × (route_bytes unreach_rows form ≡ h.list)
  unreach_list_back = routes_back form h.list rows hosts h.routes (subst Number.Bytes (ap (drop 3) h.formed.octets) (drop_bytes 3 v each))

  pub withdrawn_same : unreach_bytes (route_bytes unreach_rows form) ≡ v
  withdrawn_same = ap unreach_bytes unreach_list_back.1 ∙ (unreach_shape h.list).octets ∙ sym h.formed.octets

  pub unreach_back : (places : ℕ) → length v ≤ places → write_unreach unreach_rows form places ≡ Ok (length v)
  unreach_back places room =
      let size : length (unreach_bytes (route_bytes unreach_rows form)) ≡ length v = ap length withdrawn_same in
      unreach_written_lem unreach_rows form places unreach_list_back.0 (omega (arith, size, h.short)) (omega (arith, size)) ∙ ap Ok size

-- ---- no two writings share their bytes

module _ (form : Form) (ws ws' : List ℕ) (wide : Words ws) (wide' : Words ws') (good : verdict ws form ≡ fine) (good' : verdict ws' form ≡ fine) where
  same_rows : route_bytes ws form ≡ route_bytes ws' form → ws ≡ ws'
  same_rows e = Lists.bytes_equal (max_of Ipv6) (max_small Ipv6) form ws ws' wide wide' good good' e

  pub one_reach : (hop hop' : List ℕ) → HopSize (length hop) → HopSize (length hop') → reach_bytes hop (route_bytes ws form) ≡ reach_bytes hop' (route_bytes ws' form) → (hop ≡ hop') × (ws ≡ ws')
  one_reach hop hop' size size' e =
      let shape = subst (ReachFormed hop 0 (route_bytes ws form)) e (reach_shape hop (route_bytes ws form) size) in
      let one = one_shape hop hop' (route_bytes ws form) (route_bytes ws' form) _ 0 0 shape (reach_shape hop' (route_bytes ws' form) size') in
      (one.0, same_rows one.2)

  pub one_unreach : unreach_bytes (route_bytes ws form) ≡ unreach_bytes (route_bytes ws' form) → ws ≡ ws'
  unfolding unreach_bytes
  one_unreach e = same_rows (ap (drop 3) e)
