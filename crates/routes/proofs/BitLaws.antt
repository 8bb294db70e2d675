-- Host bits of one route, bit by bit: what the call on it tells of the bits of its octets.
-- Assumes nothing.
use Prim.Native.Nat.{ℕ, zero, suc, ◌+◌, ◌-◌, ◌*◌, ◌^◌, ◌/◌, ◌%◌, ◌≤◌, ◌<◌}
use mathlib.Core.Path.{◌≡◌, refl, sym, ap, ap₂, ◌∙◌}
use mathlib.Core.List.{List, ◌∷◌, ◌++◌}
use mathlib.Core.Bool.{Bool, true, false, not, ◌&&◌}
use native.Mathlib.Nat.{lt_of_not-le, zero-div}
use native.Mathlib.Decide.{dec_le}
use native.Mathlib.Omega.{arith}
use borrow.Author.Tests.{eqb-true, ltb-true, not-true, not-false}
use lib.Dec.{eqb, ltb}
use lib.ListN.{length, get_or, take, length-append, get_or-eq_default}
use lib.Seq.{get_or-drop, get_or-take, drop-append_seam, length-take-le}
use Rattle.wire.specs.Choice.{pick, below}
use Rattle.wire.specs.Number.{Bytes}
use Rattle.wire.proofs.ChoiceLaws.{below_at, and_true}
use Rattle.wire.proofs.NumberLaws.{bytes_take}
use Rattle.families.specs.Family.{id_size, octets}
use Rattle.families.specs.declared.Form.{Form}
use Rattle.routes.specs.Prefix.{prefix_of, host_bits, with_host, route_of}
use Rattle.std.specs.Prelude.{Result, Ok, Err}
use Rattle.wire.specs.declared.refusal.Refusal.{Refusal}
use Rattle.routes.specs.declared.Prefix.{Prefix}
use Rattle.routes.specs.declared.Route.{Route}
use Rattle.routes.proofs.PrefixLaws.{given_not_refused, prefix_took}
use Rattle.routes.proofs.HostLaws.{host_last}

-- ---- the last bits of a byte

-- the lowest bit that is set
abbrev lowest : ℕ → ℕ → ℕ
lowest zero x = 0
lowest (suc f) x = pick (eqb (x % 2) 1) 0 (suc (lowest f (x / 2)))

-- where the last q bits of a byte are 0 each is, and else the lowest that is set is one of them
abbrev each_bit : ℕ → ℕ → Bool
each_bit q last = pick (eqb (last % 2 ^ q) 0) (below (λ j. eqb (last / 2 ^ j % 2) 0) q) (ltb (lowest 8 last) q && eqb (last / 2 ^ lowest 8 last % 2) 1)

each_byte : below (λ q. below (each_bit q) 256) 8 ≡ true
each_byte = refl

module _ (last q : ℕ) (byte : last < 256) (few : q < 8) where
  here : each_bit q last ≡ true
  here = below_at (each_bit q) 256 last (below_at (λ j. below (each_bit j) 256) 8 q each_byte few) byte

  bits_clear : eqb (last % 2 ^ q) 0 ≡ true → (j : ℕ) → j < q → last / 2 ^ j % 2 ≡ 0
  bits_clear e j lt = eqb-true _ _ (below_at (λ i. eqb (last / 2 ^ i % 2) 0) q j (rw e at here) lt)

  bit_set : eqb (last % 2 ^ q) 0 ≡ false → (j : ℕ) × (j < q) × (last / 2 ^ j % 2 ≡ 1)
  bit_set e = let both = and_true (ltb (lowest 8 last) q) (eqb (last / 2 ^ lowest 8 last % 2) 1) (rw e at here) in (lowest 8 last, ltb-true _ _ both.0, eqb-true _ _ both.1)

-- ---- an item in its parts

module _ (form : Form) (item ident o : List ℕ) (len : ℕ) (parts : item ≡ ident ++ (len ∷ o)) (size : length ident ≡ id_size form) (whole : length o ≡ octets len) (each : Bytes item) where
  -- a byte of it, from the length byte on
  byte_at : (k : ℕ) → get_or item (id_size form + k) 0 ≡ get_or (len ∷ o) k 0
  byte_at k =
      ap₂ (λ (l : List ℕ) (n : ℕ). get_or l (n + k) 0) parts (sym size)
      ∙ sym (get_or-drop (length ident) (ident ++ (len ∷ o)) k 0)
      ∙ ap (λ (l : List ℕ). get_or l k 0) (drop-append_seam ident (len ∷ o))

  long : length item ≡ id_size form + suc (length o)
  long = ap length parts ∙ length-append ident (len ∷ o) ∙ ap (λ (n : ℕ). n + suc (length o)) size

  abbrev last : ℕ
  last = get_or item (length item - 1) 0

  -- how many bits of it are past the length
  abbrev past : ℕ
  past = 8 * octets len - len

  host_is : host_bits form item ≡ not (eqb (last % 2 ^ past) 0)
  host_is =
      let bits : get_or item (id_size form) 0 ≡ len = ap (λ (n : ℕ). get_or item n 0) (let e : id_size form ≡ id_size form + 0 = omega arith in e) ∙ byte_at 0 in
      host_last form item (omega (arith, long)) ∙ ap (λ (l : ℕ). not (eqb (last % 2 ^ (8 * octets l - l)) 0)) bits

  -- the bit at a place of the octets that is past the length: one of the last byte's, or none
  bit_last : (j : ℕ) → j < past → get_or o ((8 * octets len - 1 - j) / 8) 0 / 2 ^ (7 - (8 * octets len - 1 - j) % 8) % 2 ≡ last / 2 ^ j % 2
  bit_last j lt =
      let place : (8 * octets len - 1 - j) / 8 ≡ length o - 1 = omega (arith, whole) in
      let shift : 7 - (8 * octets len - 1 - j) % 8 ≡ j = omega arith in
      let end : length item - 1 ≡ id_size form + suc (length o - 1) = omega (arith, long, whole) in
      ap₂ (λ (i k : ℕ). get_or o i 0 / 2 ^ k % 2) place shift
      ∙ ap (λ (x : ℕ). x / 2 ^ j % 2) (sym (byte_at (suc (length o - 1))) ∙ ap (λ (i : ℕ). get_or item i 0) (sym end))

  pub item_bits : (host_bits form item ≡ false → (i : ℕ) → len ≤ i → get_or o (i / 8) 0 / 2 ^ (7 - i % 8) % 2 ≡ 0)
      × (host_bits form item ≡ true → (i : ℕ) × (len ≤ i) × (get_or o (i / 8) 0 / 2 ^ (7 - i % 8) % 2 ≡ 1))
  item_bits = (
    λ none i le.
        elim (dec_le (8 * octets len) i) [
          | yes out ↦ (let gone : get_or o (i / 8) 0 ≡ 0 = get_or-eq_default o 0 {n = i / 8} (omega (arith, whole)) in
              ap (λ (x : ℕ). x / 2 ^ (7 - i % 8) % 2) gone ∙ ap (λ (x : ℕ). x % 2) (zero-div (2 ^ (7 - i % 8))))
          | no in_last ↦ (let lt : i < 8 * octets len = lt_of_not-le in_last in
              let j : ℕ = 8 * octets len - 1 - i in
              let same : i ≡ 8 * octets len - 1 - j = omega arith in
              ap (λ (n : ℕ). get_or o (n / 8) 0 / 2 ^ (7 - n % 8) % 2) same
              ∙ bit_last j (omega arith)
              ∙ bits_clear last past (each (length item - 1)) (omega arith) (not-false _ (sym host_is ∙ none)) j (omega arith))
        ],
    λ some.
        (let s = bit_set last past (each (length item - 1)) (omega arith) (not-true _ (sym host_is ∙ some)) in
        (8 * octets len - 1 - s.0, omega (arith, s.1), bit_last s.0 s.1 ∙ s.2)),
  )

-- ---- what the call tells

module _ (s : List ℕ) (max : ℕ) (form : Form) (z : Result Route Refusal) (call : z ≡ route_of s max form) where
  -- of a route: its prefix, and whether it has a host bit
  pub route_prefix : (route : Route) → z ≡ Ok route → (prefix_of s max form ≡ Ok route.prefix) × (route.host ≡ host_bits form (take route.prefix.used s))
  unfolding route_of
  route_prefix route e = by (prefix_of s max form) (sym call ∙ e)
    where
      by : (a : Result Prefix Refusal) → with_host form s a ≡ Ok route → (a ≡ Ok route.prefix) × (route.host ≡ host_bits form (take route.prefix.used s))
      by (Ok p) f =
          let same : record { prefix = p; host = host_bits form (take p.used s) } ≡ route = cc in
          let here : p ≡ route.prefix = ap (λ (r : Route). r.prefix) same in
          (ap Ok here, sym (ap (λ (r : Route). r.host) same) ∙ ap (λ (q : Prefix). host_bits form (take q.used s)) here)
      by (Err r) f = absurd (given_not_refused (sym f))

  -- of a refusal: the prefix is refused alike
  pub route_refused : (r : Refusal) → z ≡ Err r → prefix_of s max form ≡ Err r
  unfolding route_of
  route_refused r e = by (prefix_of s max form) (sym call ∙ e)
    where
      by : (a : Result Prefix Refusal) → with_host form s a ≡ Err r → a ≡ Err r
      by (Ok p) f = absurd (given_not_refused f)
      by (Err n) f = let same : n ≡ r = cc in ap Err same

  pub route_bits : (route : Route) → z ≡ Ok route → Bytes s → (ident o : List ℕ) (len : ℕ) → take route.prefix.used s ≡ ident ++ (len ∷ o) → length ident ≡ id_size form
      → (route.host ≡ false → (i : ℕ) → len ≤ i → get_or o (i / 8) 0 / 2 ^ (7 - i % 8) % 2 ≡ 0)
      × (route.host ≡ true → (i : ℕ) × (len ≤ i) × (get_or o (i / 8) 0 / 2 ^ (7 - i % 8) % 2 ≡ 1))
  route_bits route e each ident o len parts size =
      let used : ℕ = route.prefix.used in
      let it = route_prefix route e in
      let t = prefix_took s max form used route.prefix.row it.0 in
      let long = length-take-le used s t.room in
      let bits : get_or s (id_size form) 0 ≡ len =
      sym (get_or-take used s (id_size form) 0 (omega (arith, t.size)))
      ∙ ap₂ (λ (l : List ℕ) (n : ℕ). get_or l n 0) parts (let k : id_size form ≡ length ident + 0 = omega (arith, size) in k)
      ∙ sym (get_or-drop (length ident) (ident ++ (len ∷ o)) 0 0)
      ∙ ap (λ (l : List ℕ). get_or l 0 0) (drop-append_seam ident (len ∷ o)) in
      let whole : length o ≡ octets len =
      (let n : used ≡ id_size form + 1 + octets len = t.size ∙ ap (λ (l : ℕ). id_size form + 1 + octets l) bits in omega (arith, n, long, ap length parts, length-append ident (len ∷ o), size)) in
      let b = item_bits form (take used s) ident o len parts size whole (bytes_take used s each) in
      (λ none. b.0 (sym it.1 ∙ none), λ some. b.1 (sym it.1 ∙ some))
