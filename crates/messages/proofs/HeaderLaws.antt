-- Laws of the header: its marker as words, and the checks one after another.
-- Assumes nothing.
use Prim.Native.Nat.{ℕ, zero, suc, ◌+◌, ◌-◌, ◌≤◌, ◌<◌, min}
use mathlib.Core.Path.{◌≡◌, refl, sym, ap, ◌∙◌}
use mathlib.Core.List.{List, [], ◌∷◌, ◌++◌}
use mathlib.Core.Bool.{Bool, true, false, not}
use native.Mathlib.Nat.{le-min, min-le_right}
use native.Mathlib.Omega.{arith}
use borrow.Author.Tests.{eq-eqb, ne_eqb, lt-ltb, le-ltb, ltb-false, not-false}
use denote.Ref.{Bor}
use lib.ListN.{length, get_or, drop}
use lib.Dec.{eqb, ltb}
use Rattle.std.specs.Prelude.{Result, Ok, Err, Some}
use Rattle.std.specs.Ordering.{nat_cmp}
use Rattle.std.specs.Range.{range_inclusive_start, range_inclusive_end, range_inclusive_exhausted, range_inclusive_contains}
use Rattle.std.proofs.lemmas.Bool.Decides.{nat_tests}
use Rattle.wire.specs.Choice.{pick}
use Rattle.wire.proofs.ChoiceLaws.{pick_any, pick_eqb, pick_unless}
use Rattle.wire.specs.Extent.{PartOf}
use Rattle.wire.specs.Number.{be, padded, Bytes}
use Rattle.wire.proofs.NumberLaws.{padded_cells, padded_add, padded_take}
use Rattle.wire.specs.declared.refusal.Refusal.{Refusal}
use Rattle.wire.specs.declared.refusal.Refusal.TheVariants.{Truncated, MessageLength, MessageType, ShortBody, BadMarker}
use Rattle.messages.specs.Header.{open_kind, update_kind, notification_kind, keepalive_kind, route_refresh_kind, message_limit, extended_limit, kind_number, kind_named, kind_read, marker_size, all_ff, is_outside, is_unknown, header_size, crate_limit, least_length, most_length, message_of, strict_within, marker_of, claimed_of, kind_of, taken_of, accepted, accepted_whole, body_at}
use Rattle.messages.specs.Private.{Fits}
use Rattle.messages.specs.declared.Message.{Message}
use Rattle.messages.specs.declared.kind.Kind.{Kind}
use Rattle.messages.specs.declared.kind.Kind.TheVariants.{Open, Update, Notification, Keepalive, RouteRefresh}

-- ---- the marker

all_ff_byte : (x : Bool) (s t : List ℕ) → all_ff (s ++ t) ≡ pick (all_ff s) (all_ff t) false → pick x (all_ff (s ++ t)) false ≡ pick (pick x (all_ff s) false) (all_ff t) false
all_ff_byte true s t again = again
all_ff_byte false s t again = refl

all_ff_append : (s t : List ℕ) → all_ff (s ++ t) ≡ pick (all_ff s) (all_ff t) false
unfolding all_ff
all_ff_append [] t = refl
all_ff_append (b ∷ s) t = all_ff_byte (eqb b 255) s t (all_ff_append s t)

-- eight octets of ones, as a number
abbrev pub eight_ones : ℕ
eight_ones = 18446744073709551615

-- eight bytes are all FF where their number, last byte first, is the greatest of eight bytes
ones_eight : (a b c d e f g h : ℕ) → a < 256 → b < 256 → c < 256 → d < 256 → e < 256 → f < 256 → g < 256 → h < 256
    → eqb (be (h ∷ g ∷ f ∷ e ∷ d ∷ c ∷ b ∷ a ∷ [])) eight_ones ≡ all_ff (a ∷ b ∷ c ∷ d ∷ e ∷ f ∷ g ∷ h ∷ [])
unfolding all_ff
ones_eight a b c d e f g h ha hb hc hd he hf hg hh =
    let n : ℕ = be (h ∷ g ∷ f ∷ e ∷ d ∷ c ∷ b ∷ a ∷ []) in
    let P : Bool → Type 0 = λ t. eqb n eight_ones ≡ t in
    pick_eqb P a 255 _ false (λ ea.
    pick_eqb P b 255 _ false (λ eb.
    pick_eqb P c 255 _ false (λ ec.
    pick_eqb P d 255 _ false (λ ed.
    pick_eqb P e 255 _ false (λ ee.
    pick_eqb P f 255 _ false (λ ef.
    pick_eqb P g 255 _ false (λ eg.
    pick_eqb P h 255 true false (λ eh. eq-eqb n eight_ones (omega arith))
    (λ no. ne_eqb n eight_ones (λ q. no (omega arith))))
    (λ no. ne_eqb n eight_ones (λ q. no (omega arith))))
    (λ no. ne_eqb n eight_ones (λ q. no (omega arith))))
    (λ no. ne_eqb n eight_ones (λ q. no (omega arith))))
    (λ no. ne_eqb n eight_ones (λ q. no (omega arith))))
    (λ no. ne_eqb n eight_ones (λ q. no (omega arith))))
    (λ no. ne_eqb n eight_ones (λ q. no (omega arith))))
    (λ no. ne_eqb n eight_ones (λ q. no (omega arith)))

pub ones_word : (s : List ℕ) (at : ℕ) → Bytes s
    → eqb (be (get_or s (at + 7) 0 ∷ get_or s (at + 6) 0 ∷ get_or s (at + 5) 0 ∷ get_or s (at + 4) 0 ∷ get_or s (at + 3) 0 ∷ get_or s (at + 2) 0 ∷ get_or s (at + 1) 0 ∷ get_or s at 0 ∷ [])) eight_ones
    ≡ all_ff (padded 8 (drop at s))
ones_word s at h =
    rw (padded_cells s at 8)
    (ones_eight (get_or s at 0) (get_or s (at + 1) 0) (get_or s (at + 2) 0) (get_or s (at + 3) 0) (get_or s (at + 4) 0) (get_or s (at + 5) 0) (get_or s (at + 6) 0) (get_or s (at + 7) 0)
    (h at) (h (at + 1)) (h (at + 2)) (h (at + 3)) (h (at + 4)) (h (at + 5)) (h (at + 6)) (h (at + 7)))

-- the marker, word by word
pub marker_words : (s : List ℕ) → marker_size ≤ length s → all_ff (marker_of s) ≡ pick (all_ff (padded 8 (drop 0 s))) (all_ff (padded 8 (drop 8 s))) false
marker_words s long = ap all_ff (sym (padded_take marker_size s long) ∙ sym (padded_add 8 8 s)) ∙ all_ff_append (padded 8 s) (padded 8 (drop 8 s))

-- ---- two bounds

-- within two bounds
inside_both : (lo hi n : ℕ) → is_outside lo hi n ≡ false → (lo ≤ n) × (n ≤ hi)
unfolding is_outside
inside_both lo hi n e = by_test (ltb n lo) refl e
  where
    by_test : (t : Bool) → ltb n lo ≡ t → pick t true (ltb hi n) ≡ false → (lo ≤ n) × (n ≤ hi)
    by_test true e₁ e₂ = let z : ◌≡◌ {A = ℕ} 0 1 = cc in omega arith
    by_test false e₁ e₂ = (ltb-false n lo e₁, ltb-false hi n e₂)

pub inside_low : (lo hi n : ℕ) → is_outside lo hi n ≡ false → lo ≤ n
inside_low lo hi n e = (inside_both lo hi n e).0

pub inside_high : (lo hi n : ℕ) → is_outside lo hi n ≡ false → n ≤ hi
inside_high lo hi n e = (inside_both lo hi n e).1

pub inside : (lo hi n : ℕ) → lo ≤ n → n ≤ hi → is_outside lo hi n ≡ false
unfolding is_outside
inside lo hi n low high = rw (le-ltb n lo low) (le-ltb hi n high)

-- over the lower bound the upper one tells, and under it nothing else does
pub outside_high : (lo hi n : ℕ) → lo ≤ n → is_outside lo hi n ≡ ltb hi n
unfolding is_outside
outside_high lo hi n h = rw (le-ltb n lo h)

pub outside_low : (lo hi n : ℕ) → n < lo → is_outside lo hi n ≡ true
unfolding is_outside
outside_low lo hi n h = rw (lt-ltb n lo h)

-- a test by its opposite
pub opposite : (t u : Bool) → t ≡ not u → u ≡ not t
opposite t true e = sym (ap not e)
opposite t false e = sym (ap not e)

-- whether a number is within them, as a range of both tells
pub contained : (range : _) (lo hi n : ℕ) (told : Bool) → (range_inclusive_start range ≡ lo) → range_inclusive_end range ≡ hi → range_inclusive_exhausted range ≡ false
    → told ≡ range_inclusive_contains (λ x y. Some (nat_cmp x y)) range n → is_outside lo hi n ≡ not told
unfolding is_outside
contained range lo hi n told from to live tells = rw (tells, from, to, live) (grind (arith, nat_tests))

-- ---- lengths of a type

-- no type has a limit under that of RFC 4271
pub limit_least : (kind : ℕ) → message_limit ≤ crate_limit kind
unfolding crate_limit
limit_least kind =
    let P : ℕ → Type 0 = λ n. message_limit ≤ n in
    pick_any P (eqb kind open_kind) message_limit _ (omega arith) (pick_any P (eqb kind keepalive_kind) message_limit extended_limit (omega arith) (omega arith))

pub least_other : (kind : ℕ) → route_refresh_kind < kind → least_length kind ≡ header_size
unfolding least_length
least_other kind h =
    simp (
      ne_eqb kind open_kind (λ e. omega arith),
      ne_eqb kind update_kind (λ e. omega arith),
      ne_eqb kind notification_kind (λ e. omega arith),
      ne_eqb kind route_refresh_kind (λ e. omega arith),
    )

-- all types but a KEEPALIVE are held to the crate's limit
pub most_limit : (kind : ℕ) → eqb kind keepalive_kind ≡ false → most_length kind ≡ crate_limit kind
unfolding most_length
most_limit kind e = rw e

-- ---- the types

-- the type that its own number names
pub number_named : (kind : Kind) → kind_named (kind_number kind) ≡ kind
unfolding kind_named
number_named Open = refl
number_named Update = refl
number_named Notification = refl
number_named Keepalive = refl
number_named RouteRefresh = refl

pub number_known : (kind : Kind) → is_unknown (kind_number kind) ≡ false
unfolding is_unknown is_outside
number_known Open = refl
number_known Update = refl
number_known Notification = refl
number_known Keepalive = refl
number_known RouteRefresh = refl

pub number_small : (kind : Kind) → kind_number kind < 256
number_small Open = omega arith
number_small Update = omega arith
number_small Notification = omega arith
number_small Keepalive = omega arith
number_small RouteRefresh = omega arith

-- of a number that names a type, the number of that type
pub named_number : (number : ℕ) → is_unknown number ≡ false → kind_number (kind_named number) ≡ number
unfolding kind_named is_unknown
named_number zero known = absurd (omega (arith, inside_low open_kind route_refresh_kind zero known))
named_number (suc zero) known = refl
named_number (suc (suc zero)) known = refl
named_number (suc (suc (suc zero))) known = refl
named_number (suc (suc (suc (suc zero)))) known = refl
named_number (suc (suc (suc (suc (suc zero))))) known = refl
named_number (suc (suc (suc (suc (suc (suc n)))))) known = absurd (omega (arith, inside_high open_kind route_refresh_kind (suc (suc (suc (suc (suc (suc n)))))) known))

-- a type that is read from a number
pub record Names (number : ℕ) (kind : Kind) : Type 0 where
  pub known : is_unknown number ≡ false
  pub named : kind_named number ≡ kind
  pub number_of : kind_number kind ≡ number

pub read_names : (number : ℕ) (kind : Kind) → kind_read number ≡ Ok kind → Names number kind
unfolding kind_read
read_names number kind =
    pick_unless (λ (r : Result Kind Refusal). r ≡ Ok kind → Names number kind) (is_unknown number) _ _
    (λ e. let z : ◌≡◌ {A = ℕ} 0 1 = cc in absurd (omega arith))
    (λ known e.
    let named : kind_named number ≡ kind = cc in
    record { known = known; named = named; number_of = ap kind_number (sym named) ∙ named_number number known })

-- and a number that names none
pub read_unknown : (number : ℕ) (r : Refusal) → kind_read number ≡ Err r → (is_unknown number ≡ true) × (MessageType ≡ r)
unfolding kind_read
read_unknown number r = by_test (is_unknown number) refl
  where
    by_test : (t : Bool) → is_unknown number ≡ t → pick t (Err MessageType) (Ok (kind_named number)) ≡ Err r → (is_unknown number ≡ true) × (MessageType ≡ r)
    by_test true e₁ e₂ = (e₁, cc)
    by_test false e₁ e₂ = let z : ◌≡◌ {A = ℕ} 0 1 = cc in absurd (omega arith)

-- ---- the checks

-- what the crate's reading has found of a message that it does not refuse
pub record Accepted (s : List ℕ) : Type 0 where
  pub long : header_size ≤ length s
  pub claims : header_size ≤ claimed_of s
  pub known : is_unknown (kind_of s) ≡ false
  pub short : claimed_of s ≤ crate_limit (kind_of s)

-- and the strict reading, under a limit
pub record Whole (limit : ℕ) (s : List ℕ) : Type 0 where
  pub long : header_size ≤ length s
  pub ones : all_ff (marker_of s) ≡ true
  pub claims : header_size ≤ claimed_of s
  pub within : claimed_of s ≤ limit
  pub known : is_unknown (kind_of s) ≡ false
  pub least : least_length (kind_of s) ≤ claimed_of s
  pub most : claimed_of s ≤ most_length (kind_of s)
  pub there : claimed_of s ≤ length s

module _ {ℓ} (s : List ℕ) (P : Result Message Refusal → Type ℓ) (bad : (r : Refusal) → P (Err r)) where
  -- what holds of every refusal, and of what is accepted, holds of a reading
  pub message_cases : (Accepted s → P (Ok (accepted s))) → P (message_of s)
  unfolding message_of
  message_cases good =
      pick_unless P (ltb (length s) header_size) (Err Truncated) _ (bad Truncated) (λ long.
      pick_unless P (ltb (claimed_of s) header_size) (Err MessageLength) _ (bad MessageLength) (λ claims.
      pick_unless P (is_unknown (kind_of s)) (Err MessageType) _ (bad MessageType) (λ known.
      pick_unless P (ltb (crate_limit (kind_of s)) (claimed_of s)) (Err MessageLength) _ (bad MessageLength) (λ short.
      pick_unless P (ltb (length s - header_size) (taken_of s - header_size)) (Err ShortBody) _ (bad ShortBody) (λ _.
      good (record {
        long = ltb-false (length s) header_size long;
        claims = ltb-false (claimed_of s) header_size claims;
        known = known;
        short = ltb-false (crate_limit (kind_of s)) (claimed_of s) short;
      }))))))

  pub strict_cases : (limit : ℕ) → (Whole limit s → P (Ok (accepted_whole s))) → P (strict_within limit s)
  unfolding strict_within
  strict_cases limit good =
      pick_unless P (ltb (length s) header_size) (Err Truncated) _ (bad Truncated) (λ long.
      pick_unless P (not (all_ff (marker_of s))) (Err BadMarker) _ (bad BadMarker) (λ ones.
      pick_unless P (is_outside header_size limit (claimed_of s)) (Err MessageLength) _ (bad MessageLength) (λ claims.
      pick_unless P (is_unknown (kind_of s)) (Err MessageType) _ (bad MessageType) (λ known.
      pick_unless P (is_outside (least_length (kind_of s)) (most_length (kind_of s)) (claimed_of s)) (Err MessageLength) _ (bad MessageLength) (λ own.
      pick_unless P (ltb (length s) (claimed_of s)) (Err Truncated) _ (bad Truncated) (λ there.
      good (record {
        long = ltb-false (length s) header_size long;
        ones = not-false (all_ff (marker_of s)) ones;
        claims = inside_low header_size limit (claimed_of s) claims;
        within = inside_high header_size limit (claimed_of s) claims;
        known = known;
        least = inside_low (least_length (kind_of s)) (most_length (kind_of s)) (claimed_of s) own;
        most = inside_high (least_length (kind_of s)) (most_length (kind_of s)) (claimed_of s) own;
        there = ltb-false (length s) (claimed_of s) there;
      })))))))

-- and a message of which that is so is accepted
pub accepted_by : (s : List ℕ) → Accepted s → message_of s ≡ Ok (accepted s)
unfolding message_of
accepted_by s h =
    let body : taken_of s - header_size ≤ length s - header_size = omega (arith, min-le_right (claimed_of s) (length s)) in
    simp (le-ltb (length s) header_size h.long, le-ltb (claimed_of s) header_size h.claims, h.known, le-ltb (crate_limit (kind_of s)) (claimed_of s) h.short, le-ltb (length s - header_size) (taken_of s - header_size) body)

pub whole_by : (limit : ℕ) (s : List ℕ) → Whole limit s → strict_within limit s ≡ Ok (accepted_whole s)
unfolding strict_within
whole_by limit s h =
    simp (
      le-ltb (length s) header_size h.long,
      h.ones,
      inside header_size limit (claimed_of s) h.claims h.within,
      h.known,
      inside (least_length (kind_of s)) (most_length (kind_of s)) (claimed_of s) h.least h.most,
      le-ltb (length s) (claimed_of s) h.there,
    )

-- the crate's reading from what the tests before it found: a message over its type's limit, and one that is accepted
module _ (s : List ℕ) (claimed : ℕ) (claims : claimed ≡ claimed_of s) (long : header_size ≤ length s) (low : header_size ≤ claimed) (known : is_unknown (kind_of s) ≡ false) where
  pub message_over : ltb (crate_limit (kind_of s)) claimed ≡ true → Err MessageLength ≡ message_of s
  unfolding message_of
  message_over over = rw (← claims) (simp (le-ltb (length s) header_size long, le-ltb claimed header_size low, known, over))

  pub message_taken : (taken : ℕ) (ones : Bool) → taken ≡ min claimed (length s) → ones ≡ all_ff (marker_of s) → ltb (crate_limit (kind_of s)) claimed ≡ false
      → taken - header_size ≤ length s - header_size
      → Ok (record { kind = kind_named (kind_of s); claimed = claimed; taken = taken; marker = not ones; cut = ltb (length s) claimed; trailing = ltb claimed (length s) }) ≡ message_of s
  unfolding message_of
  message_taken taken ones takes marker under there =
      rw (← claims, ← takes, ← marker)
      (simp (le-ltb (length s) header_size long, le-ltb claimed header_size low, known, under, le-ltb (length s - header_size) (taken - header_size) there))

-- what is taken of a message that is not refused is there
pub message_fits : (s : List ℕ) → Fits (message_of s) (length s)
message_fits s =
    message_cases s (λ a. Fits a (length s)) (λ _. tt)
    (λ h. (le-min h.claims h.long, min-le_right (claimed_of s) (length s)))

pub strict_fits : (limit : ℕ) (s : List ℕ) → Fits (strict_within limit s) (length s)
strict_fits limit s = strict_cases s (λ a. Fits a (length s)) (λ _. tt) limit (λ h. (h.claims, h.there))

-- the body of an answer that a reading gave is the body of that reading
pub body_by_lem : (reading found : Result Message Refusal) (s r : Bor (List ℕ)) → found ≡ reading → PartOf s (body_at found) r → PartOf s (body_at reading) r
body_by_lem reading found s r e h = rw (sym e) h
