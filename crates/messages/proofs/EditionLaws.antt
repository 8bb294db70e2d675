-- Two limits of the strict reading: what is answered the same under both, and what the higher one alone accepts. And long messages, which are what
-- RFC 8654's alone accepts.
-- Assumes nothing.
use Prim.Native.Nat.{ℕ, zero, suc, ◌≤◌, ◌<◌}
use mathlib.Core.Path.{◌≡◌, refl, sym, ◌∙◌}
use mathlib.Core.List.{List}
use mathlib.Core.Bool.{false}
use mathlib.Core.Logic.{inl, inr, ⊎_elim}
use native.Mathlib.Nat.{lt_of_not-le}
use native.Mathlib.Omega.{arith}
use borrow.Author.Tests.{le-ltb, lt-ltb}
use lib.ListN.{length}
use Rattle.wire.specs.Number.{Bytes}
use Rattle.wire.proofs.NumberLaws.{be_at_lt}
use Rattle.std.specs.Prelude.{Ok, Err}
use Rattle.wire.specs.declared.refusal.Refusal.{Refusal}
use Rattle.wire.specs.declared.refusal.Refusal.TheVariants.{MessageLength}
use Rattle.messages.specs.Header.{open_kind, update_kind, notification_kind, route_refresh_kind, marker_size, header_size, message_limit, extended_limit, crate_limit, least_length, most_length, is_outside, is_unknown, claimed_of, kind_of, strict_within, LongKind, LongMessage}
use Rattle.messages.specs.declared.Message.{Message}
use Rattle.messages.proofs.HeaderLaws.{Whole, strict_cases, inside_low, inside_high}

-- ---- any two limits

-- under two upper bounds that both hold
outside_alike : (lo hi hi' n : ℕ) → n ≤ hi → n ≤ hi' → is_outside lo hi n ≡ is_outside lo hi' n
unfolding is_outside
outside_alike lo hi hi' n h h' = rw (le-ltb hi n h, le-ltb hi' n h')

module _ (s : List ℕ) where
  -- a message that claims no more than both allow is answered the same under both, refused or not
  pub limits_alike : (limit limit' : ℕ) → claimed_of s ≤ limit → claimed_of s ≤ limit' → strict_within limit s ≡ strict_within limit' s
  unfolding strict_within
  limits_alike limit limit' h h' = rw (outside_alike header_size limit limit' (claimed_of s) h h')

  -- one that claims more than a limit and is else right is refused under it with 3
  pub over_refused : (limit limit' : ℕ) → Whole limit' s → limit < claimed_of s → strict_within limit s ≡ Err MessageLength
  unfolding strict_within is_outside
  over_refused limit limit' h over =
      simp (le-ltb (length s) header_size h.long, h.ones, le-ltb (claimed_of s) header_size h.claims, lt-ltb limit (claimed_of s) over)

  module _ (m : Message) where
    -- what is found of a message that is accepted under a limit
    pub accepted_whole_lem : (limit : ℕ) → strict_within limit s ≡ Ok m → Whole limit s
    accepted_whole_lem limit =
        strict_cases s (λ a. a ≡ Ok m → Whole limit s)
        (λ r e. let z : ◌≡◌ {A = ℕ} 0 1 = cc in absurd (omega arith)) limit (λ h e. h)

    -- it is accepted the same under any limit that it keeps, and so under any higher one
    pub accepted_alike : (limit limit' : ℕ) → limit ≤ limit' → strict_within limit s ≡ Ok m → strict_within limit' s ≡ Ok m
    accepted_alike limit limit' le e =
        let short = (accepted_whole_lem limit e).within in
        sym (limits_alike limit limit' short (omega (arith, short, le))) ∙ e

    -- and one that the higher limit alone accepts claims more than the lower one
    pub alone_over : (limit limit' : ℕ) (r : Refusal) → strict_within limit' s ≡ Ok m → strict_within limit s ≡ Err r → limit < claimed_of s
    alone_over limit limit' r accepted refused =
        lt_of_not-le (λ le.
        let same = limits_alike limit limit' le (accepted_whole_lem limit' accepted).within in
        let e : Err r ≡ Ok m = sym refused ∙ same ∙ accepted in
        let z : ◌≡◌ {A = ℕ} 0 1 = cc in
        absurd (omega arith))

-- ---- long messages

-- a type whose messages may be over 4,096 is one of three
long_kind : (kind n : ℕ) → is_unknown kind ≡ false → message_limit < n → n ≤ most_length kind → LongKind kind
unfolding is_unknown most_length crate_limit
long_kind zero n known long most = absurd (omega (arith, inside_low open_kind route_refresh_kind zero known))
long_kind (suc zero) n known long most = absurd (omega arith)
long_kind (suc (suc zero)) n known long most = inl refl
long_kind (suc (suc (suc zero))) n known long most = inr (inl refl)
long_kind (suc (suc (suc (suc zero)))) n known long most = absurd (omega arith)
long_kind (suc (suc (suc (suc (suc zero))))) n known long most = inr (inr refl)
long_kind (suc (suc (suc (suc (suc (suc kind)))))) n known long most = absurd (omega (arith, inside_high open_kind route_refresh_kind (suc (suc (suc (suc (suc (suc kind)))))) known))

-- and each of the three has these bounds
record Bounds (kind : ℕ) : Type 0 where
  known : is_unknown kind ≡ false
  least : least_length kind ≤ message_limit
  most : most_length kind ≡ extended_limit

bounds : (kind : ℕ) → LongKind kind → Bounds kind
unfolding is_unknown is_outside least_length most_length crate_limit
bounds kind = ⊎_elim (λ e. by update_kind e (record { known = refl; least = omega arith; most = refl }))
    (⊎_elim (λ e. by notification_kind e (record { known = refl; least = omega arith; most = refl }))
    (λ e. by route_refresh_kind e (record { known = refl; least = omega arith; most = refl })))
  where
    by : (k : ℕ) → kind ≡ k → Bounds k → Bounds kind
    by k e b = rw e b

-- no message claims over what two bytes say
claimed_small : (s : List ℕ) → Bytes s → claimed_of s ≤ extended_limit
claimed_small s h = omega (arith, be_at_lt s marker_size 2 h)

-- a long message is found right under the newer limit
pub long_whole : (s : List ℕ) → Bytes s → LongMessage s → Whole extended_limit s
long_whole s h m =
    let b = bounds (kind_of s) m.kind in
    record {
      long = omega (arith, m.over, m.there);
      ones = m.ones;
      claims = omega (arith, m.over);
      within = claimed_small s h;
      known = b.known;
      least = omega (arith, b.least, m.over);
      most = omega (arith, claimed_small s h, b.most);
      there = m.there;
    }

-- and whatever is found right under it and claims over 4,096 is a long message
pub whole_long : (s : List ℕ) → Whole extended_limit s → message_limit < claimed_of s → LongMessage s
whole_long s h over = record {
  kind = long_kind (kind_of s) (claimed_of s) h.known over h.most;
  over = over;
  ones = h.ones;
  there = h.there;
}
