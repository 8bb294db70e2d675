-- Framing: what the writer writes comes back from both readings, and no cut message passes for a whole one.
-- Assumes nothing.
use Prim.Native.Nat.{ℕ, ◌+◌, ◌-◌, ◌≤◌, ◌<◌, min}
use mathlib.Core.Path.{◌≡◌, refl, sym, ap, ap₂, ◌∙◌}
use mathlib.Core.List.{List, ◌++◌}
use mathlib.Core.Bool.{Bool, true, false}
use native.Mathlib.Nat.{min-eq_left, min-eq_right}
use native.Mathlib.Omega.{arith}
use borrow.Author.Tests.{le-ltb, lt-ltb, ltb-true, ltb-false}
use lib.ListN.{length, take}
use lib.Seq.{take_at}
use lib.Dec.{ltb}
use Rattle.wire.specs.Extent.{within}
use Rattle.messages.specs.Header.{header_size, kind_named, claimed_of, taken_of, message_of, strict_within, body_at}
use Rattle.messages.proofs.HeaderLaws.{Accepted, Whole, accepted_by, whole_by, message_cases, strict_cases}
use Rattle.messages.specs.Written.{total_of, message_bytes, write_message}
use Rattle.messages.proofs.WrittenLaws.{most_small, most_crate, Fit, written_fit, written_long, written_kind, written_marker, written_past, written_claimed}
use Rattle.std.specs.Prelude.{Result, Ok}
use Rattle.wire.specs.declared.refusal.Refusal.{Refusal}
use Rattle.messages.specs.declared.Message.{Message}

-- ---- what is written is read again

-- a message of that type and length that is all there, with no flag but that other bytes follow
abbrev pub plain : ℕ → ℕ → Bool → Message
plain kind total more = record { kind = kind_named kind; claimed = total; taken = total; marker = false; cut = false; trailing = more }

-- an answer that gives this type and this body, whole and with no flag but that bytes follow
pub record Framed (kind : ℕ) (body rest : List ℕ) (answer : Result Message Refusal) : Type 0 where
  pub same : answer ≡ Ok (plain kind (total_of body) (ltb 0 (length rest)))
  pub content : within (body_at answer) (message_bytes kind body ++ rest) ≡ body

ltb_shift : (a b : ℕ) → ltb a (a + b) ≡ ltb 0 b
ltb_shift a b = by_test (ltb 0 b) refl
  where
    by_test : (t : Bool) → ltb 0 b ≡ t → ltb a (a + b) ≡ t
    by_test true e = lt-ltb a (a + b) (omega (arith, ltb-true 0 b e))
    by_test false e = le-ltb a (a + b) (omega (arith, ltb-false 0 b e))

-- an answer of these fields is such a one
framed : (kind : ℕ) (body rest : List ℕ) (answer : Result Message Refusal)
    → answer ≡ Ok (plain kind (total_of body) (ltb (total_of body) (total_of body + length rest))) → Framed kind body rest answer
framed kind body rest answer e =
    let size : total_of body - header_size ≡ length body = omega arith in
    let flag : ltb (total_of body) (total_of body + length rest) ≡ ltb 0 (length rest) = ltb_shift (total_of body) (length rest) in
    record {
      same = e ∙ ap (λ (more : Bool). Ok (plain kind (total_of body) more)) flag;
      content =
          ap (λ (a : Result Message Refusal). within (body_at a) (message_bytes kind body ++ rest)) e
          ∙ ap₂ take size (written_past kind body rest)
          ∙ take_at body rest (length body) refl;
    }

module _ (kind : ℕ) (body rest : List ℕ) (places n : ℕ) (wrote : write_message kind body places ≡ Ok n) where
  message : List ℕ
  message = message_bytes kind body ++ rest

  module _ (f : Fit kind body places n) where
    claims : claimed_of message ≡ total_of body
    unfolding message
    claims = written_claimed kind body rest (omega (arith, most_small kind, f.most))

    crate_facts : Accepted message
    unfolding message
    crate_facts = record {
      long = omega (arith, written_long kind body rest);
      claims = rw claims (omega arith);
      known = rw (written_kind kind body rest) f.known;
      short = rw (claims, written_kind kind body rest) (omega (arith, most_crate kind, f.most));
    }

    strict_facts : (limit : ℕ) → total_of body ≤ limit → Whole limit message
    unfolding message
    strict_facts limit small = record {
      long = omega (arith, written_long kind body rest);
      ones = written_marker kind body rest;
      claims = rw claims (omega arith);
      within = rw claims small;
      known = rw (written_kind kind body rest) f.known;
      least = rw (claims, written_kind kind body rest) f.least;
      most = rw (claims, written_kind kind body rest) f.most;
      there = rw (claims, written_long kind body rest) (omega arith);
    }

  -- whatever follows it, by the crate's reading
  pub written_accepted : Framed kind body rest (message_of (message_bytes kind body ++ rest))
  unfolding message
  written_accepted =
      let f = written_fit kind body places n wrote in
      let total : ℕ = total_of body in
      let more : ℕ = total + length rest in
      let taken : min total more ≡ total = min-eq_left (omega arith) in
      framed kind body rest (message_of message)
      (accepted_by message (crate_facts f)
      ∙ rw (claims f, written_kind kind body rest, written_marker kind body rest, written_long kind body rest, taken, le-ltb more total (omega arith)))

  -- and by the strict one, under any limit that it keeps
  pub written_whole : (limit : ℕ) → total_of body ≤ limit → Framed kind body rest (strict_within limit (message_bytes kind body ++ rest))
  unfolding message
  written_whole limit small =
      let f = written_fit kind body places n wrote in
      framed kind body rest (strict_within limit message)
      (whole_by limit message (strict_facts f limit small) ∙ rw (claims f, written_kind kind body rest, written_long kind body rest))

-- ---- cut messages

module _ (s : List ℕ) (m : Message) where
  -- what an answer says of the lengths, and whether it is marked as cut
  pub record Lengths : Type 0 where
    pub marked : length s < m.claimed → m.cut ≡ true
    pub only : m.cut ≡ true → length s < m.claimed
    pub all : m.cut ≡ true → m.taken ≡ length s
    pub claims : m.cut ≡ false → m.taken ≡ m.claimed

  -- a message that claims more than there is, if accepted, is marked as cut, and no other is; all that there is is taken of it
  pub cut_marked : message_of s ≡ Ok m → Lengths
  cut_marked =
      message_cases s (λ a. a ≡ Ok m → Lengths)
      (λ r e. let z : ◌≡◌ {A = ℕ} 0 1 = cc in absurd (omega arith))
      (λ h e.
      let c : claimed_of s ≡ m.claimed = cc in
      let k : ltb (length s) (claimed_of s) ≡ m.cut = cc in
      let t : taken_of s ≡ m.taken = cc in
      let test : ltb (length s) m.claimed ≡ m.cut = sym (ap (ltb (length s)) c) ∙ k in
      let over : m.cut ≡ true → length s < m.claimed = λ f. ltb-true (length s) m.claimed (test ∙ f) in
      record {
        marked = λ lt. sym test ∙ lt-ltb (length s) m.claimed lt;
        only = over;
        all = λ f. let lt : length s < m.claimed = over f in sym t ∙ min-eq_right (omega (arith, c));
        claims = λ f. let le : m.claimed ≤ length s = ltb-false (length s) m.claimed (test ∙ f) in sym t ∙ min-eq_left (omega (arith, c)) ∙ c;
      })

  -- a message that the strict reading accepts, under any limit, is all there and has no mark
  pub record Unmarked : Type 0 where
    pub there : m.claimed ≤ length s
    pub takes : m.taken ≡ m.claimed
    pub ones : m.marker ≡ false
    pub uncut : m.cut ≡ false

  pub strict_unmarked : (limit : ℕ) → strict_within limit s ≡ Ok m → Unmarked
  strict_unmarked limit =
      strict_cases s (λ a. a ≡ Ok m → Unmarked)
      (λ r e. let z : ◌≡◌ {A = ℕ} 0 1 = cc in absurd (omega arith))
      limit
      (λ h e.
      let c : claimed_of s ≡ m.claimed = cc in
      record { there = omega (arith, h.there); takes = cc; ones = cc; uncut = cc })
