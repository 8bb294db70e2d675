-- Laws of what the calls that write rows answer and leave, by what measuring says.
-- Assumes nothing.
use Prim.Native.Nat.{ℕ, ◌+◌, ◌≤◌, ◌<◌}
use mathlib.Core.Path.{◌≡◌, refl, sym, ap, ◌∙◌}
use mathlib.Core.List.{List}
use native.Mathlib.Nat.{zero-add}
use native.Mathlib.Omega.{arith}
use lib.ListN.{length}
use lib.Dec.{leb}
use Rattle.std.specs.Prelude.{Result, Ok, Err}
use Rattle.wire.specs.Answer.{filled, count_meaning, limited}
use Rattle.wire.specs.Refusal.{list_limit}
use Rattle.wire.specs.Store.{laid}
use Rattle.wire.specs.Verdict.{Verdict, fine, unless, answer_by}
use Rattle.wire.specs.declared.refusal.Refusal.{Refusal}
use Rattle.wire.specs.declared.refusal.Refusal.TheVariants.{TooLong, NoRoom}
use Rattle.wire.proofs.AnswerLaws.{limited_long, limited_full, limited_fits, limited_bytes}
use Rattle.wire.proofs.ChoiceLaws.{pick_any, pick_leb}
use Rattle.families.specs.declared.Form.{Form}
use Rattle.route_bytes.specs.Encode.{writing, bytes_of}
use Rattle.route_bytes.specs.Promises.{measured}
use Rattle.route_bytes.proofs.PromiseLaws.{measured_bytes}
use Rattle.route_writer.specs.Promises.{write_after, filled_after, write_answer, out_after}

-- a refusal by the verdict is one whatever is good
still_refused : (v : Verdict) (r : Refusal) (m : ℕ) (good : Result ℕ Refusal) → unless v m ≡ Err r → answer_by v good Err ≡ Err r
still_refused (Ok tt) r m good e = let z : ◌≡◌ {A = ℕ} 0 1 = cc in absurd (omega arith)
still_refused (Err q) r m good e = e

-- what is good by the verdict
by_bytes : (v : Verdict) (n : ℕ) (good : Result ℕ Refusal) → answer_by v good Err ≡ Ok n → (v ≡ fine) × (good ≡ Ok n)
by_bytes (Ok tt) n good e = (refl, e)
by_bytes (Err r) n good e = let z : ◌≡◌ {A = ℕ} 0 1 = cc in absurd (omega arith)

-- ---- at the end of a value

module _ (before : ℕ) (ws : List ℕ) (max : ℕ) (form : Form) (places : ℕ) where
  pub after_refused : (r : Refusal) → measured ws max form ≡ Err r → Err r ≡ write_after before ws max form places
  unfolding write_after measured
  after_refused r e = sym (still_refused (writing ws max form).verdict r _ _ e)

  -- what was measured is held to the limit and to the room
  by_size : (n : ℕ) → measured ws max form ≡ Ok n → write_after before ws max form places ≡ limited list_limit (before + n) places
  unfolding write_after
  by_size n e = let m = measured_bytes ws max form n e in rw (m.0, m.1)

  pub after_long : (n : ℕ) → measured ws max form ≡ Ok n → list_limit < before + n → Err TooLong ≡ write_after before ws max form places
  after_long n e lt = sym (by_size n e ∙ limited_long list_limit (before + n) places lt)

  pub after_full : (n : ℕ) → measured ws max form ≡ Ok n → before + n ≤ list_limit → places < before + n → Err NoRoom ≡ write_after before ws max form places
  after_full n e le lt = sym (by_size n e ∙ limited_full list_limit (before + n) places le lt)

  pub after_bytes : (n : ℕ) → measured ws max form ≡ Ok n → before + n ≤ list_limit → before + n ≤ places → Ok (before + n) ≡ write_after before ws max form places
  after_bytes n e le fits = sym (by_size n e ∙ limited_fits list_limit (before + n) places le fits)

  -- and back: rows that were written could be, are within the limit with what stands before them, and had room
  pub after_written : (n : ℕ) → write_after before ws max form places ≡ Ok n
      → ((writing ws max form).verdict ≡ fine) × (before + length (bytes_of ws max form) ≡ n) × (n ≤ list_limit) × (n ≤ places)
  unfolding write_after
  after_written n e =
      let v = by_bytes (writing ws max form).verdict n _ e in
      let l = limited_bytes list_limit (before + length (bytes_of ws max form)) places n v.1 in
      (v.0, l.2, omega (arith, l.0, l.2), omega (arith, l.1, l.2))

  -- what holds of every refusal and of every size up to the limit holds of the answer
  pub after_any : (P : Result ℕ Refusal → Type 0) → ((n : ℕ) → n ≤ list_limit → P (Ok n)) → ((r : Refusal) → P (Err r)) → P (write_after before ws max form places)
  unfolding write_after limited
  after_any P good refused = by (writing ws max form).verdict
    where
      by : (v : Verdict) → P (answer_by v (limited list_limit (before + length (bytes_of ws max form)) places) Err)
      by (Ok tt) =
          let n : ℕ = before + length (bytes_of ws max form) in
          pick_leb P n list_limit _ (Err TooLong) (λ h. pick_any P (leb n places) (Ok n) (Err NoRoom) (good n h) (refused NoRoom)) (λ _. refused TooLong)
      by (Err r) = refused r

-- ---- at the front

-- what is filled after nothing is filled from the front
pub filled_front : (a : Result ℕ Refusal) (bytes d : List ℕ) → filled_after (count_meaning a) 0 bytes d ≡ filled (count_meaning a) bytes d
filled_front (Ok n) bytes d = refl
filled_front (Err r) bytes d = refl

-- and so is the answer
pub write_front : (ws : List ℕ) (max : ℕ) (form : Form) (places : ℕ) → write_after 0 ws max form places ≡ write_answer ws max form places
unfolding write_after write_answer
write_front ws max form places = ap (λ (n : ℕ). answer_by (writing ws max form).verdict (limited list_limit n places) Err) (zero-add (length (bytes_of ws max form)))

module _ (ws : List ℕ) (max : ℕ) (form : Form) (d : List ℕ) where
  leave : (a : Result ℕ Refusal) → write_answer ws max form (length d) ≡ a → filled (count_meaning a) (bytes_of ws max form) d ≡ out_after ws max form d
  unfolding out_after
  leave a e = ap (λ (x : Result ℕ Refusal). filled (count_meaning x) (bytes_of ws max form) d) (sym e)

  -- the answer and the output of the call after nothing
  pub front_told : (a : Result ℕ Refusal) (d' : List ℕ) → a ≡ write_after 0 ws max form (length d) → d' ≡ filled_after (count_meaning a) 0 (bytes_of ws max form) d
      → (a ≡ write_answer ws max form (length d)) × (d' ≡ out_after ws max form d)
  front_told a d' e f = let is = e ∙ write_front ws max form (length d) in (is, f ∙ filled_front a (bytes_of ws max form) d ∙ leave a (sym is))

  pub leave_bytes : (n : ℕ) → measured ws max form ≡ Ok n → n ≤ list_limit → n ≤ length d
      → (Ok n ≡ write_answer ws max form (length d)) × (laid d 0 (bytes_of ws max form) ≡ out_after ws max form d)
  leave_bytes n e le fits =
      let is : Ok n ≡ write_answer ws max form (length d) =
      ap Ok (sym (zero-add n)) ∙ after_bytes 0 ws max form (length d) n e (omega arith) (omega arith) ∙ write_front ws max form (length d) in
      (is, leave (Ok n) (sym is))

  -- and back: rows that were written could be, are within the limit, had room, and stand in the output
  pub written_bytes : (n : ℕ) → write_answer ws max form (length d) ≡ Ok n
      → ((writing ws max form).verdict ≡ fine) × (length (bytes_of ws max form) ≡ n) × (n ≤ list_limit) × (n ≤ length d) × (out_after ws max form d ≡ laid d 0 (bytes_of ws max form))
  written_bytes n e =
      let h = after_written 0 ws max form (length d) n (write_front ws max form (length d) ∙ e) in
      (h.0, omega (arith, h.1), h.2, h.3, sym (leave (Ok n) e))
