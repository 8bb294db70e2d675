-- Laws of an UPDATE body to write.
-- Assumes nothing.
use Prim.Native.Nat.{ℕ, ◌+◌, ◌≤◌, ◌<◌}
use mathlib.Core.Path.{◌≡◌, refl, sym, ap, ◌∙◌}
use mathlib.Core.List.{List, ◌++◌, append_assoc}
use mathlib.Core.Bool.{Bool, true, false}
use native.Mathlib.Nat.{lt_of_not-le}
use native.Mathlib.Decide.{dec_le}
use native.Mathlib.Omega.{arith}
use borrow.Author.Tests.{lt-ltb, le-ltb, ltb-false}
use lib.ListN.{length, length-append}
use lib.Dec.{ltb}
use Rattle.std.specs.Prelude.{Result, Ok, Err}
use Rattle.wire.specs.Answer.{limited}
use Rattle.wire.proofs.AnswerLaws.{limited_long, limited_full, limited_fits}
use Rattle.wire.specs.Choice.{pick}
use Rattle.wire.proofs.ChoiceLaws.{pick_any, pick_leb, pick_unless}
use Rattle.wire.specs.Number.{to_be}
use Rattle.wire.specs.Refusal.{list_limit, body_limit}
use Rattle.wire.specs.Store.{laid, placed}
use Rattle.wire.proofs.StoreLaws.{placed_fits, placed_next, length_laid, laid_laid, laid_swap, laid_before}
use Rattle.families.specs.Family.{max_of}
use Rattle.families.specs.declared.Afi.TheVariants.{Ipv4}
use Rattle.families.specs.declared.Form.{Form}
use Rattle.route_bytes.specs.Promises.{measured}
use Rattle.wire.specs.declared.refusal.Refusal.{Refusal}
use Rattle.wire.specs.declared.refusal.Refusal.TheVariants.{TooLong, NoRoom}
use Rattle.route_writer.specs.Pair.{write_pair_end, write_pair_sized, if_both, write_pair_answer}
use Rattle.route_writer.proofs.PairLaws.{WritePairFits, write_pair_over, write_pair_under, write_pair_fits}
use Rattle.route_writer.specs.declared.Lists.{Lists}
use Rattle.updates.specs.Body.{length_size}
use Rattle.update_writer.specs.Body.{sections, body_size, body_sized, if_writable, body_answer}

-- sizes that are not refused
pub record Sized (withdrawn attributes announced places : ℕ) : Type 0 where
  pub low : withdrawn ≤ list_limit
  pub middle : attributes ≤ list_limit
  pub whole : body_size withdrawn attributes announced ≤ body_limit
  pub room : body_size withdrawn attributes announced ≤ places

-- what holds of every refusal, and of sizes that are not refused, holds of any sizes
pub sized_cases {ℓ} : (withdrawn attributes announced places : ℕ) (P : Result ℕ Refusal → Type ℓ) → ((r : Refusal) → P (Err r))
    → (Sized withdrawn attributes announced places → P (Ok (body_size withdrawn attributes announced))) → P (body_sized withdrawn attributes announced places)
unfolding body_sized limited
sized_cases withdrawn attributes announced places P bad good =
    let total : ℕ = body_size withdrawn attributes announced in
    pick_unless P (ltb list_limit withdrawn) (Err TooLong) _ (bad TooLong) (λ low.
    pick_unless P (ltb list_limit attributes) (Err TooLong) _ (bad TooLong) (λ middle.
    pick_leb P total body_limit _ (Err TooLong)
    (λ whole.
    pick_leb P total places (Ok total) (Err NoRoom)
    (λ room.
    good (record {
      low = ltb-false list_limit withdrawn low;
      middle = ltb-false list_limit attributes middle;
      whole = whole;
      room = room;
    }))
    (λ _. bad NoRoom))
    (λ _. bad TooLong)))

-- and such sizes are not refused
pub sized_by : (withdrawn attributes announced places : ℕ) → Sized withdrawn attributes announced places
    → body_sized withdrawn attributes announced places ≡ Ok (body_size withdrawn attributes announced)
unfolding body_sized
sized_by withdrawn attributes announced places f =
    rw (le-ltb list_limit withdrawn f.low, le-ltb list_limit attributes f.middle)
    (limited_fits body_limit (body_size withdrawn attributes announced) places f.whole f.room)

-- ---- the answer, by what the call on both lists says

abbrev pub body_by : ℕ → Result Lists Refusal → Result ℕ Refusal
body_by attributes (Ok sizes) = Ok (body_size sizes.first attributes sizes.second)
body_by attributes (Err r) = Err r

module _ (k places : ℕ) where
  -- a section over the limit of a list makes the body too long
  by_sizes : (w a : ℕ) → body_sized w k a places ≡ body_by k (write_pair_sized length_size (length_size + k) body_limit places w a)
  unfolding body_sized
  by_sizes w a =
      let total : ℕ = body_size w k a in
      let end : write_pair_end length_size (length_size + k) w a ≡ total = omega arith in
      elim (dec_le total body_limit) [
        | yes le ↦
            let low : w ≤ list_limit = omega arith in
            let both : (t : Bool) → ltb places total ≡ t → write_pair_sized length_size (length_size + k) body_limit places w a ≡ pick t (Err NoRoom) (Ok (record { first = w; second = a })) =
            λ t e. write_pair_under length_size (length_size + k) body_limit places w a t low (omega arith) (omega arith) (ap (ltb places) end ∙ e) in
            rw (le-ltb list_limit w low, le-ltb list_limit k (omega arith))
            (elim (dec_le total places) [
              | yes fits ↦ limited_fits body_limit total places le fits ∙ ap (body_by k) (sym (both false (le-ltb places total fits)))
              | no full ↦ limited_full body_limit total places le (lt_of_not-le full) ∙ ap (body_by k) (sym (both true (lt-ltb places total (lt_of_not-le full))))
            ])
        | no gt ↦
            let P : Result ℕ Refusal → Type 0 = λ x. x ≡ Err TooLong in
            let over : body_limit < total = lt_of_not-le gt in
            pick_any P (ltb list_limit w) (Err TooLong) _ refl (pick_any P (ltb list_limit k) (Err TooLong) _ refl (limited_long body_limit total places over))
            ∙ ap (body_by k) (sym (write_pair_over length_size (length_size + k) body_limit places w a (omega arith)))
      ]

  by_lists : (x y : Result ℕ Refusal) → if_writable x (λ w. if_writable y (λ a. body_sized w k a places)) ≡ body_by k (if_both x y (write_pair_sized length_size (length_size + k) body_limit places))
  by_lists (Ok w) (Ok a) = by_sizes w a
  by_lists (Ok w) (Err r) = refl
  by_lists (Err r) y = refl

pub body_by_lem : (withdrawn attributes announced : List ℕ) (form : Form) (places : ℕ)
    → body_answer withdrawn attributes announced form places
    ≡ body_by (length attributes) (write_pair_answer withdrawn announced (max_of Ipv4) form length_size (length_size + length attributes) body_limit places)
unfolding body_answer write_pair_answer
body_by_lem withdrawn attributes announced form places = by_lists (length attributes) places (measured withdrawn (max_of Ipv4) form) (measured announced (max_of Ipv4) form)

-- lists that were written keep the limits
pub lists_fit : (withdrawn attributes announced : List ℕ) (form : Form) (places : ℕ) (sizes : Lists)
    → write_pair_answer withdrawn announced (max_of Ipv4) form length_size (length_size + length attributes) body_limit places ≡ Ok sizes
    → WritePairFits (measured withdrawn (max_of Ipv4) form) (measured announced (max_of Ipv4) form) length_size (length_size + length attributes) body_limit places sizes.first sizes.second
lists_fit withdrawn attributes announced form places sizes e = write_pair_fits length_size (length_size + length attributes) body_limit places sizes withdrawn announced (max_of Ipv4) form e

-- ---- the output

-- values placed after those at the front, below others
placed_below : (d vs : List ℕ) (to : ℕ) (a : List ℕ) (x y : List ℕ) (j : ℕ) (ws : List ℕ)
    → x ≡ laid (laid d 0 vs) to a → y ≡ placed x j ws → j ≡ length vs → j + length ws ≤ to → to + length a ≤ length d → y ≡ laid (laid d 0 (vs ++ ws)) to a
placed_below d vs to a x y j ws e f at apart fits =
    let l : List ℕ = laid d 0 vs in
    let long : length l ≡ length d = length_laid d 0 vs (omega arith) in
    let room : j + length ws ≤ length (laid l to a) = omega (arith, length_laid l to a (omega arith)) in
    f
    ∙ ap (λ (q : List ℕ). placed q j ws) e
    ∙ placed_fits (laid l to a) j ws room
    ∙ laid_swap l j ws to a apart (omega arith)
    ∙ ap (λ (q : List ℕ). laid q to a) (sym (placed_fits l j ws (omega arith)) ∙ placed_next d vs j ws at (omega arith))

-- the two lists, and then what stands around them
pub sections_put : (d d₁ d₂ d₃ d₄ w b a : List ℕ) (n : ℕ) → length w ≡ n → body_size n (length b) (length a) ≤ length d
    → d₁ ≡ laid (laid d length_size w) (length_size + n + (length_size + length b)) a
    → d₂ ≡ placed d₁ 0 (to_be length_size n)
    → d₃ ≡ placed d₂ (length_size + n) (to_be length_size (length b))
    → d₄ ≡ placed d₃ (length_size + n + length_size) b
    → d₄ ≡ laid d 0 (sections w b a)
unfolding sections
sections_put d d₁ d₂ d₃ d₄ w b a n size room e₁ e₂ e₃ e₄ =
    let k : ℕ = length b in
    let p : List ℕ = to_be length_size n in
    let q : List ℕ = to_be length_size k in
    let to : ℕ = length_size + n + (length_size + k) in
    let n₂ : length_size + n ≡ length (p ++ w) = omega (arith, length-append p w) in
    let n₃ : length_size + n + length_size ≡ length ((p ++ w) ++ q) = omega (arith, length-append (p ++ w) q) in
    let n₄ : to ≡ 0 + length (((p ++ w) ++ q) ++ b) = omega (arith, length-append ((p ++ w) ++ q) b) in
    let l : List ℕ = laid d length_size w in
    let long : length l ≡ length d = length_laid d length_size w (omega arith) in
    let s₂ : d₂ ≡ laid (laid d 0 (p ++ w)) to a =
    e₂
    ∙ ap (λ (x : List ℕ). placed x 0 p) e₁
    ∙ placed_fits (laid l to a) 0 p (omega (arith, length_laid l to a (omega arith)))
    ∙ laid_swap l 0 p to a (omega arith) (omega arith)
    ∙ ap (λ (x : List ℕ). laid x to a) (laid_before d 0 p w (omega arith)) in
    let s₃ : d₃ ≡ laid (laid d 0 ((p ++ w) ++ q)) to a = placed_below d (p ++ w) to a d₂ d₃ (length_size + n) q s₂ e₃ n₂ (omega arith) (omega arith) in
    let s₄ : d₄ ≡ laid (laid d 0 (((p ++ w) ++ q) ++ b)) to a =
    placed_below d ((p ++ w) ++ q) to a d₃ d₄ (length_size + n + length_size) b s₃ e₄ n₃ (omega arith) (omega arith) in
    let all : (((p ++ w) ++ q) ++ b) ++ a ≡ p ++ (w ++ (q ++ (b ++ a))) = simp append_assoc in
    s₄
    ∙ ap (λ (j : ℕ). laid (laid d 0 (((p ++ w) ++ q) ++ b)) j a) n₄
    ∙ laid_laid d 0 (((p ++ w) ++ q) ++ b) a (omega arith)
    ∙ ap (laid d 0) (all ∙ ap (λ (m : ℕ). to_be length_size m ++ (w ++ (q ++ (b ++ a)))) (sym size))
