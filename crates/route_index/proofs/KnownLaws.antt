-- Laws of passing over items that are known to be there: from a list that was counted, sixteen for each place but the last.
-- Assumes nothing.
use Prim.Native.Nat.{ℕ, suc, ◌+◌, ◌-◌, ◌*◌, ◌≤◌, ◌<◌}
use mathlib.Core.Path.{◌≡◌, refl, sym, ap, ap₂, ◌∙◌}
use mathlib.Core.List.{List, [], ◌∷◌, ◌++◌, append_assoc, append-nil}
use native.Mathlib.Nat.{lt_of_not-le}
use native.Mathlib.Decide.{dec_le}
use native.Mathlib.Omega.{arith}
use lib.ListN.{length, get_or, set, take, drop, length-append, drop_of_length-le, length-set}
use lib.Seq.{get_or-drop, take_all, length-take-le}
use Rattle.std.proofs.lemmas.List.{take_more_set}
use Rattle.std.specs.Prelude.{Result, Ok, Err}
use Rattle.wire.specs.Verdict.{fine}
use Rattle.wire.specs.Walk.{Reading, starts}
use Rattle.wire.specs.declared.refusal.Refusal.{Refusal}
use Rattle.wire.proofs.AnswerLaws.{refused_not_fine}
use Rattle.wire.proofs.WalkLaws.{pieces_nil, starts_length}
use Rattle.families.specs.Family.{id_size}
use Rattle.families.specs.Octets.{entry}
use Rattle.families.specs.declared.Form.{Form}
use Rattle.routes.specs.List.{Reader}
use Rattle.routes.specs.ByTable.{by_table}
use Rattle.routes.specs.declared.Row.{Row}
use Rattle.routes.specs.declared.Prefix.{Prefix}
use Rattle.routes.proofs.ListLaws.{Fair, list_fixed}
use Rattle.routes.proofs.TableLaws.{table_size, fair_table}
use Rattle.route_index.specs.Index.{sixteenths, index_by}
use Rattle.route_index.specs.Private.{skipped, Passes, Remain, Fitting}
use Rattle.route_index.proofs.SkipLaws.{skip_took}
use Rattle.route_index.proofs.IndexLaws.{sixteenths_length, items_from, places_from, verdict_from, step, index_is, item_took, item_stops, block_took}

-- ---- one item of those that remain

module _ (read : Reader) (form : Form) (s : List ℕ) (fair : Fair read) (n at : ℕ) (some : 0 < n) (h : Remain read form s n at) where
  inside : at < length s
  inside = elim (dec_le (suc at) (length s)) [
    | yes lt ↦ lt
    | no ge ↦ absurd (omega (arith, some, h.many, none (omega (arith, lt_of_not-le ge))))
  ]
    where
      none : length s ≤ at → length (items_from read form (drop at s)) ≡ 0
      none le = ap (λ (t : List ℕ). length (items_from read form t)) (drop_of_length-le s le) ∙ ap length (pieces_nil (step read form) form)

  -- what passing over it leaves
  abbrev On : ℕ → Type 0
  On used = (at + used ≤ length s) × (skipped read form s n at ≡ skipped read form s (n - 1) (at + used)) × Remain read form s (n - 1) (at + used)

  item_on : (a : Result Prefix Refusal) → read (drop at s) form ≡ a → (item : Prefix) × (read (drop at s) form ≡ Ok item) × On item.used
  item_on (Ok item) e =
      let t = item_took read form s fair at item inside e in
      let next : ℕ = at + item.used in
      let fewer : length (items_from read form (drop at s)) ≡ suc (length (items_from read form (drop next s))) =
      sym (starts_length at _) ∙ ap length t.3 ∙ ap suc (starts_length next _) in
      let m : n ≡ suc (n - 1) = omega (arith, some) in
      let on : skipped read form s n at ≡ skipped read form s (n - 1) next =
      ap (λ (i : ℕ). skipped read form s i at) m ∙ skip_took read form s (n - 1) at inside item e in
      (item, e, (t.1, on, record { good = sym t.2 ∙ h.good; many = omega (arith, fewer, h.many) }))
  item_on (Err why) e = absurd (refused_not_fine why (sym (item_stops read form s fair at why inside e) ∙ h.good))

  pub known_item : (item : Prefix) × (read (drop at s) form ≡ Ok item) × On item.used
  known_item = item_on (read (drop at s) form) refl

-- by a table, which says how long it is
abbrev size_at : List ℕ → Form → List ℕ → ℕ → ℕ
size_at counts form s at = id_size form + 1 + entry counts (get_or s (at + id_size form) 0)

module _ (counts : List ℕ) {form : Form} {s : List ℕ} {n at : ℕ} (some : 0 < n) (h : Remain (by_table counts) form s n at) where
  known_turn : let next = at + size_at counts form s at in
      (next ≤ length s) × (skipped (by_table counts) form s n at ≡ skipped (by_table counts) form s (n - 1) next) × Remain (by_table counts) form s (n - 1) next
  known_turn =
      let k = known_item (by_table counts) form s (fair_table counts) n at some h in
      let size : k.0.used ≡ size_at counts form s at =
      table_size counts (drop at s) form k.0.used k.0.row k.1 ∙ ap (λ (b : ℕ). id_size form + 1 + entry counts b) (get_or-drop at s (id_size form) 0) in
      rw (← size) k.2

  -- its length byte stands there
  pub known_there : at + id_size form < length s
  known_there = omega (arith, known_turn.0)

-- ---- items of one size

-- at the head of the loop: some are passed, and as many as are left remain
pub record Ahead (counts : List ℕ) (form : Form) (s : List ℕ) (most from left at : ℕ) : Type 0 where
  pub passes : Passes (by_table counts) form s most from left at
  pub remain : Remain (by_table counts) form s left at

module _ (counts : List ℕ) {form : Form} {s : List ℕ} {most from k n : ℕ} (id : k ≡ id_size form) where
  -- the first
  pub known_start : 0 < most → Remain (by_table counts) form s most from → n ≡ entry counts (get_or s (from + id_size form) 0)
      → (from + (k + 1 + n) ≤ length s) × Ahead counts form s most from (most - 1) (from + (k + 1 + n))
  known_start some h says =
      let t = known_turn counts some h in
      rw (id, says) (t.0, record { passes = record { fewer = omega (arith, some); onwards = omega arith; within = t.0; same = t.1 }; remain = t.2 })

  -- and the next one, as long
  pub known_next : {left at : ℕ} → Ahead counts form s most from left at → 0 < left → n ≡ entry counts (get_or s (at + id_size form) 0)
      → (at + (k + 1 + n) ≤ length s) × Ahead counts form s most from (left - 1) (at + (k + 1 + n))
  known_next h some says =
      let t = known_turn counts some h.remain in
      rw (id, says)
      (t.0, record { passes = record { fewer = omega (arith, h.passes.fewer, some); onwards = omega (arith, h.passes.onwards); within = t.0; same = h.passes.same ∙ t.1 }; remain = t.2 })

-- ---- the loop that puts

nothing : {A : Type 0} (l : List A) → length l ≡ 0 → l ≡ []
nothing [] e = refl
nothing (x ∷ l) e = absurd (omega (arith, e))

abbrev tail : List ℕ → List ℕ
tail [] = []
tail (p ∷ ps) = ps

-- where there are places still to come, and all is good from `at` on
module _ (read : Reader) (form : Form) (s : List ℕ) (fair : Fair read) (at : ℕ) (good : verdict_from read form s at ≡ fine) where
  -- of two places, the first has sixteen items after it
  pub many_items : (n : ℕ) → n + 15 ≤ 16 * length (places_from read form s at) → Remain read form s n at
  many_items n h = record {
    good = good;
    many = omega (arith, h, sixteenths_length 0 (starts at (items_from read form (drop at s))) (omega arith), starts_length at (items_from read form (drop at s)));
  }

  -- the first place is where they start
  pub first_place : 0 < length (places_from read form s at) → (left : List ℕ) × (places_from read form s at ≡ at ∷ left) × (at < length s)
  unfolding sixteenths
  first_place some =
      let h = many_items 1 (omega (arith, some)) in
      let k = known_item read form s fair 1 at (omega arith) h in
      let lt = inside read form s fair 1 at (omega arith) h in
      (_, ap (sixteenths 0) (item_took read form s fair at k.0 lt k.1).3, lt)

-- at its head: while there are places to put, those before place i stand in the store and those from `at` on are the rest; and else all stand there
pub record Putting (read : Reader) (form : Form) (s d : List ℕ) (at i : ℕ) : Type 0 where
  pub long : length d ≡ length (index_by read s form)
  pub going : i < length d → (verdict_from read form s at ≡ fine) × (take i d ++ places_from read form s at ≡ index_by read s form)
  pub done : length d ≤ i → d ≡ index_by read s form

pub putting_start : {read : Reader} {form : Form} {s d : List ℕ} → Fitting read s form d → Putting read form s d 0 0
putting_start {read} {form} {s} {d} fits = record {
  long = sym fits.room;
  going = λ _. (ap (λ (r : Reading Row). r.verdict) (sym (list_fixed read s form)) ∙ fits.good, sym (index_is read form s));
  done = λ none. nothing d (omega (arith, none)) ∙ sym (nothing (index_by read s form) (omega (arith, fits.room, none)));
}

module _ {read : Reader} {form : Form} {s d : List ℕ} {at i : ℕ} (fair : Fair read) (h : Putting read form s d at i) (lt : i < length d) where
  still : length (places_from read form s at) ≡ length d - i
  still = omega (arith, h.long, ap length (h.going lt).1, length-append (take i d) (places_from read form s at), length-take-le i d (omega (arith, lt)))

  here : (left : List ℕ) × (places_from read form s at ≡ at ∷ left) × (at < length s)
  here = first_place read form s fair at (h.going lt).0 (omega (arith, still, lt))

  pub putting_inside : at < length s
  putting_inside = here.2

  put : take (i + 1) (set d i at) ++ here.0 ≡ index_by read s form
  put =
      ap (λ (l : List ℕ). l ++ here.0) (take_more_set d i at lt)
      ∙ append_assoc (take i d) (at ∷ []) here.0
      ∙ ap (λ (l : List ℕ). take i d ++ l) (sym here.1)
      ∙ (h.going lt).1

  set_long : length (set d i at) ≡ length d
  set_long = length-set d i at

  pub putting_last : length d ≤ i + 1 → Putting read form s (set d i at) at (i + 1)
  putting_last last =
      let none : here.0 ≡ [] = nothing here.0 (omega (arith, ap length here.1, still, last, lt)) in
      record {
        long = set_long ∙ h.long;
        going = λ more. absurd (omega (arith, more, set_long, last));
        done = λ _. sym (append-nil (set d i at)) ∙ ap₂ (λ (l r : List ℕ). l ++ r) (sym (take_all (i + 1) (set d i at) (omega (arith, set_long, last)))) (sym none) ∙ put;
      }

  pub putting_more : i + 1 < length d → Remain read form s 16 at
  putting_more more = many_items read form s fair at (h.going lt).0 16 (omega (arith, still, more))

  pub putting_next : i + 1 < length d → {next : ℕ} → Ok next ≡ skipped read form s 16 at → Putting read form s (set d i at) next (i + 1)
  putting_next more {next} e =
      let b = block_took read form s fair at next here.2 (sym e) in
      let left : here.0 ≡ places_from read form s next = ap tail (sym here.1 ∙ b.3) in
      record {
        long = set_long ∙ h.long;
        going = λ _. (sym b.2 ∙ (h.going lt).0, ap (λ (l : List ℕ). take (i + 1) (set d i at) ++ l) (sym left) ∙ put);
        done = λ none. absurd (omega (arith, none, set_long, more));
      }
