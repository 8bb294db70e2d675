-- Laws of an index: what passing over sixteen items makes of the places that are still to come; the loop that counts them, and what is built.
-- Assumes nothing.
use Prim.Native.Nat.{ℕ, zero, suc, ◌+◌, ◌-◌, ◌/◌, ◌≤◌, ◌<◌}
use mathlib.Core.Path.{◌≡◌, refl, sym, ap, ap₂, ◌∙◌}
use mathlib.Core.List.{List, [], ◌∷◌, ◌++◌}
use native.Mathlib.Omega.{arith}
use borrow.Author.Tests.{le-leb, lt-leb}
use lib.ListN.{length, take, drop, length-drop, drop_of_length-le}
use lib.Seq.{drop-drop, length-take-le}
use Rattle.std.specs.Prelude.{Result, Ok, Err}
use Rattle.wire.specs.Answer.{count_meaning, filled}
use Rattle.wire.proofs.ChoiceLaws.{pick_leb}
use Rattle.wire.specs.Refusal.{list_limit}
use Rattle.wire.specs.Store.{laid}
use Rattle.wire.specs.Verdict.{Verdict, fine}
use Rattle.wire.specs.Walk.{Step, took, stop, Reading, noted, notes, read_all, pieces, starts}
use Rattle.wire.specs.declared.refusal.Refusal.{Refusal}
use Rattle.wire.specs.declared.refusal.Refusal.TheVariants.{TooLong, NoRoom}
use Rattle.wire.proofs.WalkLaws.{all_nil, all_took, all_stop, all_blind, pieces_nil, pieces_took, tally_one}
use Rattle.families.specs.Family.{max_of}
use Rattle.families.specs.Octets.{table_of}
use Rattle.families.specs.declared.Afi.{Afi}
use Rattle.families.specs.declared.Form.{Form}
use Rattle.families.specs.declared.Form.TheVariants.{Plain}
use Rattle.routes.specs.List.{Reader, up_to, as_step, fixed, step_by, list_by}
use Rattle.routes.specs.Promises.{count_answer}
use Rattle.routes.specs.declared.Row.{Row}
use Rattle.routes.specs.declared.Prefix.{Prefix}
use Rattle.routes.proofs.PrefixLaws.{given_not_refused}
use Rattle.routes.proofs.ListLaws.{Fair, fixed_step, list_fixed, count_long, count_good, count_bad, count_rows, count_short}
use Rattle.routes.specs.ByTable.{by_table}
use Rattle.routes.proofs.TableLaws.{item_family}
use Rattle.route_index.specs.Index.{sixteenths, items_by, index_by, past_item}
use Rattle.route_index.specs.Private.{skipped, Fitting}
use Rattle.route_index.specs.Promises.{places_for, count_index, build_index, index_after}

-- one of sixteen, and one for what is left over
pub sixteenths_length : (skip : ℕ) (l : List ℕ) → skip ≤ 15 → length (sixteenths skip l) ≡ (length l + 15 - skip) / 16
unfolding sixteenths
sixteenths_length skip [] le = omega arith
sixteenths_length zero (p ∷ ps) le = omega (arith, sixteenths_length 15 ps (omega arith))
sixteenths_length (suc skip) (p ∷ ps) le = omega (arith, sixteenths_length skip ps (omega arith))

module _ (read : Reader) (form : Form) where
  abbrev pub step : Form → List ℕ → Step Form Row
  step = step_by read (fixed form)

  -- the items of t, in any state
  abbrev pub items_from : List ℕ → List (List ℕ)
  items_from t = pieces step form t

  pub items_fixed : (s : List ℕ) → items_by read s form ≡ items_from s
  unfolding notes
  items_fixed s =
      ap (λ (r : Reading (List ℕ)). r.rows)
      (all_blind (λ st t. noted (λ _ item. item) t (step st t))
      (λ st st' t. ap (noted (λ _ item. item) t) (fixed_step read form st t ∙ sym (fixed_step read form st' t)))
      Plain form s)

  -- a step of the list, from how its item is read
  pub step_took : (st : Form) (t : List ℕ) (item : Prefix) → read t form ≡ Ok item → step st t ≡ took item.used item.row form
  step_took st t item e = fixed_step read form st t ∙ ap (as_step form) e

  pub step_stops : (st : Form) (t : List ℕ) (why : Refusal) → read t form ≡ Err why → step st t ≡ stop why
  step_stops st t why e = fixed_step read form st t ∙ ap (as_step form) e

  module _ (s : List ℕ) where
    -- the places still to come from `at` on, and the verdict there
    abbrev pub places_from : ℕ → List ℕ
    places_from at = sixteenths 0 (starts at (items_from (drop at s)))

    abbrev pub verdict_from : ℕ → Verdict
    verdict_from at = (read_all step form (drop at s)).verdict

    pub index_is : index_by read s form ≡ places_from 0
    unfolding index_by
    index_is = ap (λ (items : List (List ℕ)). sixteenths 0 (starts 0 items)) (items_fixed s)

    -- nothing comes after the end
    pub none_left : (at : ℕ) → length s ≤ at → (verdict_from at ≡ fine) × ((n : ℕ) → sixteenths n (starts at (items_from (drop at s))) ≡ [])
    unfolding starts sixteenths
    none_left at le =
        let none : drop at s ≡ [] = drop_of_length-le s le in (
          ap (λ (t : List ℕ). (read_all step form t).verdict) none ∙ ap (λ (r : Reading Row). r.verdict) (all_nil step form),
          λ n. ap (λ (t : List ℕ). sixteenths n (starts at (items_from t))) none ∙ ap (λ (items : List (List ℕ)). sixteenths n (starts at items)) (pieces_nil step form),
        )

    module _ (fair : Fair read) where
      -- what an item makes of what is still to come
      pub item_took : (at : ℕ) (item : Prefix) → at < length s → read (drop at s) form ≡ Ok item
          → let next = at + item.used in
          (at < next) × (next ≤ length s) × (verdict_from at ≡ verdict_from next) × (starts at (items_from (drop at s)) ≡ at ∷ starts next (items_from (drop next s)))
      unfolding starts
      item_took at item lt e =
          let t = fair.takes (drop at s) form item.used item.row e in
          let some : 0 < length (drop at s) = omega (arith, length-drop at s) in
          let turn = step_took form (drop at s) item e in
          let on : drop item.used (drop at s) ≡ drop (at + item.used) s = drop-drop item.used at s in (
            omega (arith, t.0),
            omega (arith, t.1, length-drop at s),
            ap (λ (r : Reading Row). r.verdict) (all_took step form form (drop at s) item.used item.row some t.0 turn) ∙ ap (λ (l : List ℕ). (read_all step form l).verdict) on,
            ap (starts at) (pieces_took step form form (drop at s) item.used item.row some t.0 turn)
                ∙ ap₂ (λ (i : ℕ) (l : List ℕ). at ∷ starts (at + i) (items_from l)) (length-take-le item.used (drop at s) t.1) on,
          )

      pub item_stops : (at : ℕ) (why : Refusal) → at < length s → read (drop at s) form ≡ Err why → verdict_from at ≡ Err why
      item_stops at why lt e =
          ap (λ (r : Reading Row). r.verdict) (all_stop step form (drop at s) why (omega (arith, length-drop at s)) (step_stops form (drop at s) why e))

      -- what passing over n items leads to: the places after as many starts, or the verdict
      abbrev Leads : ℕ → ℕ → Result ℕ Refusal → Type 0
      Leads n at (Ok next) = (at ≤ next) × (next ≤ length s) × (verdict_from at ≡ verdict_from next) × (sixteenths n (starts at (items_from (drop at s))) ≡ places_from next)
      Leads n at (Err why) = verdict_from at ≡ Err why

      leads_on : (n at : ℕ) → at < length s → ((used : ℕ) → at + used ≤ length s → Leads n (at + used) (skipped read form s n (at + used)))
          → (a : Result Prefix Refusal) → read (drop at s) form ≡ a → Leads (suc n) at (past_item a (λ used. skipped read form s n (at + used)))
      unfolding sixteenths
      leads_on n at lt again (Ok item) e = by (skipped read form s n (at + item.used)) (again item.used (item_took at item lt e).1)
        where
          by : (x : Result ℕ Refusal) → Leads n (at + item.used) x → Leads (suc n) at x
          by (Ok next) h =
              let t = item_took at item lt e in
              (omega (arith, t.0, h.0), h.1, t.2 ∙ h.2, ap (sixteenths (suc n)) t.3 ∙ h.3)
          by (Err why) h = (item_took at item lt e).2 ∙ h
      leads_on n at lt again (Err why) e = item_stops at why lt e

      leads : (n at : ℕ) → at ≤ length s → Leads n at (skipped read form s n at)
      unfolding skipped
      leads zero at le = (omega arith, le, refl, refl)
      leads (suc n) at le =
          pick_leb (Leads (suc n) at) (length s) at _ _
          (λ end. let none = (none_left at end).1 in (omega arith, le, refl, none (suc n) ∙ sym (none 0)))
          (λ lt. leads_on n at lt (λ used fits. leads n (at + used) fits) (read (drop at s) form) refl)

      -- ---- a block of sixteen items

      abbrev Block : ℕ → ℕ → Type 0
      Block at next = (at < next) × (next ≤ length s) × (verdict_from at ≡ verdict_from next) × (places_from at ≡ at ∷ places_from next)

      block_on : (at : ℕ) → at < length s → (a : Result Prefix Refusal) → read (drop at s) form ≡ a → (next : ℕ)
          → past_item a (λ used. skipped read form s 15 (at + used)) ≡ Ok next → Block at next
      unfolding sixteenths
      block_on at lt (Ok item) e next is =
          let t = item_took at item lt e in
          by (skipped read form s 15 (at + item.used)) (leads 15 (at + item.used) t.1) is
        where
          by : (x : Result ℕ Refusal) → Leads 15 (at + item.used) x → x ≡ Ok next → Block at next
          by (Ok end) h f =
              let t = item_took at item lt e in
              let same : end ≡ next = cc in
              (omega (arith, t.0, h.0), omega (arith, h.1), t.2 ∙ h.2 ∙ ap verdict_from same, ap (sixteenths 0) t.3 ∙ ap (λ (l : List ℕ). at ∷ l) (h.3 ∙ ap places_from same))
          by (Err why) h f = absurd (given_not_refused (sym f))
      block_on at lt (Err why) e next is = absurd (given_not_refused (sym is))

      pub block_took : (at next : ℕ) → at < length s → skipped read form s 16 at ≡ Ok next → Block at next
      unfolding skipped
      block_took at next lt e = block_on at lt (read (drop at s) form) refl next (by_test e)
        where
          by_test : skipped read form s 16 at ≡ Ok next → past_item (read (drop at s) form) (λ used. skipped read form s 15 (at + used)) ≡ Ok next
          by_test f = rw (lt-leb (length s) at lt) at f

      pub block_stop : (at : ℕ) (why : Refusal) → at ≤ length s → skipped read form s 16 at ≡ Err why → verdict_from at ≡ Err why
      block_stop at why le e = by (skipped read form s 16 at) (leads 16 at le) e
        where
          by : (x : Result ℕ Refusal) → Leads 16 at x → x ≡ Err why → verdict_from at ≡ Err why
          by (Ok next) h f = absurd (given_not_refused f)
          by (Err w) h f = h ∙ cc

-- ---- the loop that counts

-- at its head: n is how many places there are before `at`
pub record Counting (read : Reader) (form : Form) (s : List ℕ) (at n : ℕ) : Type 0 where
  pub within : at ≤ length s
  pub few : n ≤ at
  pub verdict : verdict_from read form s 0 ≡ verdict_from read form s at
  pub total : length (places_from read form s 0) ≡ n + length (places_from read form s at)

module _ (read : Reader) (form : Form) (s : List ℕ) where
  abbrev r : Reading Row
  r = list_by read s (fixed form)

  counted : (a : Result ℕ Refusal) → count_answer s r ≡ a → places_for a (index_by read s form) ≡ count_index read s form
  unfolding count_index
  counted a e = ap (λ (x : Result ℕ Refusal). places_for x (index_by read s form)) (sym e)

  pub counting_long : list_limit < length s → Err TooLong ≡ count_index read s form
  counting_long long = counted (Err TooLong) (count_long s r long)

  pub counting_start : Counting read form s 0 0
  counting_start = record { within = omega arith; few = omega arith; verdict = refl; total = omega arith }

  module _ (fair : Fair read) (at n : ℕ) (h : Counting read form s at n) where
    pub counting_step : (next : ℕ) → at < length s → skipped read form s 16 at ≡ Ok next → (at < next) × Counting read form s next (n + 1)
    counting_step next lt e =
        let b = block_took read form s fair at next lt e in (
          b.0,
          record {
            within = b.1;
            few = omega (arith, h.few, b.0);
            verdict = h.verdict ∙ b.2;
            total = omega (arith, h.total, ap length b.3);
          },
        )

    module _ (small : length s ≤ list_limit) where
      pub counting_stop : (why : Refusal) → skipped read form s 16 at ≡ Err why → Err why ≡ count_index read s form
      counting_stop why e =
          counted (Err why) (count_bad s r why small (ap (λ (x : Reading Row). x.verdict) (list_fixed read s form) ∙ h.verdict ∙ block_stop read form s fair at why h.within e))

      pub counting_done : length s ≤ at → Ok n ≡ count_index read s form
      counting_done end =
          let none = none_left read form s at end in
          let verdict : r.verdict ≡ fine = ap (λ (x : Reading Row). x.verdict) (list_fixed read s form) ∙ h.verdict ∙ none.0 in
          let places : length (index_by read s form) ≡ n = omega (arith, ap length (index_is read form s), h.total, ap length (none.1 0)) in
          ap Ok (sym places) ∙ counted (Ok (length r.rows)) (count_good s r (length r.rows) small (verdict, tally_one r.rows))

-- ---- what is built

module _ (read : Reader) (s : List ℕ) (form : Form) where
  -- where places are counted, the list is good and these are its index's
  pub count_fits : (n : ℕ) → count_index read s form ≡ Ok n → (length s ≤ list_limit) × ((list_by read s (fixed form)).verdict ≡ fine) × (length (index_by read s form) ≡ n)
  unfolding count_index
  count_fits n e = by (count_answer s (list_by read s (fixed form))) refl e
    where
      by : (a : Result ℕ Refusal) → count_answer s (list_by read s (fixed form)) ≡ a → places_for a (index_by read s form) ≡ Ok n
          → (length s ≤ list_limit) × ((list_by read s (fixed form)).verdict ≡ fine) × (length (index_by read s form) ≡ n)
      by (Ok m) f g = (count_short s (list_by read s (fixed form)) m f, (count_rows s (list_by read s (fixed form)) m f).0, cc)
      by (Err why) f g = absurd (given_not_refused (sym g))

  -- the answer and the store, by what the count says
  module _ (d : List ℕ) where
    leave : (a : Result ℕ Refusal) → a ≡ build_index read s form (length d) → (a ≡ build_index read s form (length d)) × (filled (count_meaning a) (index_by read s form) d ≡ index_after read s form d)
    unfolding index_after
    leave a e = (e, ap (λ (x : Result ℕ Refusal). filled (count_meaning x) (index_by read s form) d) e)

    pub build_refused : (why : Refusal) → count_index read s form ≡ Err why → (Err why ≡ build_index read s form (length d)) × (d ≡ index_after read s form d)
    unfolding build_index
    build_refused why e = leave (Err why) (rw e)

    pub build_full : (n : ℕ) → count_index read s form ≡ Ok n → length d < n → (Err NoRoom ≡ build_index read s form (length d)) × (d ≡ index_after read s form d)
    unfolding build_index
    build_full n e lt = leave (Err NoRoom) (rw (e, lt-leb n (length d) lt))

    pub build_put : (n : ℕ) → count_index read s form ≡ Ok n → n ≤ length d → (Ok n ≡ build_index read s form (length d)) × (laid d 0 (index_by read s form) ≡ index_after read s form d)
    unfolding build_index
    build_put n e le = leave (Ok n) (rw (e, le-leb n (length d) le))

-- by a family's table
pub count_family : (counts : List ℕ) (afi : Afi) → counts ≡ table_of (max_of afi) → (s : List ℕ) (form : Form) → count_index (by_table counts) s form ≡ count_index (up_to (max_of afi)) s form
count_family counts afi table s form = ap (λ (read : Reader). count_index read s form) (item_family counts afi table)

-- and what is put by it
module _ (counts : List ℕ) (afi : Afi) (table : counts ≡ table_of (max_of afi)) (s : List ℕ) (form : Form) (d : List ℕ) (n : ℕ) (e : Ok n ≡ count_index (by_table counts) s form) (le : n ≤ length d) where
  pub fits_table : (length s ≤ list_limit) × Fitting (by_table counts) s form (take n d)
  fits_table =
      let f = count_fits (by_table counts) s form n (sym e) in
      (f.0, record { good = f.1; room = f.2 ∙ sym (length-take-le n d le) })

  pub put_table : (Ok n ≡ build_index (up_to (max_of afi)) s form (length d)) × (index_by (by_table counts) s form ++ drop n d ≡ index_after (up_to (max_of afi)) s form d)
  put_table =
      let f = count_fits (by_table counts) s form n (sym e) in
      let b = build_put (up_to (max_of afi)) s form d n (sym (e ∙ count_family counts afi table s form)) le in
      let all : n ≡ 0 + length (index_by (by_table counts) s form) = omega (arith, f.2) in
      (b.0, ap (λ (i : ℕ). index_by (by_table counts) s form ++ drop i d) all ∙ ap (λ (read : Reader). laid d 0 (index_by read s form)) (item_family counts afi table) ∙ b.1)
