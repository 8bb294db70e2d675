-- Laws of passing over items from a place on: by any way to read one item, and over items of one size by a table of octet counts.
-- Assumes nothing.
use Prim.Native.Nat.{ℕ, zero, suc, ◌+◌, ◌-◌, ◌*◌, ◌≤◌, ◌<◌, min}
use mathlib.Core.Path.{◌≡◌, refl, sym, ap, ◌∙◌}
use mathlib.Core.List.{List}
use native.Mathlib.Nat.{one-mul, suc-mul, mul-le-mul_right, le_of_mul-le-mul_right, min-le_left, min-le_right, le-min}
use native.Mathlib.Omega.{arith}
use borrow.Author.Tests.{le-leb, lt-leb}
use lib.ListN.{length, get_or, take, drop, length-drop}
use lib.Seq.{get_or-drop}
use Rattle.std.specs.Prelude.{Result, Ok, Err}
use Rattle.wire.specs.declared.refusal.Refusal.{Refusal}
use Rattle.wire.proofs.Turn.{rest}
use Rattle.families.specs.Family.{id_size}
use Rattle.families.specs.Octets.{refused_length, entry}
use Rattle.families.specs.declared.Form.{Form}
use Rattle.routes.specs.Prefix.{prefix_with}
use Rattle.routes.specs.List.{Reader, fixed, step_by}
use Rattle.routes.specs.ByTable.{end_by, by_table}
use Rattle.routes.specs.Promises.{sized}
use Rattle.routes.specs.declared.Row.{Row}
use Rattle.routes.specs.declared.Prefix.{Prefix}
use Rattle.routes.specs.declared.Item.{Item}
use Rattle.routes.proofs.PrefixLaws.{given_not_refused}
use Rattle.routes.proofs.ListLaws.{fixed_form, step_form, step_stop, step_taken, turn_took, turn_refused}
use Rattle.routes.proofs.TableLaws.{table_long, table_took, table_size, fair_table}
use Rattle.route_index.specs.Private.{skipped, FirstOf, Passes}

-- ---- by any way to read one item

module _ (read : Reader) (form : Form) (s : List ℕ) where
  pub skip_zero : (at : ℕ) → skipped read form s 0 at ≡ Ok at
  unfolding skipped
  skip_zero at = refl

  pub skip_end : (n at : ℕ) → length s ≤ at → skipped read form s n at ≡ Ok at
  unfolding skipped
  skip_end zero at le = refl
  skip_end (suc n) at le = rw (le-leb (length s) at le)

  module _ (n at : ℕ) (some : at < length s) where
    pub skip_took : (item : Prefix) → read (drop at s) form ≡ Ok item → skipped read form s (suc n) at ≡ skipped read form s n (at + item.used)
    unfolding skipped
    skip_took item e = rw (lt-leb (length s) at some, e)

    pub skip_stop : (why : Refusal) → read (drop at s) form ≡ Err why → skipped read form s (suc n) at ≡ Err why
    unfolding skipped
    skip_stop why e = rw (lt-leb (length s) at some, e)

-- ---- from the size of the item at a place

module _ (counts : List ℕ) (form : Form) (s : List ℕ) (at : ℕ) where
  abbrev Here : Result Item Refusal → List ℕ → Type 0
  Here found t = found ≡ sized (step_by (by_table counts) (fixed form) form t)

  here : (found : Result Item Refusal) → Here found (take (length s - at) (drop at s)) → Here found (drop at s)
  here found e = e ∙ ap (λ (t : List ℕ). sized (step_by (by_table counts) (fixed form) form t)) (rest s at)

  pub item_here : (item : Item) → Here (Ok item) (take (length s - at) (drop at s)) → Here (Ok (record { used = item.used; form = form })) (drop at s)
  item_here item e =
      let step = turn_took (by_table counts) (drop at s) (fixed form) form (fair_table counts) item (here (Ok item) e) in
      let same : form ≡ item.form = sym (fixed_form (by_table counts) form form (drop at s)) ∙ step_form (by_table counts) (fixed form) form item.form (drop at s) item.used _ step in
      ap (λ (f : Form). Ok (record { used = item.used; form = f })) same ∙ here (Ok item) e

  pub stop_here : (n : ℕ) (why : Refusal) → 0 < n → at < length s → Here (Err why) (take (length s - at) (drop at s)) → skipped (by_table counts) form s n at ≡ Err why
  stop_here n why pos some e =
      let step = turn_refused (by_table counts) (drop at s) (fixed form) form why (here (Err why) e) in
      let item : by_table counts (drop at s) form ≡ Err why =
      ap (by_table counts (drop at s)) (sym (fixed_form (by_table counts) form form (drop at s))) ∙ step_stop (by_table counts) (fixed form) form (drop at s) why step in
      let m : n ≡ suc (n - 1) = omega (arith, pos) in
      ap (λ (i : ℕ). skipped (by_table counts) form s i at) m ∙ skip_stop (by_table counts) form s (n - 1) at some why item

-- ---- items of one size

-- at the head of the loop: the item at `from` and those up to `at` are of `used` bytes, n of them octets; one that starts at `last` or before is all there,
-- and is not one too many
pub record Alike (counts : List ℕ) (form : Form) (s : List ℕ) (from used most n last at left : ℕ) : Type 0 where
  pub size : used ≡ id_size form + 1 + n
  pub known : n ≡ refused_length → ⊥
  pub within : last + used ≤ length s
  pub enough : last + used ≤ from + most * used
  pub place : at + left * used ≡ from + most * used
  pub passes : Passes (by_table counts) form s most from left at

module _ {counts : List ℕ} {form : Form} {s : List ℕ} {from used most : ℕ} (h : FirstOf counts form s from used most) where
  -- the item there
  first : (row : Row) × (0 < used) × (used ≤ length (drop from s)) × (by_table counts (drop from s) form ≡ Ok (prefix_with used row))
  first =
      let e = turn_took (by_table counts) (drop from s) (fixed form) form (fair_table counts) (record { used = used; form = form }) h.item in
      let t = step_taken (by_table counts) (fair_table counts) (fixed form) form form (drop from s) used _ e in
      (_, t.0, t.1, t.2)

  abbrev octets_there : ℕ
  octets_there = entry counts (get_or (drop from s) (id_size form) 0)

  size_there : used ≡ id_size form + 1 + octets_there
  size_there = table_size counts (drop from s) form used first.0 first.3

  known_there : octets_there ≡ refused_length → ⊥
  known_there e = absurd (given_not_refused (sym first.3 ∙ table_long counts (drop from s) form (omega (arith, size_there, first.2)) e))

  pub first_fits : (id_size form + 1 ≤ used) × (from + used ≤ length s) × (used ≤ most * used) × (most * used ≤ 16 * used)
  first_fits = (
    omega (arith, size_there),
    omega (arith, first.1, first.2, length-drop from s),
    omega (arith, mul-le-mul_right used h.some, one-mul used),
    mul-le-mul_right used h.few,
  )

  -- up to the end of the list, or of as many items as are asked for
  pub alike_start : {k end : ℕ} → k ≡ id_size form → end ≡ min (length s) (from + most * used)
      → (used ≤ end) × Alike counts form s from used most (used - k - 1) (end - used) (from + used) (most - 1)
  alike_start {k} {end} id is =
      let fits = first_fits in
      let n : used - k - 1 ≡ octets_there = omega (arith, id, size_there) in
      let room : used ≤ end = omega (arith, is, le-min {k = used} {a = length s} {b = from + most * used} (omega (arith, fits)) (omega (arith, fits))) in
      let m : most ≡ suc (most - 1) = omega (arith, h.some) in
      let all : most * used ≡ (most - 1) * used + used = ap (λ (i : ℕ). i * used) m ∙ suc-mul (most - 1) used in
      let one_on : skipped (by_table counts) form s most from ≡ skipped (by_table counts) form s (most - 1) (from + used) =
      ap (λ (i : ℕ). skipped (by_table counts) form s i from) m
      ∙ skip_took (by_table counts) form s (most - 1) from (omega (arith, fits, first.1)) (prefix_with used first.0) first.3 in (
        room,
        record {
          size = omega (arith, id, size_there);
          known = λ e. known_there (sym n ∙ e);
          within = omega (arith, room, is, min-le_left (length s) (from + most * used));
          enough = omega (arith, room, is, min-le_right (length s) (from + most * used));
          place = omega (arith, all);
          passes = record { fewer = omega (arith, h.some); onwards = omega (arith, first.1); within = fits.1; same = one_on };
        },
      )

module _ {counts : List ℕ} {form : Form} {s : List ℕ} {from used most n last at left : ℕ} (h : Alike counts form s from used most n last at left) (before : at ≤ last) where
  -- the next one is all there, and is not one too many
  pub alike_there : (at + id_size form < length s) × (at + used ≤ length s) × (0 < left)
  alike_there =
      let one : 1 * used ≤ left * used = omega (arith, before, h.enough, h.place, one-mul used) in
      (omega (arith, before, h.within, h.size), omega (arith, before, h.within), le_of_mul-le-mul_right one (omega (arith, h.size)))

  -- and it is as long
  pub alike_step : n ≡ entry counts (get_or s (at + id_size form) 0) → Alike counts form s from used most n last (at + used) (left - 1)
  alike_step says =
      let byte : entry counts (get_or (drop at s) (id_size form) 0) ≡ n = ap (entry counts) (get_or-drop at s (id_size form) 0) ∙ sym says in
      let end : end_by counts form (drop at s) ≡ used = omega (arith, byte, h.size) in
      let there : used ≤ length (drop at s) = omega (arith, length-drop at s, alike_there.1) in
      let item = table_took counts (drop at s) form (omega (arith, h.size, there)) (λ e. h.known (sym byte ∙ e)) (omega (arith, end, there)) in
      let m : left ≡ suc (left - 1) = omega (arith, alike_there.2) in
      let one_on : skipped (by_table counts) form s left at ≡ skipped (by_table counts) form s (left - 1) (at + used) =
      ap (λ (i : ℕ). skipped (by_table counts) form s i at) m
      ∙ skip_took (by_table counts) form s (left - 1) at (omega (arith, alike_there.0)) _ item
      ∙ ap (λ (i : ℕ). skipped (by_table counts) form s (left - 1) (at + i)) end in
      record {
        size = h.size;
        known = h.known;
        within = h.within;
        enough = h.enough;
        place = omega (arith, h.place, ap (λ (i : ℕ). i * used) m, suc-mul (left - 1) used);
        passes = record {
          fewer = omega (arith, h.passes.fewer, alike_there.2);
          onwards = omega (arith, h.passes.onwards);
          within = alike_there.1;
          same = h.passes.same ∙ one_on;
        };
      }
