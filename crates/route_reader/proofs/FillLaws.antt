-- Laws of a turn of a loop that fills a store with the rows of a good list.
-- Assumes nothing.
use Prim.Native.Nat.{ℕ, ◌+◌, ◌-◌, ◌≤◌, ◌<◌}
use mathlib.Core.Path.{◌≡◌, sym, ap, ap₂, ◌∙◌}
use mathlib.Core.List.{List, ◌++◌}
use native.Mathlib.Omega.{arith}
use lib.ListN.{length, get_or, take, drop, length-drop}
use lib.Seq.{drop-drop, get_or-drop}
use Rattle.std.specs.Prelude.{Result, Ok, Err}
use Rattle.wire.specs.Store.{laid}
use Rattle.wire.proofs.StoreLaws.{length_laid, laid_laid}
use Rattle.wire.proofs.Turn.{rest, Filled, fill_start, fill_fits, fill_step, fill_takes, fill_never, fill_done}
use Rattle.wire.specs.Walk.{read_all, took, stop, flat}
use Rattle.wire.specs.declared.refusal.Refusal.{Refusal}
use Rattle.families.specs.Family.{max_of, id_size, guess_mark, octets}
use Rattle.families.specs.Octets.{table_of, entry}
use Rattle.families.proofs.FamilyLaws.{max_small}
use Rattle.families.specs.declared.Afi.{Afi}
use Rattle.families.specs.declared.Form.{Form}
use Rattle.families.specs.declared.AddPath.{AddPath}
use Rattle.routes.specs.Prefix.{item_row, words}
use Rattle.routes.proofs.PrefixLaws.{Took}
use Rattle.routes.specs.Private.{Bounded}
use Rattle.routes.specs.List.{up_to, fixed, marked, step_by, step_of, list_of}
use Rattle.routes.specs.ByTable.{by_table}
use Rattle.routes.specs.Promises.{sized}
use Rattle.routes.proofs.ListLaws.{fair, sound, step_form, step_taken, step_took, turn_took, turn_refused, fixed_form, list_fixed}
use Rattle.routes.proofs.TableLaws.{end_same, step_family}
use Rattle.routes.proofs.Carried.{Behind, behind_start, behind_long, behind_next}
use Rattle.routes.specs.declared.Row.{Row}
use Rattle.routes.specs.declared.Item.{Item}
use Rattle.route_reader.specs.Private.{head_words, address_words, Octets, Fitting}
use Rattle.route_reader.proofs.WordsLaws.{item_words}

-- what stands from n on, as the part `&left[n..]` has it
abbrev from : List ℕ → ℕ → List ℕ
from left n = take (length left - n) (drop n left)

-- at the head of a loop: the item to take stands after n of the bytes that are carried, and the rows of those before it are in the store
pub record Held (max : ℕ) (mode : AddPath) (st₀ : Form) (s d₀ left : List ℕ) (n : ℕ) (st : Form) (to : ℕ) (d : List ℕ) : Type 0 where
  pub at : ℕ
  pub behind : Behind s left n at
  pub filled : Filled (step_of max mode) words st₀ s d₀ st at to d

-- what a turn has of the item that it takes, in a form: m octets of it stand from `start` on, and what stands there is carried from then on
pub record Turn (max : ℕ) (mode : AddPath) (st₀ : Form) (s d₀ left : List ℕ) (n to : ℕ) (d : List ℕ) (form : Form) (start m : ℕ) : Type 0 where
  pub inside : start + m ≤ length left
  pub room : to + 6 ≤ length d
  pub front : id_size form < length (from left n)
  pub more : (mark : ℕ) (d₁ : List ℕ) → d₁ ≡ laid d to (head_words mark form (from left n)) → to + 2 + 4 ≤ length d₁
  pub spot : Octets (octets max) m (from left start)
  pub less : length (from left start) - m < length left - n
  -- its head is put, then its address, and the turn is done
  pub next : (mark : ℕ) → mark ≡ guess_mark mode form → (d₁ d₂ : List ℕ) → d₁ ≡ laid d to (head_words mark form (from left n)) → d₂ ≡ laid d₁ (to + 2) (address_words (take m (from left start)))
      → Held max mode st₀ s d₀ (from left start) m form (to + 6) d₂

module _ (max : ℕ) (mode : AddPath) (st₀ : Form) (s d₀ : List ℕ) where
  pub held_start : Fitting (read_all (step_of max mode) st₀ s) d₀ → Held max mode st₀ s d₀ s 0 st₀ 0 d₀
  held_start f = record { at = 0; behind = behind_start s; filled = fill_start (step_of max mode) (sound max mode) words st₀ s d₀ f.good f.room }

  module _ (left : List ℕ) (n : ℕ) (st : Form) (to : ℕ) (d : List ℕ) (h : Held max mode st₀ s d₀ left n st to d) where
    long : length left - n ≡ length s - h.at
    long = behind_long s left n h.at h.behind

    pub held_done : length left ≤ n → d ≡ laid d₀ 0 (flat words (read_all (step_of max mode) st₀ s).rows)
    held_done le = fill_done (step_of max mode) (sound max mode) words st₀ s d₀ st h.at to d h.filled (omega (arith, long))

    held_never : (why : Refusal) → n < length left → step_of max mode st (drop n left) ≡ stop why → ⊥
    held_never why lt e = fill_never (step_of max mode) (sound max mode) words st₀ s d₀ st h.at to d h.filled why (omega (arith, long)) (ap (step_of max mode st) (sym h.behind.is) ∙ e)

    -- the item that a step takes
    pub turn_by : (used : ℕ) (form : Form) → step_of max mode st (drop n left) ≡ took used (marked (guess_mark mode form) (item_row form (take used (drop n left)))) form
        → (start m : ℕ) → start ≡ n + (id_size form + 1) → used ≡ id_size form + 1 + m → Turn max mode st₀ s d₀ left n to d form start m
    turn_by used form step start m place size =
        let b : ℕ = id_size form + 1 in
        let here : List ℕ = from left n in
        let mark : ℕ = guess_mark mode form in
        let item = step_took max mode st form (drop n left) used _ step in
        let stepped : step_of max mode st (drop h.at s) ≡ took used (marked mark (item_row form (take used (drop n left)))) form = ap (step_of max mode st) (sym h.behind.is) ∙ step in
        let fits = fill_fits (step_of max mode) (sound max mode) words st₀ s d₀ st h.at to d h.filled form used _ stepped in
        let within : start + m ≤ length left = omega (arith, fits.0, fits.1, long, h.behind.within) in
        let after : length (from left start) ≡ length left - start = ap length (rest left start) ∙ length-drop start left in
        let bounds : Bounded form used here = record { front = omega (arith, item.size); within = rw rest item.room } in
        let hd : List ℕ = head_words mark form here in
        let there : take (used - b) (drop b here) ≡ take m (from left start) =
        ap₂ (λ (j : ℕ) (t : List ℕ). take j t) (omega (arith, size)) (ap (drop b) (rest left n) ∙ drop-drop b n left ∙ ap (λ (i : ℕ). drop i left) (sym place) ∙ sym (rest left start)) in
        let row : hd ++ address_words (take m (from left start)) ≡ words (marked mark (item_row form (take used (drop n left)))) =
        ap (λ (o : List ℕ). hd ++ address_words o) (sym there) ∙ sym (item_words mark form used here bounds) ∙ ap (λ (t : List ℕ). words (marked mark (item_row form (take used t)))) (rest left n) in
        record {
          inside = within;
          room = fits.2;
          front = rw rest item.there;
          more = λ mark₁ d₁ e. omega (arith, fits.2, ap length e, length_laid d to (head_words mark₁ form here) (omega (arith, fits.2)));
          spot = record { few = omega (arith, item.size, item.fits); there = omega (arith, within, after) };
          less = omega (arith, within, after);
          next = λ mark₁ is d₁ d₂ e f. record {
            at = h.at + used;
            behind = rw place (behind_next s left n h.at h.behind b m (h.at + used) (ap (λ (i : ℕ). h.at + i) size) (omega (arith, within)));
            filled = (
                let put : d₂ ≡ laid d to (words (marked mark (item_row form (take used (drop n left))))) =
                f ∙ ap (λ (l : List ℕ). laid l (to + 2) (address_words (take m (from left start)))) (e ∙ ap (λ (x : ℕ). laid d to (head_words x form here)) is) ∙ laid_laid d to hd (address_words (take m (from left start))) (omega (arith, fits.2)) ∙ ap (laid d to) row in
                rw put (fill_step (step_of max mode) (sound max mode) words st₀ s d₀ st h.at to d h.filled form used _ stepped)
                );
          };
        }

-- ---- items in one form, by the table of the longest prefix

-- a list in one form, whose walk may as well start in that form
pub fitting_form : (s : List ℕ) (max : ℕ) (form : Form) (d : List ℕ) → Fitting (list_of s max (fixed form)) d → Fitting (read_all (step_of max (fixed form)) form s) d
fitting_form s max form d h = rw (list_fixed (up_to max) s form) at h

module _ (max : ℕ) (form : Form) (s d₀ left : List ℕ) (n to : ℕ) (d : List ℕ) (h : Held max (fixed form) form s d₀ left n form to d) where
  -- the item that stands next
  item_here : n < length left → (used : ℕ) × (row : Row) × (step_of max (fixed form) form (drop n left) ≡ took used row form) × Took (drop n left) max form used (item_row form (take used (drop n left)))
  item_here lt =
      let x = fill_takes (step_of max (fixed form)) (sound max (fixed form)) words form s d₀ form h.at to d h.filled (omega (arith, lt, behind_long s left n h.at h.behind)) in
      by x.0 x.1 x.2 x.3
    where
      by : (used : ℕ) (row : Row) (st : Form) → step_of max (fixed form) form (drop h.at s) ≡ took used row st
          → (used : ℕ) × (row : Row) × (step_of max (fixed form) form (drop n left) ≡ took used row form) × Took (drop n left) max form used (item_row form (take used (drop n left)))
      by used row st e =
          let step : step_of max (fixed form) form (drop n left) ≡ took used row st = ap (step_of max (fixed form) form) h.behind.is ∙ e in
          let same : st ≡ form = sym (step_form (up_to max) (fixed form) form st (drop n left) used row step) ∙ fixed_form (up_to max) form form (drop n left) in
          let step : step_of max (fixed form) form (drop n left) ≡ took used row form = rw same at step in
          (used, row, step, step_took max (fixed form) form form (drop n left) used row step)

  -- its id and its length byte are there
  pub front_there : n < length left → n + id_size form < length left
  front_there lt = omega (arith, lt, (item_here lt).3.there, length-drop n left)

-- it has the octets that a family's table says
pub turn_form : (afi : Afi) {form : Form} {s d₀ left : List ℕ} {n to : ℕ} {d counts : List ℕ} {k m : ℕ} → counts ≡ table_of (max_of afi)
    → Held (max_of afi) (fixed form) form s d₀ left n form to d → n < length left → k ≡ id_size form → m ≡ entry counts (get_or left (n + k) 0)
    → Turn (max_of afi) (fixed form) form s d₀ left n to d form (n + k + 1) m
turn_form afi {form = form} {s = s} {d₀ = d₀} {left = left} {n = n} {to = to} {d = d} {counts = counts} {k = k} {m = m} table h lt bytes says =
    let max : ℕ = max_of afi in
    let x = item_here max form s d₀ left n to d h lt in
    let said : entry (table_of max) (get_or (drop n left) (id_size form) 0) ≡ m =
    ap₂ (λ (l : List ℕ) (i : ℕ). entry l i) (sym table) (get_or-drop n left (id_size form) 0 ∙ ap (λ (i : ℕ). get_or left (n + i) 0) (sym bytes)) ∙ sym says in
    let size : x.0 ≡ id_size form + 1 + m = x.3.size ∙ sym (end_same max (omega (arith, max_small afi)) form (drop n left) x.3.fits) ∙ ap (λ (i : ℕ). id_size form + 1 + i) said in
    let step = x.2 ∙ ap (λ (row : Row). took x.0 row form) (sym (step_taken (up_to max) (fair max) (fixed form) form form (drop n left) x.0 x.1 x.2).3) in
    turn_by max (fixed form) form s d₀ left n form to d h x.0 form step (n + k + 1) m (omega (arith, bytes)) size

-- ---- whichever items a step takes, by a family's table

module _ (afi : Afi) (mode : AddPath) {st₀ : Form} {s d₀ left : List ℕ} {n : ℕ} {st : Form} {to : ℕ} {d counts : List ℕ} (table : counts ≡ table_of (max_of afi)) (h : Held (max_of afi) mode st₀ s d₀ left n st to d) where
  told : (r : Result Item Refusal) → r ≡ sized (step_by (by_table counts) mode st (drop n left)) → r ≡ sized (step_of (max_of afi) mode st (drop n left))
  told r e = e ∙ ap sized (step_family counts afi table mode st (drop n left))

  pub turn_taken : {item : Item} → Ok item ≡ sized (step_by (by_table counts) mode st (drop n left)) → (k : ℕ) → k ≡ id_size item.form
      → (k + 1 ≤ item.used) × Turn (max_of afi) mode st₀ s d₀ left n to d item.form (n + (k + 1)) (item.used - (k + 1))
  turn_taken {item = item} e k bytes =
      let step = turn_took (up_to (max_of afi)) (drop n left) mode st (fair (max_of afi)) item (told (Ok item) e) in
      let enough : k + 1 ≤ item.used = omega (arith, bytes, (step_took (max_of afi) mode st item.form (drop n left) item.used _ step).size) in
      (enough, turn_by (max_of afi) mode st₀ s d₀ left n st to d h item.used item.form step (n + (k + 1)) (item.used - (k + 1)) (omega (arith, bytes)) (omega (arith, bytes, enough)))

  -- and none refuses
  pub step_never : n < length left → (why : Refusal) → Err why ≡ sized (step_by (by_table counts) mode st (drop n left)) → ⊥
  step_never lt why e = held_never (max_of afi) mode st₀ s d₀ left n st to d h why lt (turn_refused (up_to (max_of afi)) (drop n left) mode st why (told (Err why) e))
