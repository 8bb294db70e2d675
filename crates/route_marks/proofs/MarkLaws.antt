-- Which rows of a reading have the mark, and what they are without it.
-- Assumes nothing.
use Prim.Native.Nat.{ℕ, ◌+◌, ◌/◌, ◌%◌, ◌≤◌, ◌<◌}
use mathlib.Core.Path.{◌≡◌, refl, sym, ap, ap₂, subst, ◌∙◌}
use mathlib.Core.List.{List, ◌∷◌, map}
use mathlib.Core.Bool.{Bool, true, false}
use Rattle.std.specs.Prelude.{Ok}
use native.Mathlib.Omega.{arith}
use borrow.Author.Tests.{eq-eqb, ne_eqb}
use lib.ListN.{get_or, take, drop}
use lib.Seq.{get_or-take}
use Rattle.wire.specs.Answer.{flag}
use Rattle.wire.specs.Cutting.{Each, one}
use Rattle.wire.specs.Verdict.{fine}
use Rattle.wire.specs.declared.refusal.Refusal.{Refusal}
use Rattle.wire.proofs.AnswerLaws.{refused_not_fine}
use Rattle.wire.specs.Walk.{Step, took, stop, more, read_all, notes, tally}
use Rattle.wire.proofs.WalkLaws.{all_nil, all_stop, all_took, all_ind, all_blind, notes_nil, notes_stop, notes_took}
use Rattle.families.specs.Family.{id_size, guess_mark}
use Rattle.families.proofs.FamilyLaws.{mark_small}
use Rattle.families.specs.declared.AddPath.{AddPath}
use Rattle.families.specs.declared.AddPath.TheVariants.{On, Off, Guess}
use Rattle.families.specs.declared.Form.{Form}
use Rattle.families.specs.declared.Form.TheVariants.{Plain, Tagged}
use Rattle.routes.specs.Prefix.{prefix_with, row_of, item_row, host_bits, prefix_of, route_of}
use Rattle.routes.specs.List.{up_to, as_step, in_form, marked, form_by, step_of, list_by, list_of, hosts_by, hosts_of}
use Rattle.routes.specs.declared.Row.{Row}
use Rattle.routes.specs.declared.Route.{Route}
use Rattle.routes.proofs.BitLaws.{route_prefix}
use Rattle.routes.proofs.PrefixLaws.{Took, prefix_took}
use Rattle.routes.proofs.ListLaws.{fair, sound, step_form, step_stop, step_taken, step_took, fixed_step}
use Rattle.route_marks.specs.Marks.{has_mark, unmarked, bare, by_guess, forms_taken, step_before}
use Rattle.route_marks.proofs.ClearLaws.{unmarked_marked}

-- ---- one row

-- the first word of an item's row is under the mark
pub item_low : (s : List ℕ) (max : ℕ) (form : Form) (used : ℕ) (row : Row) → max ≤ 128 → Took s max form used row → (item_row form (take used s)).first < 512
unfolding item_row row_of
item_low s max form used row small t =
    let byte : get_or (take used s) (id_size form) 0 ≡ get_or s (id_size form) 0 = get_or-take used s (id_size form) 0 (omega (arith, t.size)) in
    omega (arith, byte, t.fits, mark_small form)

-- a word under it has the mark exactly if it is added
low_mark : (w : ℕ) → w < 512 → (has_mark (w + 0) ≡ false) × (has_mark (w + 512) ≡ true)
low_mark w h = (ne_eqb ((w + 0) / 512 % 2) 1 (λ e. omega (arith, e)), eq-eqb ((w + 512) / 512 % 2) 1 (omega arith))

has_mark_lem : (mode : AddPath) (form : Form) (w : ℕ) → w < 512 → has_mark (w + guess_mark mode form) ≡ by_guess mode form
has_mark_lem On form w h = (low_mark w h).0
has_mark_lem Off form w h = (low_mark w h).0
has_mark_lem Guess Plain w h = (low_mark w h).0
has_mark_lem Guess Tagged w h = (low_mark w h).1

mark_off : (mode : AddPath) (form : Form) (w : ℕ) → w < 512 → unmarked (w + guess_mark mode form) ≡ w
mark_off On form w h = omega arith
mark_off Off form w h = omega arith
mark_off Guess Plain w h = omega arith
mark_off Guess Tagged w h = unmarked_marked w h

-- so is that of one route's, which is told its form
pub route_unmarked : (s : List ℕ) (max : ℕ) → max ≤ 128 → (form : Form) (route : Route) → route_of s max form ≡ Ok route → has_mark route.prefix.row.first ≡ false
route_unmarked s max small form route e =
    let t = prefix_took s max form _ _ (route_prefix s max form (Ok route) (sym e) route refl).0 in
    let low : route.prefix.row.first < 512 = rw t.is (item_low s max form _ _ small t) in
    ne_eqb (route.prefix.row.first / 512 % 2) 1 (λ f. omega (arith, low, f))

-- ---- a step

module _ (max : ℕ) (small : max ≤ 128) (mode : AddPath) (st st' : Form) (s : List ℕ) (used : ℕ) (row : Row) (e : step_of max mode st s ≡ took used row st') where
  low : (item_row st' (take used s)).first < 512
  low = item_low s max st' used _ small (step_took max mode st st' s used row e)

  is : marked (guess_mark mode st') (item_row st' (take used s)) ≡ row
  is = (step_taken (up_to max) (fair max) mode st st' s used row e).3

  -- its row has the mark exactly if the guess took it with an id
  step_mark : has_mark row.first ≡ by_guess mode st'
  step_mark = ap (λ (r : Row). has_mark r.first) (sym is) ∙ has_mark_lem mode st' (item_row st' (take used s)).first low

  -- and without it is that of its bytes
  step_bare : bare row ≡ item_row st' (take used s)
  step_bare =
      let r : Row = item_row st' (take used s) in
      ap bare (sym is) ∙ ap (λ (n : ℕ). record { first = n; id = r.id; w0 = r.w0; w1 = r.w1; w2 = r.w2; w3 = r.w3 }) (mark_off mode st' r.first low)

  -- which is what was read before there was a mark
  before_took : step_before max mode st s ≡ took used (bare row) st'
  unfolding in_form
  before_took =
      ap (λ (f : Form). as_step f (prefix_of s max f)) (step_form (up_to max) mode st st' s used row e)
      ∙ ap (as_step st') (step_taken (up_to max) (fair max) mode st st' s used row e).2
      ∙ ap (λ (r : Row). took used r st') (sym step_bare)

before_stop : (max : ℕ) (mode : AddPath) (st : Form) (s : List ℕ) (r : Refusal) → step_of max mode st s ≡ stop r → step_before max mode st s ≡ stop r
unfolding in_form
before_stop max mode st s r e = ap (as_step (form_by (up_to max) mode st s)) (step_stop (up_to max) mode st s r e)

-- ---- a list

module _ (max : ℕ) (small : max ≤ 128) (mode : AddPath) where
  abbrev step : Form → List ℕ → Step Form Row
  step = step_of max mode

  marks_from : (st : Form) (s : List ℕ) → map (λ (r : Row). has_mark r.first) (read_all step st s).rows ≡ map (by_guess mode) (notes (λ form _. form) step st s)
  marks_from =
      all_ind step (sound max mode) (λ st s r. map (λ (q : Row). has_mark q.first) r.rows ≡ map (by_guess mode) (notes (λ form _. form) step st s))
      (λ st. ap (map (by_guess mode)) (sym (notes_nil (λ form _. form) step st)))
      (λ st s n pos e. ap (map (by_guess mode)) (sym (notes_stop (λ form _. form) step st s n pos e)))
      (λ st st' s used row pos e again.
      ap₂ ◌∷◌ (step_mark max small mode st st' s used row e) again
      ∙ ap (map (by_guess mode)) (sym (notes_took (λ form _. form) step st st' s used row pos ((sound max mode).takes st st' s used row e).0 e)))

  -- row by row: the mark is there exactly if the guess took the item with an id
  pub list_marks : (s : List ℕ) → map (λ (r : Row). has_mark r.first) (list_of s max mode).rows ≡ map (by_guess mode) (forms_taken max mode s)
  unfolding list_by
  list_marks s = marks_from Plain s

  before_from : (st : Form) (s : List ℕ)
      → (read_all (step_before max mode) st s ≡ record { rows = map bare (read_all step st s).rows; verdict = (read_all step st s).verdict })
      × (notes host_bits (step_before max mode) st s ≡ notes host_bits step st s)
  before_from =
      let before : Form → List ℕ → Step Form Row = step_before max mode in
      all_ind step (sound max mode)
      (λ st s r. (read_all before st s ≡ record { rows = map bare r.rows; verdict = r.verdict }) × (notes host_bits before st s ≡ notes host_bits step st s))
      (λ st. (all_nil before st, notes_nil host_bits before st ∙ sym (notes_nil host_bits step st)))
      (λ st s n pos e.
      let f = before_stop max mode st s n e in
      (all_stop before st s n pos f, notes_stop host_bits before st s n pos f ∙ sym (notes_stop host_bits step st s n pos e)))
      (λ st st' s used row pos e again.
      let f = before_took max small mode st st' s used row e in
      let up = ((sound max mode).takes st st' s used row e).0 in (
        all_took before st st' s used (bare row) pos up f ∙ ap (more (bare row)) again.0,
        notes_took host_bits before st st' s used (bare row) pos up f
            ∙ ap (λ (l : List Bool). host_bits st' (take used s) ∷ l) again.1
            ∙ sym (notes_took host_bits step st st' s used row pos up e),
      ))

  -- without the marks it is what was read before; the refusal is the same, and so are the rows with a host bit
  pub list_before : (s : List ℕ)
      → (read_all (step_before max mode) Plain s ≡ record { rows = map bare (list_of s max mode).rows; verdict = (list_of s max mode).verdict })
      × (tally flag (notes host_bits (step_before max mode) Plain s) ≡ hosts_of s max mode)
  unfolding list_by hosts_by
  list_before s = let b = before_from Plain s in (b.0, ap (tally flag) b.1)

-- ---- a list that the guess reads to its end with an id at each item

-- is without its marks what is read with Add-Path on
module _ (max : ℕ) (small : max ≤ 128) where
  tagged_from : (st : Form) (s : List ℕ) → (read_all (step_of max Guess) st s).verdict ≡ fine → Each (λ (form : Form). form ≡ Tagged) (notes (λ form _. form) (step_of max Guess) st s)
      → read_all (step_of max On) Plain s ≡ record { rows = map bare (read_all (step_of max Guess) st s).rows; verdict = fine }
  tagged_from =
      let forms : (st : Form) (s : List ℕ) → List Form = notes (λ form _. form) (step_of max Guess) in
      all_ind (step_of max Guess) (sound max Guess)
      (λ st s r. r.verdict ≡ fine → Each (λ (form : Form). form ≡ Tagged) (forms st s) → read_all (step_of max On) Plain s ≡ record { rows = map bare r.rows; verdict = fine })
      (λ st _ _. all_nil (step_of max On) Plain)
      (λ st s r pos e v _. absurd (refused_not_fine r v))
      (λ st st' s used row pos e again v each.
      let up = ((sound max Guess).takes st st' s used row e).0 in
      let ids = first_of (subst (Each (λ (form : Form). form ≡ Tagged)) (notes_took (λ form _. form) (step_of max Guess) st st' s used row pos up e) each) in
      let item : prefix_of s max Tagged ≡ Ok (prefix_with used (bare row)) =
      ap (prefix_of s max) (sym ids.0) ∙ (step_taken (up_to max) (fair max) Guess st st' s used row e).2 ∙ ap (λ (q : Row). Ok (prefix_with used q)) (sym (step_bare max small Guess st st' s used row e)) in
      let on : step_of max On Plain s ≡ took used (bare row) Tagged = fixed_step (up_to max) Tagged Plain s ∙ ap (as_step Tagged) item in
      all_took (step_of max On) Plain Tagged s used (bare row) pos up on
      ∙ ap (more (bare row)) (all_blind (step_of max On) (λ st₁ st₂ t. fixed_step (up_to max) Tagged st₁ t ∙ sym (fixed_step (up_to max) Tagged st₂ t)) Tagged Plain (drop used s) ∙ again v ids.1))
    where
      first_of : {form : Form} {forms : List Form} → Each (λ (f : Form). f ≡ Tagged) (form ∷ forms) → (form ≡ Tagged) × Each (λ (f : Form). f ≡ Tagged) forms
      first_of (one h t) = (h, t)

  pub list_tagged : (s : List ℕ) → (list_of s max Guess).verdict ≡ fine → Each (λ (form : Form). form ≡ Tagged) (forms_taken max Guess s)
      → list_of s max On ≡ record { rows = map bare (list_of s max Guess).rows; verdict = fine }
  unfolding list_by
  list_tagged s v each = tagged_from Plain s v each
