-- Laws of a list's own index: it is taken, its places are the starts of items, and what is found by it are the list's routes; and what is found from any place.
-- Assumes nothing.
use Prim.Native.Nat.{ℕ, zero, suc, ◌+◌, ◌*◌, ◌/◌, ◌%◌, ◌≤◌, ◌<◌}
use mathlib.Core.Path.{◌≡◌, refl, sym, ap, ap₂, ◌∙◌}
use mathlib.Core.List.{List, [], ◌∷◌, map}
use mathlib.Core.Bool.{true}
use native.Mathlib.Nat.{lt_of_not-le}
use native.Mathlib.Decide.{dec_le}
use native.Mathlib.Omega.{arith}
use borrow.Author.Tests.{le-leb, lt-ltb, le-ltb}
use lib.ListN.{length, get_or, take, drop, length-drop, length-map, get_or-eq_default, get_or-map}
use lib.Seq.{get_or-drop, length-take-le}
use Rattle.std.specs.Prelude.{Result, Ok, Err}
use Rattle.wire.specs.Answer.{filled, count_meaning}
use Rattle.wire.specs.Verdict.{Verdict, fine}
use Rattle.wire.specs.declared.refusal.Refusal.{Refusal}
use Rattle.wire.specs.declared.refusal.Refusal.TheVariants.{NoSuchRoute}
use Rattle.wire.proofs.ChoiceLaws.{pick_leb}
use Rattle.wire.specs.Refusal.{list_limit}
use Rattle.wire.proofs.StoreLaws.{take_laid}
use Rattle.wire.specs.Walk.{Step, took, stop, Reading, noted, notes, read_all, pieces, starts, flat}
use Rattle.wire.proofs.WalkLaws.{Sound, all_ind, all_blind, noted_sound, noted_alike, pieces_nil, pieces_stop, pieces_took, starts_length, rest_read}
use Rattle.families.specs.declared.Form.{Form}
use Rattle.routes.specs.List.{Reader, as_step, fixed, step_by, list_by}
use Rattle.routes.specs.Prefix.{prefix_with, item_row, words, host_bits, with_host}
use Rattle.routes.specs.Promises.{count_answer}
use Rattle.routes.specs.declared.Row.{Row}
use Rattle.routes.specs.declared.Prefix.{Prefix}
use Rattle.routes.specs.declared.Route.{Route}
use Rattle.routes.proofs.PrefixLaws.{given_not_refused}
use Rattle.routes.proofs.ListLaws.{Fair, fixed_step, list_fixed, sound_by, count_rows}
use Rattle.route_index.specs.Index.{sixteenths, items_by, index_by, rising, is_index, past_item, route_from, item_route, no_route, route_by}
use Rattle.route_index.proofs.AskLaws.{unless_some}
use Rattle.route_index.proofs.IndexLaws.{sixteenths_length, items_from, items_fixed, index_is, step_took, step_stops, count_fits}
use Rattle.route_index.specs.Promises.{places_for, count_index, room_for, build_index, index_after}

-- ---- every sixteenth of a list

pub sixteenths_at : (skip i : ℕ) (l : List ℕ) → get_or (sixteenths skip l) i 0 ≡ get_or l (skip + 16 * i) 0
unfolding sixteenths
sixteenths_at skip i [] = refl
sixteenths_at zero zero (p ∷ ps) = refl
sixteenths_at zero (suc i) (p ∷ ps) =
    let on : 0 + 16 * suc i ≡ suc (15 + 16 * i) = omega arith in
    sixteenths_at 15 i ps ∙ ap (λ (j : ℕ). get_or (p ∷ ps) j 0) (sym on)
sixteenths_at (suc skip) i (p ∷ ps) =
    let on : suc skip + 16 * i ≡ suc (skip + 16 * i) = omega arith in
    sixteenths_at skip i ps ∙ ap (λ (j : ℕ). get_or (p ∷ ps) j 0) (sym on)

module _ (read : Reader) (fair : Fair read) (form : Form) where
  abbrev step : Form → List ℕ → Step Form Row
  step = step_by read (fixed form)

  sound : Sound step
  sound = sound_by read fair (fixed form)

  -- how an item is read, from a step
  item_of : (st : Form) (t : List ℕ) (used : ℕ) (row : Row) (st' : Form) → step st t ≡ took used row st' → read t form ≡ Ok (prefix_with used row)
  item_of st t used row st' e = by (read t form) (sym (fixed_step read form st t) ∙ e)
    where
      by : (a : Result Prefix Refusal) → as_step form a ≡ took used row st' → a ≡ Ok (prefix_with used row)
      by (Ok item) f = let size : item.used ≡ used = cc in let same : item.row ≡ row = cc in ap₂ (λ (u : ℕ) (r : Row). Ok (prefix_with u r)) size same
      by (Err why) f = let z : ◌≡◌ {A = ℕ} 0 1 = cc in absurd (omega arith)

  stop_of : (st : Form) (t : List ℕ) (why : Refusal) → step st t ≡ stop why → read t form ≡ Err why
  stop_of st t why e = by (read t form) (sym (fixed_step read form st t) ∙ e)
    where
      by : (a : Result Prefix Refusal) → as_step form a ≡ stop why → a ≡ Err why
      by (Ok item) f = let z : ◌≡◌ {A = ℕ} 0 1 = cc in absurd (omega arith)
      by (Err w) f = let same : w ≡ why = cc in ap Err same

  blind : (st st' : Form) (t : List ℕ) → step st t ≡ step st' t
  blind st st' t = fixed_step read form st t ∙ sym (fixed_step read form st' t)

  pieces_state : (st st' : Form) (t : List ℕ) → pieces step st t ≡ pieces step st' t
  unfolding notes
  pieces_state st st' t =
      ap (λ (r : Reading (List ℕ)). r.rows)
      (all_blind (λ st₁ l. noted (λ _ item. item) l (step st₁ l)) (λ st₁ st₂ l. ap (noted (λ _ item. item) l) (blind st₁ st₂ l)) st st' t)

  -- ---- what is found from the front on

  -- the answers of the items, in their order
  abbrev pub routes_in : List ℕ → List (Result Route Refusal)
  routes_in t = map (item_route form) (items_from read form t)

  abbrev Finds : List ℕ → Verdict → Type 0
  Finds t verdict = (n : ℕ) → route_from read form n t ≡ get_or (routes_in t) n (no_route verdict)

  finds_end : Finds [] fine
  unfolding route_from
  finds_end zero = sym (ap (λ (items : List (List ℕ)). get_or (map (item_route form) items) 0 (no_route fine)) (pieces_nil step form))
  finds_end (suc n) = sym (ap (λ (items : List (List ℕ)). get_or (map (item_route form) items) (suc n) (no_route fine)) (pieces_nil step form))

  finds_stop : (t : List ℕ) (why : Refusal) → 0 < length t → read t form ≡ Err why → Finds t (Err why)
  unfolding route_from
  finds_stop t why some e n =
      by n ∙ sym (ap (λ (items : List (List ℕ)). get_or (map (item_route form) items) n (Err why)) (pieces_stop step form t why some (step_stops read form form t why e)))
    where
      by : (m : ℕ) → route_from read form m t ≡ Err why
      by zero = unless_some t (with_host form t (read t form)) some ∙ ap (with_host form t) e
      by (suc m) =
          unless_some t (past_item (read t form) (λ used. route_from read form m (drop used t))) some
          ∙ ap (λ (a : Result Prefix Refusal). past_item a (λ used. route_from read form m (drop used t))) e

  finds_took : (t : List ℕ) (item : Prefix) (verdict : Verdict) → 0 < length t → read t form ≡ Ok item → Finds (drop item.used t) verdict → Finds t verdict
  unfolding route_from
  finds_took t item verdict some e again n =
      let takes = fair.takes t form item.used item.row e in
      let first : routes_in t ≡ item_route form (take item.used t) ∷ routes_in (drop item.used t) =
      ap (map (item_route form)) (pieces_took step form form t item.used item.row some takes.0 (step_took read form form t item e)) in
      by n takes first
    where
      by : (m : ℕ) → (0 < item.used) × (item.used ≤ length t) × (item.row ≡ item_row form (take item.used t)) → routes_in t ≡ item_route form (take item.used t) ∷ routes_in (drop item.used t)
          → route_from read form m t ≡ get_or (routes_in t) m (no_route verdict)
      by zero takes first =
          unless_some t (with_host form t (read t form)) some
          ∙ ap (with_host form t) e
          ∙ ap₂ (λ (u : ℕ) (r : Row). Ok (record { prefix = prefix_with u r; host = host_bits form (take item.used t) })) (sym (length-take-le item.used t takes.1)) takes.2
          ∙ sym (ap (λ (l : List (Result Route Refusal)). get_or l 0 (no_route verdict)) first)
      by (suc m) takes first =
          unless_some t (past_item (read t form) (λ u. route_from read form m (drop u t))) some
          ∙ ap (λ (a : Result Prefix Refusal). past_item a (λ u. route_from read form m (drop u t))) e
          ∙ again m
          ∙ sym (ap (λ (l : List (Result Route Refusal)). get_or l (suc m) (no_route verdict)) first)

  -- the answer of item n, or the verdict, or 20
  pub route_reads : (t : List ℕ) (n : ℕ) → route_from read form n t ≡ get_or (routes_in t) n (no_route (read_all step form t).verdict)
  route_reads =
      all_ind step sound (λ _ t r. Finds t r.verdict)
      (λ _. finds_end)
      (λ st t why some e. finds_stop t why some (stop_of st t why e))
      (λ st st' t used row some e again. finds_took t (prefix_with used row) (read_all step st' (drop used t)).verdict some (item_of st t used row st' e) again)
      form

  -- ---- the rows of the list are those of its items

  rows_from : (t : List ℕ) → (read_all step form t).rows ≡ map (item_row form) (items_from read form t)
  rows_from =
      all_ind step sound (λ _ t r. r.rows ≡ map (item_row form) (items_from read form t))
      (λ _. sym (ap (map (item_row form)) (pieces_nil step form)))
      (λ st t why some e. sym (ap (map (item_row form)) (pieces_stop step form t why some (blind form st t ∙ e))))
      (λ st st' t used row some e again.
      let item = item_of st t used row st' e in
      let takes = fair.takes t form used row item in
      ap₂ ◌∷◌ takes.2 again ∙ sym (ap (map (item_row form)) (pieces_took step form form t used row some takes.0 (step_took read form form t (prefix_with used row) item))))
      form

  pub rows_items : (s : List ℕ) → (list_by read s (fixed form)).rows ≡ map (item_row form) (items_by read s form)
  rows_items s = ap (λ (r : Reading Row). r.rows) (list_fixed read s form) ∙ rows_from s ∙ ap (map (item_row form)) (sym (items_fixed read form s))

  -- ---- the list's own index is taken

  abbrev Rises : List ℕ → Type 0
  Rises t = (skip least at end : ℕ) → least ≤ at → at + length t ≤ end → rising least end (sixteenths skip (starts at (items_from read form t))) ≡ true

  rises_none : (t : List ℕ) → items_from read form t ≡ [] → Rises t
  unfolding starts sixteenths
  rises_none t none skip least at end low fits = ap (λ (items : List (List ℕ)). rising least end (sixteenths skip (starts at items))) none

  rises_took : (st st' : Form) (t : List ℕ) (used : ℕ) (row : Row) → 0 < length t → step st t ≡ took used row st' → Rises (drop used t) → Rises t
  unfolding starts sixteenths
  rises_took st st' t used row some e again skip least at end low fits =
      let takes = sound.takes st st' t used row e in
      let first : starts at (items_from read form t) ≡ at ∷ starts (at + used) (items_from read form (drop used t)) =
      ap (starts at) (pieces_took step form st' t used row some takes.0 (blind form st t ∙ e))
      ∙ ap₂ (λ (i : ℕ) (items : List (List ℕ)). at ∷ starts (at + i) items) (length-take-le used t takes.1) (pieces_state st' form (drop used t)) in
      ap (λ (l : List ℕ). rising least end (sixteenths skip l)) first ∙ by skip takes
    where
      by : (k : ℕ) → (0 < used) × (used ≤ length t) → rising least end (sixteenths k (at ∷ starts (at + used) (items_from read form (drop used t)))) ≡ true
      by zero takes =
          let rest = again 15 (suc at) (at + used) end (omega (arith, takes)) (omega (arith, takes, length-drop used t, fits)) in
          simp (le-leb least at low, lt-ltb at end (omega (arith, fits, some)), rest)
      by (suc k) takes = again k least (at + used) end (omega (arith, takes, low)) (omega (arith, takes, length-drop used t, fits))

  rises : (t : List ℕ) → Rises t
  rises =
      all_ind step sound (λ _ t _. Rises t)
      (λ _. rises_none [] (pieces_nil step form))
      (λ st t why some e. rises_none t (pieces_stop step form t why some (blind form st t ∙ e)))
      rises_took
      form

  pub own_taken : (s : List ℕ) → is_index (length s) (index_by read s form) ≡ true
  unfolding is_index starts sixteenths
  own_taken s = ap (is_index (length s)) (index_is read form s) ∙ by (items_from read form s) (rises s 0 0 0 (length s) (omega arith) (omega arith))
    where
      by : (items : List (List ℕ)) → rising 0 (length s) (sixteenths 0 (starts 0 items)) ≡ true → is_index (length s) (sixteenths 0 (starts 0 items)) ≡ true
      by [] h = refl
      by (item ∷ items) h = h

  -- ---- and leads to its routes

  -- a step whose value is the item's bytes, and whose items are the same
  abbrev bytes_step : Form → List ℕ → Step Form (List ℕ)
  bytes_step st t = noted (λ _ item. item) t (step st t)

  noted_twice : (t : List ℕ) (x : Step Form Row) → noted (λ _ item. item) t (noted (λ _ item. item) t x) ≡ noted {B = List ℕ} (λ _ item. item) t x
  noted_twice t (took used row st) = refl
  noted_twice t (stop n) = refl

  items_same : (s : List ℕ) → pieces bytes_step form s ≡ items_from read form s
  unfolding notes
  items_same s = ap (λ (f : Form → List ℕ → Step Form (List ℕ)). (read_all f form s).rows) (λ i st t. noted_twice t (step st t) i)

  -- the items from the start of one of them on are the rest of them, up to the same verdict
  items_rest : (s : List ℕ) (n : ℕ) → n < length (items_from read form s) →
      let at = get_or (starts 0 (items_from read form s)) n 0 in
      (items_from read form (drop at s) ≡ drop n (items_from read form s)) × ((read_all step form (drop at s)).verdict ≡ (read_all step form s).verdict)
  unfolding notes
  items_rest s n lt =
      let at : ℕ = get_or (starts 0 (items_from read form s)) n 0 in
      let bytes_rest = rest_read bytes_step (noted_sound (λ _ item. item) step sound) form s n lt in
      let place : get_or (starts 0 (pieces bytes_step form s)) n 0 ≡ at = ap (λ (items : List (List ℕ)). get_or (starts 0 items) n 0) (items_same s) in
      let row_rest = rest_read step sound form s n (omega (arith, lt, (noted_alike {B = List ℕ} (λ _ item. item) step sound form s).1)) in (
        pieces_state form bytes_rest.0 (drop at s)
            ∙ ap (λ (i : ℕ). pieces step bytes_rest.0 (drop i s)) (sym place)
            ∙ ap (λ (r : Reading (List ℕ)). r.rows) bytes_rest.1,
        ap (λ (r : Reading Row). r.verdict) (all_blind step blind form row_rest.0 (drop at s) ∙ row_rest.1),
      )

  -- by any index that has the start: what reading from the place named there gives
  pub other_route : (s index : List ℕ) (n : ℕ) → length s ≤ list_limit → is_index (length s) index ≡ true → n / 16 < length index →
      let t = drop (get_or index (n / 16) 0) s in
      route_by read form s index n ≡ get_or (map (item_route form) (items_by read t form)) (n % 16) (no_route (list_by read t (fixed form)).verdict)
  unfolding route_by
  other_route s index n short taken there =
      let t : List ℕ = drop (get_or index (n / 16) 0) s in
      rw (le-leb (length s) list_limit short, taken, lt-ltb (n / 16) (length index) there)
      (route_reads t (n % 16)
      ∙ ap₂ (λ (items : List (List ℕ)) (r : Reading Row). get_or (map (item_route form) items) (n % 16) (no_route r.verdict))
      (sym (items_fixed read form t)) (sym (list_fixed read t form)))

  map_drop : (f : List ℕ → Result Route Refusal) (n : ℕ) (l : List (List ℕ)) → map f (drop n l) ≡ drop n (map f l)
  map_drop f zero l = refl
  map_drop f (suc n) [] = refl
  map_drop f (suc n) (x ∷ l) = map_drop f n l

  -- as many places as blocks of sixteen, the last perhaps not full; and where they lie
  pub own_length : (s : List ℕ) → length (index_by read s form) ≡ (length (items_by read s form) + 15) / 16
  unfolding index_by
  own_length s =
      let items : List (List ℕ) = items_by read s form in
      omega (arith, sixteenths_length 0 (starts 0 items) (omega arith), starts_length 0 items)

  pub own_places : (s : List ℕ) (i : ℕ) → get_or (index_by read s form) i 0 ≡ get_or (starts 0 (items_by read s form)) (16 * i) 0
  unfolding index_by
  own_places s i = let on : 0 + 16 * i ≡ 16 * i = omega arith in sixteenths_at 0 i (starts 0 (items_by read s form)) ∙ ap (λ (j : ℕ). get_or (starts 0 (items_by read s form)) j 0) on

  -- the items from a place of the index on
  own_rest : (s : List ℕ) (i : ℕ) → i < length (index_by read s form) →
      let t = drop (get_or (index_by read s form) i 0) s in
      (items_by read t form ≡ drop (16 * i) (items_by read s form)) × ((list_by read t (fixed form)).verdict ≡ (list_by read s (fixed form)).verdict)
  own_rest s i there =
      let same = items_fixed read form s in
      let some : 16 * i < length (items_from read form s) = omega (arith, there, own_length s, ap length same) in
      let at : ℕ = get_or (starts 0 (items_from read form s)) (16 * i) 0 in
      let place : get_or (index_by read s form) i 0 ≡ at = own_places s i ∙ ap (λ (items : List (List ℕ)). get_or (starts 0 items) (16 * i) 0) same in
      let rest = items_rest s (16 * i) some in (
        ap (λ (j : ℕ). items_by read (drop j s) form) place ∙ items_fixed read form (drop at s) ∙ rest.0 ∙ ap (drop (16 * i)) (sym same),
        ap (λ (j : ℕ). (list_by read (drop j s) (fixed form)).verdict) place
            ∙ ap (λ (r : Reading Row). r.verdict) (list_fixed read (drop at s) form)
            ∙ rest.1
            ∙ sym (ap (λ (r : Reading Row). r.verdict) (list_fixed read s form)),
      )

  -- by its own index, route n is that of item n, and there is none past the last
  pub own_route_lem : (s : List ℕ) → length s ≤ list_limit → (list_by read s (fixed form)).verdict ≡ fine → (n : ℕ)
      → route_by read form s (index_by read s form) n ≡ get_or (map (item_route form) (items_by read s form)) n (Err NoSuchRoute)
  unfolding route_by
  own_route_lem s short good n =
      let index : List ℕ = index_by read s form in
      let routes : List (Result Route Refusal) = map (item_route form) (items_by read s form) in
      let many : length routes ≡ length (items_by read s form) = length-map (items_by read s form) (item_route form) in
      elim (dec_le (length index) (n / 16)) [
        | yes past ↦ (let out : length routes ≤ n = omega (arith, past, own_length s, many) in
            rw (le-leb (length s) list_limit short, own_taken s, le-ltb (n / 16) (length index) past) (sym (get_or-eq_default routes (Err NoSuchRoute) out)))
        | no there ↦ (let rest = own_rest s (n / 16) (lt_of_not-le there) in
            let on : 16 * (n / 16) + n % 16 ≡ n = omega arith in
            other_route s index n short (own_taken s) (lt_of_not-le there)
            ∙ ap₂ (λ (items : List (List ℕ)) (v : Verdict). get_or (map (item_route form) items) (n % 16) (no_route v)) rest.0 (rest.1 ∙ good)
            ∙ ap (λ (l : List (Result Route Refusal)). get_or l (n % 16) (Err NoSuchRoute)) (map_drop (item_route form) (16 * (n / 16)) (items_by read s form))
            ∙ get_or-drop (16 * (n / 16)) routes (n % 16) (Err NoSuchRoute)
            ∙ ap (λ (i : ℕ). get_or routes i (Err NoSuchRoute)) on)
      ]

-- ---- in the words of the calls

-- two ways to say what stands at a place that is there
get_or_there : {A : Type 0} (l : List A) (n : ℕ) (d d' : A) → n < length l → get_or l n d ≡ get_or l n d'
get_or_there [] n d d' h = absurd (omega arith)
get_or_there (x ∷ l) zero d d' h = refl
get_or_there (x ∷ l) (suc n) d d' h = get_or_there l n d d' (omega arith)

-- the six words of row n of a store of rows
words_at : (rows : List Row) (n : ℕ) (none : Row) → n < length rows → take 6 (drop (6 * n) (flat words rows)) ≡ words (get_or rows n none)
unfolding flat
words_at [] n none h = absurd (omega arith)
words_at (row ∷ rows) zero none h = refl
words_at (row ∷ rows) (suc n) none h =
    let on : 6 * suc n ≡ suc (suc (suc (suc (suc (suc (6 * n)))))) = omega arith in
    ap (λ (i : ℕ). take 6 (drop i (flat words (row ∷ rows)))) on ∙ words_at rows n none (omega arith)

module _ (read : Reader) (fair : Fair read) (s : List ℕ) (form : Form) where
  -- what a store holds at its front where an index was built in it
  pub built : (d : List ℕ) (n : ℕ) → build_index read s form (length d) ≡ Ok n
      → (length s ≤ list_limit) × ((list_by read s (fixed form)).verdict ≡ fine) × (length (index_by read s form) ≡ n) × (take n (index_after read s form d) ≡ index_by read s form)
  unfolding build_index index_after
  built d n e =
      let c = by (count_index read s form) e in
      let f = count_fits read s form n c.0 in
      let all : n ≡ 0 + length (index_by read s form) = omega (arith, f.2) in (
        f.0,
        f.1,
        f.2,
        ap₂ (λ (i : ℕ) (a : Result ℕ Refusal). take i (filled (count_meaning a) (index_by read s form) d)) all e ∙ take_laid d 0 (index_by read s form) (omega (arith, c.1, f.2)),
      )
    where
      by : (a : Result ℕ Refusal) → room_for a (length d) ≡ Ok n → (a ≡ Ok n) × (n ≤ length d)
      by (Ok m) =
          pick_leb (λ (a : Result ℕ Refusal). a ≡ Ok n → (◌≡◌ {A = Result ℕ Refusal} (Ok m) (Ok n)) × (n ≤ length d)) m (length d) _ _
          (λ le f. let same : m ≡ n = cc in (f, omega (arith, le, same)))
          (λ _ f. absurd (given_not_refused (sym f)))
      by (Err why) = λ f. absurd (given_not_refused (sym f))

  -- counting an index goes by counting the list
  pub counted_places : (m : ℕ) → count_answer s (list_by read s (fixed form)) ≡ Ok m → count_index read s form ≡ Ok ((m + 15) / 16)
  unfolding count_index
  counted_places m e =
      let rows : length (items_by read s form) ≡ m = sym (length-map (items_by read s form) (item_row form)) ∙ ap length (sym (rows_items read fair form s)) ∙ (count_rows s (list_by read s (fixed form)) m e).1 in
      let places : length (index_by read s form) ≡ (m + 15) / 16 = omega (arith, own_length read fair form s, rows) in
      ap (λ (a : Result ℕ Refusal). places_for a (index_by read s form)) e ∙ ap Ok places

  pub counted_refused : (why : Refusal) → count_answer s (list_by read s (fixed form)) ≡ Err why → count_index read s form ≡ Err why
  unfolding count_index
  counted_refused why e = ap (λ (a : Result ℕ Refusal). places_for a (index_by read s form)) e

  -- route n of the answers is row n of the rows
  pub route_row : (n : ℕ) → n < length (list_by read s (fixed form)).rows
      → (route : Route) × (get_or (map (item_route form) (items_by read s form)) n (Err NoSuchRoute) ≡ Ok route)
      × (take 6 (drop (6 * n) (flat words (list_by read s (fixed form)).rows)) ≡ words route.prefix.row)
  route_row n lt =
      let items : List (List ℕ) = items_by read s form in
      let is = rows_items read fair form s in
      let some : n < length items = omega (arith, lt, ap length is, length-map items (item_row form)) in
      let item : List ℕ = get_or items n [] in (
        record { prefix = prefix_with (length item) (item_row form item); host = host_bits form item },
        get_or_there (map (item_route form) items) n (Err NoSuchRoute) (item_route form []) (omega (arith, some, length-map items (item_route form))) ∙ get_or-map (item_route form) items n [],
        words_at (list_by read s (fixed form)).rows n (item_row form []) lt
            ∙ ap words (ap (λ (rows : List Row). get_or rows n (item_row form [])) is ∙ get_or-map (item_row form) items n []),
      )

  pub route_none : (n : ℕ) → length (list_by read s (fixed form)).rows ≤ n → get_or (map (item_route form) (items_by read s form)) n (Err NoSuchRoute) ≡ Err NoSuchRoute
  route_none n le =
      let items : List (List ℕ) = items_by read s form in
      get_or-eq_default (map (item_route form) items) (Err NoSuchRoute)
      (omega (arith, le, ap length (rows_items read fair form s), length-map items (item_row form), length-map items (item_route form)))
