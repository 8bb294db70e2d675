-- Laws of a step under any setting, whatever reads one item, and of a list's answers.
-- Assumes nothing.
use Prim.Native.Nat.{ℕ, ◌+◌, ◌*◌, ◌/◌, ◌≤◌, ◌<◌}
use mathlib.Core.Path.{◌≡◌, refl, sym, ap, ap₂, ◌∙◌}
use mathlib.Core.List.{List, [], ◌∷◌}
use mathlib.Core.Bool.{Bool, true, false, not}
use Rattle.std.specs.Prelude.{Result, Ok, Err}
use lib.Dec.{eqb}
use native.Mathlib.Nat.{add-zero}
use native.Mathlib.Omega.{arith}
use borrow.Author.Tests.{le-leb, lt-leb, eqb-true}
use lib.ListN.{length, get_or, take, drop}
use Rattle.wire.specs.Answer.{given, number_in, value_in, filled, flag, count_meaning}
use Rattle.wire.specs.Verdict.{Verdict, fine, unless}
use Rattle.wire.specs.declared.refusal.Refusal.{Refusal}
use Rattle.wire.specs.declared.refusal.Refusal.TheVariants.{TooLong, OneByteSection, NoRoom}
use Rattle.wire.specs.Choice.{pick}
use Rattle.wire.proofs.ChoiceLaws.{pick_leb}
use Rattle.wire.specs.Refusal.{list_limit}
use Rattle.wire.specs.Store.{laid}
use Rattle.wire.proofs.StoreLaws.{take_laid}
use Rattle.wire.proofs.Turn.{Light, Counted, turn_fits, count_start, count_step, count_stop, count_done, tally_few}
use Rattle.wire.specs.Walk.{read_all, Step, took, stop, Reading, refused, noted, notes, tally, flat}
use Rattle.wire.proofs.WalkLaws.{Sound, tally_one, flat_length, all_blind, noted_sound, noted_alike}
use Rattle.routes.specs.Prefix.{item_row, words, host_bits, prefix_with}
use Rattle.routes.proofs.PrefixLaws.{given_not_refused, Took, prefix_took}
use Rattle.routes.specs.List.{Reader, up_to, as_step, in_form, marked, marked_step, plain_here, tried, guess_form, form_by, fixed, step_by, step_of, list_by, hosts_by, strange, section_by}
use Rattle.routes.specs.Promises.{sized, count_answer, has_room, read_answer, store_after, with_hosts, rows_alone, count_list, rows_in, hosts_in, verdict_in}
use Rattle.routes.specs.Private.{size_of}
use Rattle.routes.proofs.HostLaws.{flag_few, tally_flags}
use Rattle.families.specs.Family.{guess_mark}
use Rattle.families.specs.declared.Form.{Form}
use Rattle.families.specs.declared.Form.TheVariants.{Plain, Tagged}
use Rattle.families.specs.declared.AddPath.{AddPath}
use Rattle.routes.specs.declared.Row.{Row}
use Rattle.routes.specs.declared.Prefix.{Prefix}
use Rattle.routes.specs.declared.Item.{Item}
use Rattle.routes.specs.declared.Routes.{Routes}

zero_ne_one : ◌≡◌ {A = ℕ} 0 1 → ⊥
zero_ne_one e = omega arith

-- ---- one step

-- what a step needs of whatever reads one item: it takes some bytes that are there, for their row
pub record Fair (read : Reader) : Type 0 where
  pub takes : (s : List ℕ) (form : Form) (used : ℕ) (row : Row) → read s form ≡ Ok (prefix_with used row) → (0 < used) × (used ≤ length s) × (row ≡ item_row form (take used s))

-- no mark is added as 0
marked_none : (row : Row) → marked 0 row ≡ row
marked_none row = ap (λ (n : ℕ). record { first = n; id = row.id; w0 = row.w0; w1 = row.w1; w2 = row.w2; w3 = row.w3 }) (add-zero row.first)

-- the item behind a step that takes one, and the refusal behind one that does not
form_took : (mode : AddPath) (form : Form) (a : Result Prefix Refusal) (used : ℕ) (row : Row) (st : Form) → marked_step mode (as_step form a) ≡ took used row st
    → (bare : Row) × (form ≡ st) × (a ≡ Ok (prefix_with used bare)) × (marked (guess_mark mode st) bare ≡ row)
form_took mode form (Ok p) used row st f =
    let size : p.used ≡ used = cc in
    let same : marked (guess_mark mode form) p.row ≡ row = cc in
    let here : form ≡ st = cc in
    (p.row, here, ap (λ (n : ℕ). Ok (prefix_with n p.row)) size, ap (λ (f : Form). marked (guess_mark mode f) p.row) (sym here) ∙ same)
form_took mode form (Err r) used row st f = let z : ◌≡◌ {A = ℕ} 0 1 = cc in absurd (zero_ne_one z)

form_stop : (mode : AddPath) (form : Form) (a : Result Prefix Refusal) (r : Refusal) → marked_step mode (as_step form a) ≡ stop r → a ≡ Err r
form_stop mode form (Ok p) r f = let z : ◌≡◌ {A = ℕ} 0 1 = cc in absurd (zero_ne_one z)
form_stop mode form (Err r') r f = let same : r' ≡ r = cc in ap Err same

-- the state that a step leaves is the form that its setting chose, and its item is read in it
pub step_form : (read : Reader) (mode : AddPath) (st st' : Form) (s : List ℕ) (used : ℕ) (row : Row) → step_by read mode st s ≡ took used row st' → form_by read mode st s ≡ st'
unfolding step_by in_form
step_form read mode st st' s used row e = (form_took mode (form_by read mode st s) (read s (form_by read mode st s)) used row st' e).1

step_item : (read : Reader) (mode : AddPath) (st st' : Form) (s : List ℕ) (used : ℕ) (row : Row) → step_by read mode st s ≡ took used row st'
    → (bare : Row) × (read s st' ≡ Ok (prefix_with used bare)) × (marked (guess_mark mode st') bare ≡ row)
unfolding step_by in_form
step_item read mode st st' s used row e =
    let t = form_took mode (form_by read mode st s) (read s (form_by read mode st s)) used row st' e in
    (t.0, ap (read s) (sym t.1) ∙ t.2, t.3)

pub step_stop : (read : Reader) (mode : AddPath) (st : Form) (s : List ℕ) (r : Refusal) → step_by read mode st s ≡ stop r → read s (form_by read mode st s) ≡ Err r
unfolding step_by in_form
step_stop read mode st s r e = form_stop mode (form_by read mode st s) (read s (form_by read mode st s)) r e

module _ (read : Reader) (fair : Fair read) (mode : AddPath) where
  -- what is taken are some bytes that are there, which are an item in the form that the step leaves, for their row with its mark
  pub step_taken : (st st' : Form) (s : List ℕ) (used : ℕ) (row : Row) → step_by read mode st s ≡ took used row st'
      → (0 < used) × (used ≤ length s) × (read s st' ≡ Ok (prefix_with used (item_row st' (take used s)))) × (marked (guess_mark mode st') (item_row st' (take used s)) ≡ row)
  step_taken st st' s used row e =
      let i = step_item read mode st st' s used row e in
      let t = fair.takes s st' used i.0 i.1 in
      (t.0, t.1, i.1 ∙ ap (λ (bare : Row). Ok (prefix_with used bare)) t.2, ap (marked (guess_mark mode st')) (sym t.2) ∙ i.2)

  pub sound_by : Sound (step_by read mode)
  sound_by = record {
    takes = λ st st' s used row e. (let t = step_taken st st' s used row e in (t.0, t.1));
  }

  -- a row weighs one in a count
  pub light_by : Light (step_by read mode) (λ _. 1) 1
  light_by st st' s used row e = omega (arith, sound_by.takes st st' s used row e)

  -- so does whether its item has a host bit
  pub host_sound : Sound (λ st s. noted host_bits s (step_by read mode st s))
  host_sound = noted_sound host_bits (step_by read mode) sound_by

  one_light : Light (λ st s. noted host_bits s (step_by read mode st s)) (λ _. 1) 1
  one_light st st' s used host e = omega (arith, (host_sound.takes st st' s used host e).0)

  host_light : Light (λ st s. noted host_bits s (step_by read mode st s)) flag 1
  host_light st st' s used host e = omega (arith, (host_sound.takes st st' s used host e).0, flag_few host)

-- ---- at most so many bits

pub fair : (max : ℕ) → Fair (up_to max)
fair max = record {
  takes = λ s form used row e. (let t = prefix_took s max form used row e in (omega (arith, t.size), t.room, t.is));
}

pub sound : (max : ℕ) (mode : AddPath) → Sound (step_of max mode)
sound max mode = sound_by (up_to max) (fair max) mode

pub light : (max : ℕ) (mode : AddPath) → Light (step_of max mode) (λ _. 1) 1
light max mode = light_by (up_to max) (fair max) mode

-- whatever the setting, an item that is taken is one in the form that the step leaves
pub step_took : (max : ℕ) (mode : AddPath) (st st' : Form) (s : List ℕ) (used : ℕ) (row : Row) → step_of max mode st s ≡ took used row st' → Took s max st' used (item_row st' (take used s))
step_took max mode st st' s used row e = prefix_took s max st' used _ (step_taken (up_to max) (fair max) mode st st' s used row e).2

-- ---- an item and its size

pub size_took : (read : Reader) → Fair read → (s : List ℕ) (form : Form) (used : ℕ) → size_of (read s form) ≡ Ok used → read s form ≡ Ok (prefix_with used (item_row form (take used s)))
size_took read fair s form used e = by (read s form) refl e
  where
    by : (a : Result Prefix Refusal) → read s form ≡ a → size_of a ≡ Ok used → read s form ≡ Ok (prefix_with used (item_row form (take used s)))
    by (Ok p) f g =
        let size : p.used ≡ used = cc in
        let here : read s form ≡ Ok (prefix_with used p.row) = f ∙ ap (λ (n : ℕ). Ok (prefix_with n p.row)) size in
        here ∙ ap (λ (row : Row). Ok (prefix_with used row)) (fair.takes s form used p.row here).2
    by (Err r) f g = absurd (given_not_refused (sym g))

pub size_refused : (a : Result Prefix Refusal) (r : Refusal) → size_of a ≡ Err r → a ≡ Err r
size_refused (Ok p) r e = absurd (given_not_refused e)
size_refused (Err r') r e = let same : r' ≡ r = cc in ap Err same

-- ---- a step and its size

-- an item's size, with the form that it was read in
abbrev pub kept : Result ℕ Refusal → Form → Result Item Refusal
kept (Ok used) form = Ok (record { used = used; form = form })
kept (Err r) form = Err r

sized_in : (mode : AddPath) (form : Form) (a : Result Prefix Refusal) → kept (size_of a) form ≡ sized (marked_step mode (as_step form a))
sized_in mode form (Ok p) = refl
sized_in mode form (Err r) = refl

-- the size of an item in the form that the setting chooses is that of the step
pub size_step : (read : Reader) (mode : AddPath) (st form : Form) (s : List ℕ) (size : Result ℕ Refusal) → size ≡ size_of (read s form) → form_by read mode st s ≡ form
    → kept size form ≡ sized (step_by read mode st s)
unfolding step_by in_form
size_step read mode st form s size e f =
    ap (λ (z : Result ℕ Refusal). kept z form) e ∙ sized_in mode form (read s form) ∙ ap (λ (g : Form). sized (marked_step mode (as_step g (read s g)))) (sym f)

-- in Plain, a byte that is not read without id is 0
pub plain_zero : (b : ℕ) → plain_here Plain b ≡ false → b ≡ 0
plain_zero b = by (eqb b 0) refl
  where
    by : (x : Bool) → eqb b 0 ≡ x → not x ≡ false → b ≡ 0
    by true e f = eqb-true b 0 e
    by false e f = let z : ◌≡◌ {A = ℕ} 0 1 = cc in absurd (zero_ne_one z)

-- the form of the guess: Plain at a byte other than 0, Tagged where the item is well formed so, and else Plain
pub guess_plain : (read : Reader) (st : Form) (s : List ℕ) → plain_here st (get_or s 0 0) ≡ true → guess_form read st s ≡ Plain
unfolding guess_form
guess_plain read st s e = rw e

pub guess_tagged : (read : Reader) (st : Form) (s : List ℕ) (used : ℕ) → plain_here st (get_or s 0 0) ≡ false → size_of (read s Tagged) ≡ Ok used → guess_form read st s ≡ Tagged
unfolding guess_form
guess_tagged read st s used e f = rw e (by (read s Tagged) f)
  where
    by : (a : Result Prefix Refusal) → size_of a ≡ Ok used → tried a ≡ Tagged
    by (Ok p) g = refl
    by (Err r) g = absurd (given_not_refused (sym g))

pub guess_else : (read : Reader) (st : Form) (s : List ℕ) (r : Refusal) → plain_here st (get_or s 0 0) ≡ false → size_of (read s Tagged) ≡ Err r → guess_form read st s ≡ Plain
unfolding guess_form
guess_else read st s r e f = rw (e, size_refused (read s Tagged) r f)

-- the item behind a size
unsize : (x : Step Form Row) (item : Item) → sized x ≡ Ok item → (row : Row) × (x ≡ took item.used row item.form)
unsize (took u r f) item e = (r, let same : record { used = u; form = f } ≡ item = cc in ap (λ (i : Item). took i.used r i.form) same)
unsize (stop n) item e = absurd (given_not_refused (sym e))

unsize_stop : (x : Step Form Row) (r : Refusal) → sized x ≡ Err r → x ≡ stop r
unsize_stop (took u row f) r e = absurd (given_not_refused e)
unsize_stop (stop r') r e = let same : r' ≡ r = cc in ap stop same

-- under the setting of a form every item stands in that form, whatever the state
pub fixed_form : (read : Reader) (form st : Form) (s : List ℕ) → form_by read (fixed form) st s ≡ form
fixed_form read Plain st s = refl
fixed_form read Tagged st s = refl

pub size_fixed : (read : Reader) (form : Form) (s : List ℕ) (size : Result ℕ Refusal) → size ≡ size_of (read s form) → kept size form ≡ sized (step_by read (fixed form) form s)
size_fixed read form s size e = size_step read (fixed form) form form s size e (fixed_form read form form s)

-- and has no mark
pub no_mark : (form : Form) → 0 ≡ guess_mark (fixed form) form
no_mark Plain = refl
no_mark Tagged = refl

pub fixed_step : (read : Reader) (form st : Form) (s : List ℕ) → step_by read (fixed form) st s ≡ as_step form (read s form)
unfolding step_by in_form
fixed_step read form st s = ap (λ (f : Form). marked_step (fixed form) (as_step f (read s f))) (fixed_form read form st s) ∙ bare (read s form)
  where
    bare : (a : Result Prefix Refusal) → marked_step (fixed form) (as_step form a) ≡ as_step form a
    bare (Ok p) = ap (λ (r : Row). took p.used r form) (ap (λ (n : ℕ). marked n p.row) (sym (no_mark form)) ∙ marked_none p.row)
    bare (Err r) = refl

-- so that its walk may as well start in that form
pub list_fixed : (read : Reader) (s : List ℕ) (form : Form) → list_by read s (fixed form) ≡ read_all (step_by read (fixed form)) form s
unfolding list_by
list_fixed read s form =
    all_blind (step_by read (fixed form)) (λ st st' t. fixed_step read form st t ∙ sym (fixed_step read form st' t)) Plain form s

pub hosts_fixed : (read : Reader) (s : List ℕ) (form : Form) → hosts_by read s (fixed form) ≡ tally flag (notes host_bits (step_by read (fixed form)) form s)
unfolding hosts_by notes
hosts_fixed read s form =
    ap (λ (r : Reading Bool). tally flag r.rows)
    (all_blind (λ st t. noted host_bits t (step_by read (fixed form) st t))
    (λ st st' t. ap (noted host_bits t) (fixed_step read form st t ∙ sym (fixed_step read form st' t)))
    Plain form s)

-- ---- a list's answers, over any reading

pub words_length : (rows : List Row) → length (flat words rows) ≡ 6 * length rows
words_length = flat_length words 6 (λ _. refl)

unless_rows : (v : Verdict) (m n : ℕ) → unless v m ≡ Ok n → (v ≡ fine) × (m ≡ n)
unless_rows (Ok tt) m n e = (refl, cc)
unless_rows (Err r) m n e = absurd (given_not_refused (sym e))

-- an answer with the rows that have a host bit, and the one without
pub beside_list : (a : Result ℕ Refusal) (hosts : ℕ) → rows_alone (with_hosts a hosts) ≡ a
beside_list (Ok n) hosts = refl
beside_list (Err r) hosts = refl

pub beside_rows : (a : Result ℕ Refusal) (hosts : ℕ) → rows_in (with_hosts a hosts) ≡ value_in 0 (count_meaning a)
beside_rows (Ok n) hosts = refl
beside_rows (Err r) hosts = refl

pub beside_verdict : (a : Result ℕ Refusal) (hosts : ℕ) → verdict_in (with_hosts a hosts) ≡ number_in (count_meaning a)
beside_verdict (Ok n) hosts = refl
beside_verdict (Err r) hosts = refl

pub told_list : (a : Result ℕ Refusal) (hosts : ℕ) (z : Result Routes Refusal) → z ≡ with_hosts a hosts → rows_alone z ≡ a
told_list a hosts z e = ap rows_alone e ∙ beside_list a hosts

pub beside : (hosts : ℕ) (a b : Result ℕ Refusal) → a ≡ b → with_hosts a hosts ≡ with_hosts b hosts
beside hosts a b e = ap (λ (x : Result ℕ Refusal). with_hosts x hosts) e

pub told_alone : (a : Result ℕ Refusal) (hosts : ℕ) (z : Result Routes Refusal) (x : Result ℕ Refusal) → z ≡ with_hosts a hosts → rows_alone z ≡ x → z ≡ with_hosts x hosts
told_alone a hosts z x e f = e ∙ beside hosts a x (sym (told_list a hosts z e) ∙ f)

module _ (s : List ℕ) (r : Reading Row) where
  pub count_long : list_limit < length s → count_answer s r ≡ Err TooLong
  unfolding count_answer
  count_long h = rw (lt-leb (length s) list_limit h)

  pub count_good : (n : ℕ) → length s ≤ list_limit → (r.verdict ≡ fine) × (tally (λ _. 1) r.rows ≡ n) → count_answer s r ≡ Ok n
  unfolding count_answer
  count_good n h e = let k : length r.rows ≡ n = sym (tally_one r.rows) ∙ e.1 in rw (le-leb (length s) list_limit h, e.0, k)

  pub count_bad : (why : Refusal) → length s ≤ list_limit → r.verdict ≡ Err why → count_answer s r ≡ Err why
  unfolding count_answer
  count_bad why h e = rw (le-leb (length s) list_limit h, e)

  pub count_rows : (n : ℕ) → count_answer s r ≡ Ok n → (r.verdict ≡ fine) × (length r.rows ≡ n)
  unfolding count_answer
  count_rows n =
      pick_leb (λ (a : Result ℕ Refusal). a ≡ Ok n → (r.verdict ≡ fine) × (length r.rows ≡ n)) (length s) list_limit _ _
      (λ _ e. unless_rows r.verdict _ n e)
      (λ _ e. absurd (given_not_refused (sym e)))

  pub count_short : (n : ℕ) → count_answer s r ≡ Ok n → length s ≤ list_limit
  unfolding count_answer
  count_short n =
      pick_leb (λ (a : Result ℕ Refusal). a ≡ Ok n → length s ≤ list_limit) (length s) list_limit _ _
      (λ le _. le)
      (λ _ e. absurd (given_not_refused (sym e)))

  -- what is read was counted, and has room
  pub read_rows : (n places : ℕ) → read_answer s r places ≡ Ok n → (count_answer s r ≡ Ok n) × (n ≤ places / 6)
  unfolding read_answer
  read_rows n places = by (count_answer s r)
    where
      by : (a : Result ℕ Refusal) → pick (has_room a places) a (Err NoRoom) ≡ Ok n → (a ≡ Ok n) × (n ≤ places / 6)
      by (Ok m) =
          pick_leb (λ (a : Result ℕ Refusal). a ≡ Ok n → (◌≡◌ {A = Result ℕ Refusal} (Ok m) (Ok n)) × (n ≤ places / 6)) m (places / 6) _ _
          (λ le e. let same : m ≡ n = cc in (e, omega arith))
          (λ _ e. absurd (given_not_refused (sym e)))
      by (Err k) = λ e. absurd (given_not_refused (sym e))

  -- the store, by the answer
  pub store_by : (d : List ℕ) (a : Result ℕ Refusal) → read_answer s r (length d) ≡ a → store_after s r d ≡ filled (count_meaning a) (flat words r.rows) d
  unfolding store_after
  store_by d a e = ap (λ (x : Result ℕ Refusal). filled (count_meaning x) (flat words r.rows) d) e

  -- an answer counts the places of its rows
  pub counted_places : (a : Result ℕ Refusal) (fields : List ℕ) → count_answer s r ≡ a → count_meaning a ≡ given fields → length (flat words r.rows) ≡ 6 * value_in 0 (count_meaning a)
  counted_places (Ok n) fields c e = words_length r.rows ∙ ap (λ (k : ℕ). 6 * k) (count_rows n c).1
  counted_places (Err n) fields c e = let z : ◌≡◌ {A = ℕ} 0 1 = cc in absurd (zero_ne_one z)

  pub read_places : (places : ℕ) (a : Result ℕ Refusal) (fields : List ℕ) → read_answer s r places ≡ a → count_meaning a ≡ given fields → length (flat words r.rows) ≡ 6 * value_in 0 (count_meaning a)
  read_places places (Ok n) fields c e = counted_places (Ok n) fields (read_rows n places c).0 e
  read_places places (Err n) fields c e = let z : ◌≡◌ {A = ℕ} 0 1 = cc in absurd (zero_ne_one z)

  -- the store then holds the rows from its front, and its first words are theirs
  pub read_stored : (d : List ℕ) (n : ℕ) → read_answer s r (length d) ≡ Ok n
      → (length r.rows ≡ n) × (store_after s r d ≡ laid d 0 (flat words r.rows)) × (take (6 * n) (store_after s r d) ≡ flat words r.rows)
  read_stored d n e =
      let vs : List ℕ = flat words r.rows in
      let h = read_rows n (length d) e in
      let many : length r.rows ≡ n = (count_rows n h.0).1 in
      let is : store_after s r d ≡ laid d 0 vs = store_by d (Ok n) e in
      let all : 6 * n ≡ 0 + length vs = omega (arith, many, words_length r.rows) in
      (many, is, ap₂ take all is ∙ take_laid d 0 vs (omega (arith, h.1)))

  -- the answer and the store that a reading leaves, by what the count says
  module _ (d : List ℕ) where
    leave : (a : Result ℕ Refusal) → a ≡ read_answer s r (length d) → (a ≡ read_answer s r (length d)) × (filled (count_meaning a) (flat words r.rows) d ≡ store_after s r d)
    leave a e = (e, sym (store_by d a (sym e)))

    pub leave_refused : (why : Refusal) → count_answer s r ≡ Err why → (Err why ≡ read_answer s r (length d)) × (d ≡ store_after s r d)
    unfolding read_answer
    leave_refused why e = leave (Err why) (rw e)

    pub leave_full : (n : ℕ) → count_answer s r ≡ Ok n → length d / 6 < n → (Err NoRoom ≡ read_answer s r (length d)) × (d ≡ store_after s r d)
    unfolding read_answer
    leave_full n e lt = leave (Err NoRoom) (rw (e, lt-leb n (length d / 6) lt))

    pub leave_rows : (n : ℕ) → count_answer s r ≡ Ok n → n ≤ length d / 6 → (Ok n ≡ read_answer s r (length d)) × (laid d 0 (flat words r.rows) ≡ store_after s r d)
    unfolding read_answer
    leave_rows n e le = leave (Ok n) (rw (e, le-leb n (length d / 6) le))

-- ---- a turn of a loop over a list, from the size of the item at the front

module _ (read : Reader) (s : List ℕ) (mode : AddPath) (st : Form) where
  -- the item that it takes, with its row
  pub turn_took : Fair read → (item : Item) → Ok item ≡ sized (step_by read mode st s) → step_by read mode st s ≡ took item.used (marked (guess_mark mode item.form) (item_row item.form (take item.used s))) item.form
  turn_took fair item e =
      let u = unsize (step_by read mode st s) item (sym e) in
      u.1 ∙ ap (λ (row : Row). took item.used row item.form) (sym (step_taken read fair mode st item.form s item.used u.0 u.1).3)

  -- its refusal
  pub turn_refused : (r : Refusal) → Err r ≡ sized (step_by read mode st s) → step_by read mode st s ≡ stop r
  turn_refused r e = unsize_stop (step_by read mode st s) r (sym e)

-- ---- a loop that counts rows, and those that have a host bit

-- that an answer is what counting says, from a state
abbrev pub Tells : Reader → AddPath → Form → List ℕ → Result Routes Refusal → Type 0
Tells read mode st s a = a ≡ with_hosts (count_answer s (read_all (step_by read mode) st s)) (tally flag (notes host_bits (step_by read mode) st s))

pub tells_list : (read : Reader) (mode : AddPath) (s : List ℕ) (a : Result Routes Refusal) → Tells read mode Plain s a → a ≡ count_list read s mode
unfolding list_by hosts_by
tells_list read mode s a e = e

pub tells_fixed : (read : Reader) (form : Form) (s : List ℕ) (a : Result Routes Refusal) → Tells read (fixed form) form s a → a ≡ count_list read s (fixed form)
tells_fixed read form s a e = e ∙ ap₂ (λ (r : Reading Row) (hosts : ℕ). with_hosts (count_answer s r) hosts) (sym (list_fixed read s form)) (sym (hosts_fixed read s form))

-- at its head: both counts are of what stands before `at`
pub record Tallied (read : Reader) (mode : AddPath) (st₀ : Form) (s : List ℕ) (st : Form) (at rows hosts : ℕ) : Type 0 where
  pub all : Counted (λ st₁ t. noted host_bits t (step_by read mode st₁ t)) (λ _. 1) 1 st₀ s st at rows
  pub some : Counted (λ st₁ t. noted host_bits t (step_by read mode st₁ t)) flag 1 st₀ s st at hosts

module _ (read : Reader) (fair : Fair read) (mode : AddPath) (st₀ : Form) (s : List ℕ) where
  -- the step that it counts by
  abbrev by_host : Form → List ℕ → Step Form Bool
  by_host st t = noted host_bits t (step_by read mode st t)

  pub tallied_start : Tallied read mode st₀ s st₀ 0 0 0
  tallied_start = record {
    all = count_start by_host (host_sound read fair mode) (λ _. 1) 1 (one_light read fair mode) st₀ s;
    some = count_start by_host (host_sound read fair mode) flag 1 (host_light read fair mode) st₀ s;
  }

  module _ (st : Form) (at rows hosts : ℕ) (h : Tallied read mode st₀ s st at rows hosts) where
    pub tallied_step : (used : ℕ) (row : Row) (st' : Form) → step_by read mode st (drop at s) ≡ took used row st'
        → (0 < used) × (at + used ≤ length s) × Tallied read mode st₀ s st' (at + used) (rows + 1) (hosts + flag (host_bits st' (take used (drop at s))))
    tallied_step used row st' e =
        let f : by_host st (drop at s) ≡ took used (host_bits st' (take used (drop at s))) st' = ap (noted host_bits (drop at s)) e in
        let fits = turn_fits by_host (host_sound read fair mode) s st at st' used _ f h.all.within in (
          fits.0,
          fits.1,
          record {
            all = count_step by_host (host_sound read fair mode) (λ _. 1) 1 (one_light read fair mode) st₀ s st at rows h.all st' used _ f;
            some = count_step by_host (host_sound read fair mode) flag 1 (host_light read fair mode) st₀ s st at hosts h.some st' used _ f;
          },
        )

    -- either count is no more than the bytes
    pub tallied_few : (rows ≤ length s) × (hosts ≤ length s)
    tallied_few = (omega (arith, h.all.few, h.all.within), omega (arith, h.some.few, h.some.within))

    module _ (small : length s ≤ list_limit) where
      alike : ((read_all by_host st₀ s).verdict ≡ (read_all (step_by read mode) st₀ s).verdict) × (length (notes host_bits (step_by read mode) st₀ s) ≡ length (read_all (step_by read mode) st₀ s).rows)
      alike = noted_alike host_bits (step_by read mode) (sound_by read fair mode) st₀ s

      pub tallied_stop : (why : Refusal) → at < length s → step_by read mode st (drop at s) ≡ stop why → Tells read mode st₀ s (Err why)
      tallied_stop why lt e =
          let verdict = count_stop by_host (host_sound read fair mode) (λ _. 1) 1 (one_light read fair mode) st₀ s st at rows h.all why lt (ap (noted host_bits (drop at s)) e) in
          sym (beside (tally flag (notes host_bits (step_by read mode) st₀ s)) _ _ (count_bad s (read_all (step_by read mode) st₀ s) why small (sym alike.0 ∙ verdict)))

      pub tallied_done : length s ≤ at → Tells read mode st₀ s (Ok (record { rows = rows; hosts = hosts }))
      unfolding notes
      tallied_done le =
          let r : Reading Row = read_all (step_by read mode) st₀ s in
          let said : List Bool = notes host_bits (step_by read mode) st₀ s in
          let all = count_done by_host (host_sound read fair mode) (λ _. 1) 1 (one_light read fair mode) st₀ s st at rows h.all le in
          let some = count_done by_host (host_sound read fair mode) flag 1 (host_light read fair mode) st₀ s st at hosts h.some le in
          let many : tally (λ _. 1) r.rows ≡ rows = tally_one r.rows ∙ sym alike.1 ∙ sym (tally_one said) ∙ all.1 in
          sym (ap₂ with_hosts (count_good s r rows small (sym alike.0 ∙ all.0, many)) some.1)

-- ---- how many rows have a host bit

module _ (read : Reader) (fair : Fair read) (s : List ℕ) (mode : AddPath) where
  -- no more than there are rows, and these no more than bytes
  pub hosts_few : (hosts_by read s mode ≤ length (list_by read s mode).rows) × (length (list_by read s mode).rows ≤ length s)
  unfolding hosts_by list_by
  hosts_few =
      let said : List Bool = notes host_bits (step_by read mode) Plain s in
      let alike = noted_alike host_bits (step_by read mode) (sound_by read fair mode) Plain s in (
        omega (arith, tally_flags said, alike.1),
        omega (arith, tally_one (read_all (step_by read mode) Plain s).rows, tally_few (step_by read mode) (sound_by read fair mode) (λ _. 1) (light_by read fair mode) Plain s),
      )

  -- and, where it is counted, no more than a list has bytes
  pub counted_hosts : (r : Reading Row) → hosts_in (with_hosts (count_answer s r) (hosts_by read s mode)) ≤ list_limit
  unfolding count_answer
  counted_hosts r =
      pick_leb (λ (a : Result ℕ Refusal). hosts_in (with_hosts a (hosts_by read s mode)) ≤ list_limit) (length s) list_limit _ _
      (λ short. by r.verdict (omega (arith, hosts_few, short)))
      (λ _. omega arith)
    where
      by : (v : Verdict) → hosts_by read s mode ≤ list_limit → hosts_in (with_hosts (unless v (length r.rows)) (hosts_by read s mode)) ≤ list_limit
      by (Ok tt) few = few
      by (Err why) few = omega arith

-- ---- a section

pub strange_one : (s : List ℕ) → length s ≡ 1 → not (eqb (get_or s 0 0) 0) ≡ strange s
strange_one [] e = refl
strange_one (b ∷ []) e = refl
strange_one (b ∷ c ∷ s) e = absurd (let h : length s + 2 ≡ 1 = omega arith in omega arith)

pub strange_other : (s : List ℕ) → (length s ≡ 1 → ⊥) → false ≡ strange s
strange_other [] h = refl
strange_other (b ∷ []) h = absurd (h refl)
strange_other (b ∷ c ∷ s) h = refl

pub section_strange : (read : Reader) (s : List ℕ) (mode : AddPath) → strange s ≡ true → count_answer s (section_by read s mode) ≡ Err OneByteSection
unfolding section_by
section_strange read [] mode e = absurd (zero_ne_one (let z : ◌≡◌ {A = ℕ} 0 1 = cc in z))
section_strange read (b ∷ []) mode e = rw e (count_bad (b ∷ []) (refused OneByteSection) OneByteSection (omega arith) refl)
section_strange read (b ∷ c ∷ s) mode e = absurd (zero_ne_one (let z : ◌≡◌ {A = ℕ} 0 1 = cc in z))

pub section_list : (read : Reader) (s : List ℕ) (mode : AddPath) → strange s ≡ false → section_by read s mode ≡ list_by read s mode
unfolding section_by
section_list read s mode e = rw e

-- a section that is counted is a list
pub section_counted : (read : Reader) (s : List ℕ) (mode : AddPath) (n : ℕ) → count_answer s (section_by read s mode) ≡ Ok n → section_by read s mode ≡ list_by read s mode
section_counted read s mode n e = by (strange s) refl
  where
    by : (t : Bool) → strange s ≡ t → section_by read s mode ≡ list_by read s mode
    by true h = absurd (given_not_refused (sym e ∙ section_strange read s mode h))
    by false h = section_list read s mode h
