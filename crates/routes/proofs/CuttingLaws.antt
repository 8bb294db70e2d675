-- The step of a setting that has one form decides what a well-formed route is; the guess where no item starts with a zero byte; and the rule of
-- one byte.
-- Assumes nothing.
use Prim.Native.Nat.{ℕ, suc, ◌+◌, ◌<◌}
use mathlib.Core.Path.{◌≡◌, refl, sym, ap, ap₂, subst, ◌∙◌}
use mathlib.Core.List.{List, [], ◌∷◌, ◌++◌, append_assoc, map}
use mathlib.Core.Bool.{false}
use native.Mathlib.Nat.{not-suc-le-zero}
use native.Mathlib.Omega.{arith}
use borrow.Author.Tests.{ne_eqb, eq-eqb}
use lib.ListN.{length, get_or, take, drop, length-append, length-drop}
use lib.Seq.{length-take-le, take-add, drop-cons, take-append_seam, get_or_at, get_or-take}
use Rattle.std.specs.Prelude.{Result, Ok, Err}
use Rattle.wire.specs.Answer.{flag}
use Rattle.wire.specs.declared.refusal.Refusal.{Refusal}
use Rattle.wire.specs.Cutting.{Each, none, one, joined, Cutting}
use Rattle.wire.specs.Walk.{took, stop, more, read_all, notes, pieces, tally}
use Rattle.wire.proofs.CuttingLaws.{Decides, cut_pieces}
use Rattle.wire.proofs.WalkLaws.{all_nil, all_took, all_stop, all_ind, notes_nil, notes_stop, notes_took, notes_pieces, pieces_took}
use Rattle.families.specs.Family.{id_size, octets}
use Rattle.families.specs.declared.Form.{Form}
use Rattle.families.specs.declared.Form.TheVariants.{Plain, Tagged}
use Rattle.families.specs.declared.AddPath.TheVariants.{Off, Guess}
use Rattle.routes.specs.Prefix.{item_row, host_bits}
use Rattle.routes.specs.WellFormed.{WellFormed, NoZeroFirst}
use Rattle.routes.specs.List.{up_to, fixed, as_step, in_form, marked_step, step_by, step_of, hosts_of, strange}
use Rattle.routes.specs.declared.Row.{Row}
use Rattle.routes.specs.declared.Prefix.{Prefix}
use Rattle.routes.proofs.PrefixLaws.{Took, took_prefix}
use Rattle.routes.proofs.ListLaws.{step_form, fixed_form, fixed_step, hosts_fixed, sound, step_took, guess_plain}

-- ---- one item

-- a well-formed item at the front is taken whole
pub formed_took : (max : ℕ) (form : Form) (item rest : List ℕ) → WellFormed max form item → Took (item ++ rest) max form (length item) (item_row form item)
formed_took max form item rest w =
    let k : ℕ = id_size form in
    let p : List ℕ = w.ident in
    let s_is : item ++ rest ≡ p ++ (w.len ∷ (w.prefix ++ rest)) = ap (λ (l : List ℕ). l ++ rest) w.parts ∙ append_assoc p (w.len ∷ w.prefix) rest in
    let len_is : get_or (item ++ rest) k 0 ≡ w.len = ap (λ (l : List ℕ). get_or l k 0) s_is ∙ get_or_at p w.len (w.prefix ++ rest) 0 k w.ident_size in
    let size : length item ≡ k + 1 + octets w.len = ap length w.parts ∙ length-append p (w.len ∷ w.prefix) ∙ omega (arith, w.ident_size, w.prefix_size) in
    let total : length (item ++ rest) ≡ length item + length rest = length-append item rest in
    record {
      there = omega arith;
      fits = rw len_is w.in_range;
      size = size ∙ ap (λ (l : ℕ). k + 1 + octets l) (sym len_is);
      room = omega arith;
      is = ap (item_row form) (sym (take-append_seam item rest));
    }

-- what is taken is well formed
pub took_formed : (s : List ℕ) (max : ℕ) (form : Form) (used : ℕ) (row : Row) → Took s max form used row → WellFormed max form (take used s)
took_formed s max form used row t =
    let k : ℕ = id_size form in
    let l : ℕ = get_or s k 0 in
    let n : ℕ = octets l in
    let front : drop k s ≡ l ∷ drop (suc k) s = drop-cons s k 0 t.there in
    let e : used ≡ k + suc n = omega (arith, t.size) in
    record {
      ident = take k s;
      len = l;
      prefix = take n (drop (suc k) s);
      parts = ap (λ (j : ℕ). take j s) e ∙ take-add k (suc n) s ∙ ap (λ (r : List ℕ). take k s ++ take (suc n) r) front;
      ident_size = length-take-le k s (omega (arith, t.there));
      in_range = t.fits;
      prefix_size = length-take-le n (drop (suc k) s) (omega (arith, t.size, t.room, length-drop (suc k) s));
    }

-- ---- the step of a setting that has one form

formed_step : (max : ℕ) (form st : Form) (item rest : List ℕ) → WellFormed max form item
    → step_of max (fixed form) st (item ++ rest) ≡ took (length item) (item_row form item) form
formed_step max form st item rest w =
    fixed_step (up_to max) form st (item ++ rest) ∙ ap (as_step form) (took_prefix (item ++ rest) max form (length item) (item_row form item) (formed_took max form item rest w))

-- whatever is taken under such a setting leaves its form
left_form : (max : ℕ) (form st st' : Form) (s : List ℕ) (used : ℕ) (row : Row) → step_of max (fixed form) st s ≡ took used row st' → st' ≡ form
left_form max form st st' s used row e = sym (step_form (up_to max) (fixed form) st st' s used row e) ∙ fixed_form (up_to max) form st s

-- so of it all holds that wire's CuttingLaws prove
pub decides : (max : ℕ) (form : Form) → Decides (step_of max (fixed form)) (WellFormed max form) (item_row form)
decides max form = record {
  sound = sound max (fixed form);
  taken = λ st item rest w. (form, formed_step max form st item rest w);
  formed = λ st st' s used row e. took_formed s max form used _ (rw (left_form max form st st' s used row e) at (step_took max (fixed form) st st' s used row e));
}

-- how many items of a cutting have a host bit
pub cut_hosts : (max : ℕ) (form : Form) (s : List ℕ) (items : List (List ℕ)) → Cutting (WellFormed max form) s items
    → hosts_of s max (fixed form) ≡ tally flag (map (host_bits form) items)
cut_hosts max form s items c =
    let each = notes_pieces host_bits (step_of max (fixed form)) (sound max (fixed form)) (host_bits form)
    (λ st st' t used row e. ap (λ (f : Form). host_bits f (take used t)) (left_form max form st st' t used row e)) form s in
    let pieces_are = cut_pieces (step_of max (fixed form)) (WellFormed max form) (item_row form) (decides max form) form s items c in
    hosts_fixed (up_to max) s form ∙ ap (tally flag) (each ∙ ap (map (host_bits form)) pieces_are)

-- ---- the guess, where nothing starts with a zero byte

-- at a byte other than 0 the guess in Plain reads as guess off does
guess_step : (max : ℕ) (st : Form) (s : List ℕ) → (get_or s 0 0 ≡ 0 → ⊥) → step_of max Guess Plain s ≡ step_of max Off st s
unfolding step_by in_form
guess_step max st s h = ap (λ (f : Form). marked_step Guess (as_step f (up_to max s f))) (guess_plain (up_to max) Plain s (rw (ne_eqb (get_or s 0 0) 0 h))) ∙ no_id (up_to max s Plain)
  where
    no_id : (a : Result Prefix Refusal) → marked_step Guess (as_step Plain a) ≡ marked_step Off (as_step Plain a)
    no_id (Ok p) = refl
    no_id (Err r) = refl

-- a refused place does not start with 0, since 00 is a whole item
zero_item : (max : ℕ) (st : Form) (s : List ℕ) (r : Refusal) → 0 < length s → step_of max Off st s ≡ stop r → get_or s 0 0 ≡ 0 → ⊥
unfolding step_by in_form
zero_item max st [] r pos e z = not-suc-le-zero pos
zero_item max st (b ∷ s) r pos e z =
    let item : WellFormed max Plain (0 ∷ []) = record { ident = []; len = 0; prefix = []; parts = refl; ident_size = refl; in_range = omega arith; prefix_size = refl } in
    let f : step_of max Off st (b ∷ s) ≡ took 1 (item_row Plain (0 ∷ [])) Plain = rw z (formed_step max Plain st (0 ∷ []) s item) in
    let bad : ◌≡◌ {A = ℕ} 0 1 = cc in
    omega arith

-- so the rows are the same, and whether each has a host bit
pub guess_same : (max : ℕ) (st : Form) (s : List ℕ) → NoZeroFirst (pieces (step_of max Off) st s)
    → (read_all (step_of max Guess) Plain s ≡ read_all (step_of max Off) st s) × (notes host_bits (step_of max Guess) Plain s ≡ notes host_bits (step_of max Off) st s)
guess_same max st s =
    all_ind (step_of max Off) (sound max Off)
    (λ st₁ t r. NoZeroFirst (pieces (step_of max Off) st₁ t) → (read_all (step_of max Guess) Plain t ≡ r) × (notes host_bits (step_of max Guess) Plain t ≡ notes host_bits (step_of max Off) st₁ t))
    (λ st₁ _. (all_nil (step_of max Guess) Plain, notes_nil host_bits (step_of max Guess) Plain ∙ sym (notes_nil host_bits (step_of max Off) st₁)))
    (λ st₁ t n pos e _.
    let refuses = guess_step max st₁ t (zero_item max st₁ t n pos e) ∙ e in (
      all_stop (step_of max Guess) Plain t n pos refuses,
      notes_stop host_bits (step_of max Guess) Plain t n pos refuses ∙ sym (notes_stop host_bits (step_of max Off) st₁ t n pos e),
    ))
    (λ st₁ st₂ t used row pos e again nz.
    let up : 0 < used = ((sound max Off).takes st₁ st₂ t used row e).0 in
    let here : NoZeroFirst (take used t ∷ pieces (step_of max Off) st₂ (drop used t)) = subst NoZeroFirst (pieces_took (step_of max Off) st₁ st₂ t used row pos up e) nz in
    let first = first_of here in
    let byte : get_or t 0 0 ≡ 0 → ⊥ = λ z. first.0 (get_or-take used t 0 0 up ∙ z) in
    let plain = left_form max Plain st₁ st₂ t used row e in
    let takes = guess_step max st₁ t byte ∙ e ∙ ap (took used row) plain in
    let rest = again first.1 in (
      all_took (step_of max Guess) Plain Plain t used row pos up takes ∙ ap (more row) rest.0,
      notes_took host_bits (step_of max Guess) Plain Plain t used row pos up takes
          ∙ ap₂ ◌∷◌ (ap (λ (form : Form). host_bits form (take used t)) (sym plain)) rest.1
          ∙ sym (notes_took host_bits (step_of max Off) st₁ st₂ t used row pos up e),
    ))
    st s
  where
    first_of : {item : List ℕ} {items : List (List ℕ)} → NoZeroFirst (item ∷ items) → (get_or item 0 0 ≡ 0 → ⊥) × NoZeroFirst items
    first_of (one h t) = (h, t)

-- ---- the one_byte rule of a section

-- a single byte that is an item is 0
one_byte : (b max : ℕ) (form : Form) (used : ℕ) (row : Row) → Took (b ∷ []) max form used row → b ≡ 0
one_byte b max Plain used row t = omega (arith, t.size, t.room)
one_byte b max Tagged used row t = absurd (let lt : 4 < 1 = t.there in omega arith)

-- so bytes that have a cutting are never refused by that rule
pub cut_not_strange : (max : ℕ) (form : Form) (s : List ℕ) (items : List (List ℕ)) → Cutting (WellFormed max form) s items → strange s ≡ false
unfolding joined
cut_not_strange max form [] items c = refl
cut_not_strange max form (b ∷ c ∷ s) items k = refl
cut_not_strange max form (b ∷ []) items k = rw (eq-eqb b 0 (by items k.each k.whole))
  where
    by : (l : List (List ℕ)) → Each (WellFormed max form) l → joined l ≡ b ∷ [] → b ≡ 0
    by [] none e = absurd (let z : 0 ≡ 1 = ap length e in omega arith)
    by (item ∷ rest) (one w ws) e = one_byte b max form (length item) (item_row form item) (rw e at (formed_took max form item (joined rest) w))
