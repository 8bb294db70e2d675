-- Laws of the lines: their digits, the most bytes that they take, and a line put at the front of an output.
-- Assumes nothing.
use Rattle.std.proofs.Common.{◌≡◌, ℕ, zero, suc, ◌+◌, ◌-◌, ◌*◌, ◌/◌, ◌%◌, ◌^◌, ◌<◌, ◌≤◌, Bool, true, false, ltb, leb, List, [], ◌∷◌, length, take, drop, set, sym, refl, ap, ◌∙◌, arith, length-append, length-set, drop-cons, get_or-set_same, take_at, drop-set-lt, le-ltb, lt-ltb, le-leb, leb-true}
use Rattle.std.specs.Prelude.{◌==◌, Some, None, Result}
use native.Mathlib.Nat.{pow-succ'}
use borrow.Author.Tests.{lt-leb}
use Rattle.wire.specs.Choice.{pick}
use Rattle.wire.specs.Store.{laid}
use Rattle.wire.proofs.ChoiceLaws.{pick_any}
use Rattle.wire.proofs.StoreLaws.{drop_laid_past}
use Rattle.wire.specs.declared.refusal.Refusal.{Refusal}
use Rattle.messages.specs.Header.{update_kind, kind_number}
use Rattle.messages.specs.declared.kind.Kind.{Kind}
use Rattle.messages.specs.declared.kind.Kind.TheVariants as K
use Rattle.routes.specs.declared.Routes.{Routes}
use Rattle.routes.specs.Promises.{rows_in, verdict_in}
use Rattle.slot_table.specs.Line.{space, slash, state_text, digits, number, fields_text, section_text, heading_text, line_room, put_count, put_out}
use Rattle.slot_table.specs.Private.{number_room, state_room, fields_room, section_room, Grown}
use Rattle.slot_table.specs.declared.Text.{Text}
use Rattle.slot_table.specs.declared.State.{State}
use Rattle.slot_table.specs.declared.State.TheVariants.{Whole, Cut, Trailing}

-- ---- a type that is not UPDATE

pub other_kind : (kind : Kind) → (kind ≡ K.Update → ⊥) → (kind_number kind == update_kind) ≡ false
other_kind K.Open h = refl
other_kind K.Update h = absurd (h refl)
other_kind K.Notification h = refl
other_kind K.Keepalive h = refl
other_kind K.RouteRefresh h = refl

-- ---- digits

-- the first one, and one before the others
pub digits_first : (f n : ℕ) (acc : List ℕ) → n < 10 → digits (suc f) n acc ≡ (48 + n) ∷ acc
unfolding digits
digits_first f n acc h = rw (lt-ltb n 10 h)

pub digits_next : (f n : ℕ) (acc : List ℕ) → 10 ≤ n → digits (suc f) n acc ≡ digits f (n / 10) ((48 + n % 10) ∷ acc)
unfolding digits
digits_next f n acc h = rw (le-ltb n 10 h)

-- a byte put before those that stand
pub drop_set : (s : List ℕ) (at v : ℕ) → at < length s → drop at (set s at v) ≡ v ∷ drop (suc at) s
drop_set s at v h =
    drop-cons (set s at v) at 0 (omega (arith, length-set s at v))
    ∙ ap (λ (b : ℕ). b ∷ drop (suc at) (set s at v)) (get_or-set_same s at v 0 h)
    ∙ ap (λ (l : List ℕ). v ∷ l) (drop-set-lt (suc at) s at v (omega arith))

-- a number of more than one digit: the others are one place before
pub digits_left : (at n : ℕ) → 10 ≤ n → n < 10 ^ suc at → (1 ≤ at) × (n / 10 < 10 ^ suc (at - 1))
digits_left zero n ten h = absurd (omega arith)
digits_left (suc k) n ten h =
    let e : suc (suc k - 1) ≡ suc k = omega arith in
    let less : n < 10 * 10 ^ suc k = rw pow-succ' at h in
    (omega arith, rw e (omega arith))

pub digits_turn : (s : List ℕ) (at n : ℕ) → at < length s → 1 ≤ at → 10 ≤ n
    → digits (suc (at - 1)) (n / 10) (drop (suc (at - 1)) (set s at (48 + n % 10))) ≡ digits (suc at) n (drop (suc at) s)
digits_turn s at n h pos ten =
    let e : suc (at - 1) ≡ at = omega arith in
    rw e (ap (digits at (n / 10)) (drop_set s at (48 + n % 10) h) ∙ sym (digits_next at n (drop (suc at) s) ten))

-- ---- the most bytes

digits_few : (f n : ℕ) (acc : List ℕ) → length (digits f n acc) ≤ f + length acc
unfolding digits
digits_few zero n acc = omega arith
digits_few (suc f) n acc =
    pick_any (λ (l : List ℕ). length l ≤ suc f + length acc) (ltb n 10) ((48 + n) ∷ acc) (digits f (n / 10) ((48 + n % 10) ∷ acc))
    (omega arith) (omega (arith, digits_few f (n / 10) ((48 + n % 10) ∷ acc)))

pub number_few : (n end : ℕ) → length (number n (end ∷ [])) ≤ number_room
number_few n end = omega (arith, digits_few 20 n (end ∷ []))

pub state_few : (state : State) → length (state_text state) ≤ state_room
state_few Whole = omega arith
state_few Cut = omega arith
state_few Trailing = omega arith

pub fields_few : (kind claimed kept : ℕ) (state : State) → length (fields_text kind claimed kept state) ≤ fields_room
unfolding fields_text
fields_few kind claimed kept state =
    simp length-append (omega (arith, number_few kind space, number_few claimed space, number_few kept space, state_few state))

pub section_few : (a : Result Routes Refusal) → length (section_text a) ≤ section_room
unfolding section_text
section_few a = simp length-append (omega (arith, number_few (rows_in a) slash, number_few (verdict_in a) space))

-- the heading is no longer than the room that an output must have
pub heading_few : length heading_text ≤ line_room
unfolding heading_text
heading_few = omega arith

-- ---- a line at the front of an output

pub put_fits : (line : List ℕ) (t t' : Text) → line_room ≤ length t.out.now → t.at ≡ 0 → Grown t line t'
    → (Some t'.at ≡ put_count line (length t.out.now)) × (t'.out.now ≡ put_out line t.out.now)
unfolding put_count put_out
put_fits line t t' h start g =
    let at : t'.at ≡ length line = omega (arith, g.at, start) in
    rw (le-leb line_room (length t.out.now) h) (ap Some at, g.grown ∙ ap (λ (k : ℕ). laid t.out.now k line) start)

pub put_not : (line d : List ℕ) → length d < line_room → (None ≡ put_count line (length d)) × (d ≡ put_out line d)
unfolding put_count put_out
put_not line d h = rw (lt-leb line_room (length d) h) (refl, refl)

pub put_given : (line d : List ℕ) → line_room ≤ length d → put_count line (length d) ≡ Some (length line)
unfolding put_count
put_given line d h = rw (le-leb line_room (length d) h) refl

-- the output begins with what is put
pub put_front : (line d : List ℕ) (n : ℕ) → put_count line (length d) ≡ Some n → take n (put_out line d) ≡ line
unfolding put_count put_out
put_front line d n = by (leb line_room (length d))
  where
    by : (t : Bool) → pick t (Some (length line)) None ≡ Some n → take n (pick t (laid d 0 line) d) ≡ line
    by true e = let size : length line ≡ n = cc in take_at line (drop (0 + length line) d) n size
    by false e = let z : ◌≡◌ {A = ℕ} 0 1 = cc in absurd (omega arith)

-- what lies past it is as it was
pub put_past : (line d : List ℕ) (n : ℕ) → length line ≤ line_room → put_count line (length d) ≡ Some n → drop n (put_out line d) ≡ drop n d
unfolding put_count put_out
put_past line d n few = by (leb line_room (length d)) refl
  where
    by : (t : Bool) → leb line_room (length d) ≡ t → pick t (Some (length line)) None ≡ Some n → drop n (pick t (laid d 0 line) d) ≡ drop n d
    by true e s = let size : length line ≡ n = cc in drop_laid_past d 0 line n (omega (arith, size)) (omega (arith, few, leb-true line_room (length d) e))
    by false e s = refl
