-- Laws of the table: a block's listing record by record, what holds at the head of the loop that puts it, and that blocks put one after another are
-- the table of the whole input.
-- Assumes nothing.
use Rattle.std.proofs.Common.{◌≡◌, ℕ, zero, suc, ◌+◌, ◌-◌, ◌<◌, ◌≤◌, Bool, true, false, ltb, List, [], ◌∷◌, ◌++◌, length, take, drop, sym, refl, ap, ◌∙◌, subst, ap₂, append_assoc, append-nil, add-zero, add_assoc, zero-add, arith, length-append, length-drop, drop_of_length-le, drop-drop, take_at, le-ltb, lt-ltb}
use native.Mathlib.Nat.{sub-zero}
use lib.Seq.{drop-append-le, take-append-le}
use Rattle.wire.specs.Choice.{pick}
use Rattle.wire.specs.Walk.{Reading, flat}
use Rattle.wire.proofs.ChoiceLaws.{pick_any}
use Rattle.wire.specs.Store.{laid}
use Rattle.wire.proofs.WalkLaws.{all_nil, all_took}
use Rattle.wire.proofs.StoreLaws.{laid_nil}
use Rattle.families.specs.declared.AddPath.{AddPath}
use Rattle.slots.specs.Slot.{record_size, slot_of, Decided}
use Rattle.slots.specs.declared.SlotAnswer.{SlotAnswer}
use Rattle.slots.specs.declared.SlotAnswer.TheVariants as S
use Rattle.slots.proofs.SlotLaws.{slot_fits, stop_some, end_none}
use Rattle.slots.proofs.BlockLaws.{decided}
use Rattle.slot_table.specs.Line.{space, line_end, line_of, stop_text, line_room}
use Rattle.slot_table.specs.Private.{Grown}
use Rattle.slot_table.specs.Table.{next, kept_bytes, row_by, lines_of, Listing, ended, ahead, listing_by, listing_from, listing, listed_of, ending_text}
use Rattle.slot_table.specs.declared.Text.{Text}
use Rattle.slot_table.specs.declared.Then.{Then}
use Rattle.slot_table.specs.declared.Then.TheVariants.{Write, Read, Whole, Stop}
use Rattle.slot_table.specs.declared.Listed.{Listed}
use Rattle.slot_table.specs.declared.Ending.{Ending}
use Rattle.slot_table.specs.declared.Ending.TheVariants as E
use Rattle.slot_table.proofs.Growth.{grow, grown_long}
use Rattle.slot_table.proofs.LineLaws.{number_few}

-- ---- a block, record by record

ahead_none : (l : Listing) → ahead [] 0 l ≡ l
ahead_none l = ap (λ (k : ℕ). record { lines = l.lines; used = k; nth = l.nth; then = l.then }) (zero-add l.used)

-- by what stands at the front: the same, where what follows a record is listed the same
listing_same : (a : SlotAnswer) (nth : ℕ) (s : List ℕ) (go go' : List ℕ → List ℕ → Listing)
    → ((kept : ℕ) (mode : AddPath) (line : List ℕ) → a ≡ S.Slot kept mode → go line (drop (record_size + kept) s) ≡ go' line (drop (record_size + kept) s))
    → listing_by a nth s go ≡ listing_by a nth s go'
listing_same (S.Slot kept mode) nth s go go' same = ap (ahead (line_of nth (kept_bytes kept s) mode) (record_size + kept)) (same kept mode _ refl)
listing_same S.More nth s go go' same = refl
listing_same S.Stop nth s go go' same = refl
listing_same S.End nth s go go' same = refl

-- turns enough are enough
turns_enough : (f g : ℕ) (last : Bool) (nth room : ℕ) (s : List ℕ) → length s < f → length s < g → listing_from f last nth room s ≡ listing_from g last nth room s
unfolding listing_from
turns_enough zero g last nth room s h k = absurd (omega arith)
turns_enough (suc f) zero last nth room s h k = absurd (omega arith)
turns_enough (suc f) (suc g) last nth room s h k =
    ap (pick (ltb room line_room) (ended [] nth Write))
    (listing_same (slot_of s last) nth s _ _ (λ kept mode line e.
    let fits = slot_fits s last kept mode e in
    let left = length-drop (record_size + kept) s in
    turns_enough f g last (next nth) (room - length line) (drop (record_size + kept) s) (omega arith) (omega arith)))

pub listing_full : (last : Bool) (nth room : ℕ) (s : List ℕ) → room < line_room → listing last nth room s ≡ ended [] nth Write
unfolding listing_from
listing_full last nth room s h = rw (lt-ltb room line_room h) refl

module _ (last : Bool) (nth room : ℕ) (s : List ℕ) (h : line_room ≤ room) where
  by_front : listing last nth room s ≡ listing_by (slot_of s last) nth s (λ line rest. listing_from (length s) last (next nth) (room - length line) rest)
  unfolding listing_from
  by_front = rw (le-ltb room line_room h) refl

  pub listing_slot : (kept : ℕ) (mode : AddPath) → slot_of s last ≡ S.Slot kept mode → listing last nth room s
      ≡ ahead (line_of nth (kept_bytes kept s) mode) (record_size + kept) (listing last (next nth) (room - length (line_of nth (kept_bytes kept s) mode)) (drop (record_size + kept) s))
  listing_slot kept mode e =
      let fits = slot_fits s last kept mode e in
      let left = length-drop (record_size + kept) s in
      by_front
      ∙ ap (λ (a : SlotAnswer). listing_by a nth s (λ line rest. listing_from (length s) last (next nth) (room - length line) rest)) e
      ∙ ap (ahead (line_of nth (kept_bytes kept s) mode) (record_size + kept))
      (turns_enough (length s) _ last (next nth) _ (drop (record_size + kept) s) (omega arith) (omega arith))

  -- where there is no record the listing ends
  pub listing_ends : (a : SlotAnswer) (lines : List ℕ) (then : Then) → slot_of s last ≡ a
      → ((go : List ℕ → List ℕ → Listing) → listing_by a nth s go ≡ ended lines nth then) → listing last nth room s ≡ ended lines nth then
  listing_ends a lines then e ends =
      let go : List ℕ → List ℕ → Listing = λ line rest. listing_from (length s) last (next nth) (room - length line) rest in
      by_front ∙ ap (λ (b : SlotAnswer). listing_by b nth s go) e ∙ ends go

-- the kept bytes of a record at a place
kept_part : (block : List ℕ) (used kept : ℕ) → take (used + record_size + kept - (used + record_size)) (drop (used + record_size) block) ≡ kept_bytes kept (drop used block)
kept_part block used kept =
    let n : used + record_size + kept - (used + record_size) ≡ kept = omega arith in
    ap₂ take n (sym (drop-drop record_size used block))

-- ---- the loop that puts it

-- at its head: the lines of the records before `used` are put, and the listing goes on from there
pub record Going (block : List ℕ) (last : Bool) (first : ℕ) (start text : Text) (used nth : ℕ) : Type 0 where
  pub lines : List ℕ
  pub grown : Grown start lines text
  pub within : used ≤ length block
  pub listing_is : listing last first (length start.out.now) block ≡ ahead lines used (listing last nth (length start.out.now - text.at) (drop used block))

module _ (block : List ℕ) (last : Bool) (first : ℕ) (start : Text) (front : start.at ≡ 0) where
  pub going_start : Going block last first start start 0 first
  going_start = record {
    lines = [];
    grown = record { grown = sym (laid_nil start.out.now start.at); at = sym (add-zero start.at); room = omega (arith, front); same = refl };
    within = omega arith;
    listing_is =
        ap (λ (k : ℕ). listing last first k block) (sym (sub-zero (length start.out.now)) ∙ ap (λ (k : ℕ). length start.out.now - k) (sym front))
        ∙ sym (ahead_none (listing last first (length start.out.now - start.at) block));
  }

  module _ (text : Text) (used nth : ℕ) (g : Going block last first start text used nth) where
    -- the output keeps its length, and what is put lies in it
    pub going_long : length text.out.now ≡ length start.out.now
    going_long = grown_long g.grown

    -- the listing goes on with what is left, by the room that is left
    left : Listing
    left = listing last nth (length start.out.now - text.at) (drop used block)

    -- a record's line is put
    pub going_on : (text' : Text) (kept : ℕ) (mode : AddPath) → line_room ≤ length text.out.now - text.at → slot_of (drop used block) last ≡ S.Slot kept mode
        → Grown text (line_of nth (take (used + record_size + kept - (used + record_size)) (drop (used + record_size) block)) mode) text'
        → Going block last first start text' (used + record_size + kept) (next nth)
    going_on text' kept mode room e p =
        let line : List ℕ = line_of nth (kept_bytes kept (drop used block)) mode in
        let q : Grown text line text' = subst (λ (t : List ℕ). Grown text (line_of nth t mode) text') (kept_part block used kept) p in
        let fits = slot_fits (drop used block) last kept mode e in
        let past = length-drop used block in
        let to : length start.out.now - text.at - length line ≡ length start.out.now - text'.at = omega (arith, q.at) in
        let from : drop (record_size + kept) (drop used block) ≡ drop (used + record_size + kept) block =
        drop-drop (record_size + kept) used block ∙ ap (λ (k : ℕ). drop k block) (sym (add_assoc used record_size kept)) in
        record {
          lines = g.lines ++ line;
          grown = grow g.grown q;
          within = omega arith;
          listing_is =
              g.listing_is
              ∙ ap (ahead g.lines used) (listing_slot last nth (length start.out.now - text.at) (drop used block) (omega (arith, room, going_long)) kept mode e)
              ∙ ahead_ahead line _
              ∙ ap₂ (λ (k : ℕ) (t : List ℕ). ahead (g.lines ++ line) (used + record_size + kept) (listing last (next nth) k t)) to from;
        }
      where
        ahead_ahead : (line : List ℕ) (l : Listing) → ahead g.lines used (ahead line (record_size + kept) l) ≡ ahead (g.lines ++ line) (used + record_size + kept) l
        ahead_ahead line l =
            ap₂ (λ (t : List ℕ) (k : ℕ). record { lines = t; used = k; nth = l.nth; then = l.then })
            (sym (append_assoc g.lines line l.lines)) (omega arith)

    -- what is answered where the listing ends, with the text that is put last
    pub record Done (text' : Text) (then : Then) : Type 0 where
      pub answer : record { used = used; put = text'.at; nth = nth; then = then } ≡ listed_of (listing last first (length start.out.now) block)
      pub output : text'.out.now ≡ laid start.out.now 0 (listing last first (length start.out.now) block).lines
      pub same : text'.out.ghost_name ≡ start.out.ghost_name

    going_done : (text' : Text) (more : List ℕ) (then : Then) → left ≡ ended more nth then → Grown text more text' → Done text' then
    unfolding left
    going_done text' more then e q =
        let all : listing last first (length start.out.now) block ≡ ahead g.lines used (ended more nth then) = g.listing_is ∙ ap (ahead g.lines used) e in
        let w = grow g.grown q in
        record {
          answer = ap₂ (λ (u p : ℕ). record { used = u; put = p; nth = nth; then = then }) (omega arith) (omega (arith, w.at, front)) ∙ sym (ap listed_of all);
          output = w.grown ∙ ap (λ (k : ℕ). laid start.out.now k (g.lines ++ more)) front ∙ sym (ap (λ (l : Listing). laid start.out.now 0 l.lines) all);
          same = w.same;
        }

    -- nothing more is put
    put_nothing : Grown text [] text
    put_nothing = record { grown = sym (laid_nil text.out.now text.at); at = sym (add-zero text.at); room = omega (arith, g.grown.room, going_long); same = refl }

    pub going_full : length text.out.now - text.at < line_room → Done text Write
    unfolding left
    going_full full = going_done text [] Write (listing_full last nth _ (drop used block) (omega (arith, full, going_long))) put_nothing

    pub going_ends : (found : SlotAnswer) (then : Then) → line_room ≤ length text.out.now - text.at → slot_of (drop used block) last ≡ found
        → ((go : List ℕ → List ℕ → Listing) → listing_by found nth (drop used block) go ≡ ended [] nth then) → Done text then
    unfolding left
    going_ends found then room e ends = going_done text [] then (listing_ends last nth _ (drop used block) (omega (arith, room, going_long)) found [] then e ends) put_nothing

    pub going_stops : (text' : Text) → line_room ≤ length text.out.now - text.at → slot_of (drop used block) last ≡ S.Stop → Grown text (stop_text nth) text' → Done text' Stop
    unfolding left
    going_stops text' room e q =
        going_done text' (stop_text nth) Stop (listing_ends last nth _ (drop used block) (omega (arith, room, going_long)) S.Stop (stop_text nth) Stop e (λ go. refl)) q

-- ---- blocks, one after another

pub lines_none : (nth : ℕ) → lines_of nth [] ≡ []
unfolding lines_of flat
lines_none nth = ap (λ (r : Reading (List ℕ)). flat (λ line. line) r.rows) (all_nil _ nth)

pub lines_slot : (nth : ℕ) (s : List ℕ) (kept : ℕ) (mode : AddPath) → slot_of s true ≡ S.Slot kept mode
    → lines_of nth s ≡ line_of nth (kept_bytes kept s) mode ++ lines_of (next nth) (drop (record_size + kept) s)
unfolding lines_of flat
lines_slot nth s kept mode e =
    let fits = slot_fits s true kept mode e in
    ap (λ (r : Reading (List ℕ)). flat (λ line. line) r.rows)
    (all_took (λ n t. row_by (slot_of t true) n t) nth (next nth) s (record_size + kept) (line_of nth (kept_bytes kept s) mode) (omega arith) (omega arith)
    (ap (λ (a : SlotAnswer). row_by a nth s) e))

pub lines_stop : (nth : ℕ) (s : List ℕ) → slot_of s true ≡ S.Stop → lines_of nth s ≡ stop_text nth
unfolding lines_of flat
lines_stop nth s e =
    let some = stop_some s true e in
    let all : length s ≤ length s = omega arith in
    ap (λ (r : Reading (List ℕ)). flat (λ line. line) r.rows)
    (all_took (λ n t. row_by (slot_of t true) n t) nth nth s (length s) (stop_text nth) some some (ap (λ (a : SlotAnswer). row_by a nth s) e))
    ∙ ap (λ (l : List ℕ). stop_text nth ++ l) (ap (lines_of nth) (drop_of_length-le s all) ∙ lines_none nth)
    ∙ append-nil (stop_text nth)

-- what follows in the table after a listing: nothing where it ended
abbrev pub onwards : Then → List ℕ → List ℕ
onwards Write more = more
onwards Read more = more
onwards Whole more = []
onwards Stop more = []

-- what a block decides stays so with what follows it, where nothing follows the last
still : (s rest : List ℕ) (last : Bool) (a : SlotAnswer) → (last ≡ true → rest ≡ []) → slot_of s last ≡ a → Decided a → slot_of (s ++ rest) true ≡ a
still s rest true a over e there = ap (λ (t : List ℕ). slot_of (s ++ t) true) (over refl) ∙ ap (λ (t : List ℕ). slot_of t true) (append-nil s) ∙ e
still s rest false a over e there = decided s rest true (subst Decided (sym e) there) ∙ e

parted_by : (a : SlotAnswer) (last : Bool) (nth : ℕ) (s rest : List ℕ) (go : List ℕ → List ℕ → Listing) → (last ≡ true → rest ≡ []) → slot_of s last ≡ a
    → ((line t : List ℕ) → lines_of (next nth) (t ++ rest) ≡ (go line t).lines ++ onwards (go line t).then (lines_of (go line t).nth (drop (go line t).used t ++ rest))) →
    let l = listing_by a nth s go in
    lines_of nth (s ++ rest) ≡ l.lines ++ onwards l.then (lines_of l.nth (drop l.used s ++ rest))
parted_by (S.Slot kept mode) last nth s rest go over e next_is =
    let size : ℕ = record_size + kept in
    let fits : size ≤ length s = slot_fits s last kept mode e in
    let line : List ℕ = line_of nth (kept_bytes kept s) mode in
    let l : Listing = go line (drop size s) in
    let same : kept_bytes kept (s ++ rest) ≡ kept_bytes kept s =
    ap (take kept) (drop-append-le record_size s rest (omega arith)) ∙ take-append-le kept (drop record_size s) rest (omega (arith, length-drop record_size s)) in
    lines_slot nth (s ++ rest) kept mode (still s rest last (S.Slot kept mode) over e tt)
    ∙ ap₂ (λ (k t : List ℕ). line_of nth k mode ++ lines_of (next nth) t) same (drop-append-le size s rest fits)
    ∙ ap (λ (t : List ℕ). line ++ t) (next_is line (drop size s))
    ∙ ap (λ (t : List ℕ). line ++ (l.lines ++ onwards l.then (lines_of l.nth (t ++ rest)))) (drop-drop l.used size s)
    ∙ sym (append_assoc line l.lines _)
parted_by S.More last nth s rest go over e next_is = refl
parted_by S.Stop last nth s rest go over e next_is = lines_stop nth (s ++ rest) (still s rest last S.Stop over e tt) ∙ sym (append-nil (stop_text nth))
parted_by S.End last nth s rest go over e next_is =
    let none = end_none s last e in
    ap₂ (λ (t u : List ℕ). lines_of nth (t ++ u)) (none_nil s none.0) (over none.1) ∙ lines_none nth
  where
    none_nil : (t : List ℕ) → length t ≡ 0 → t ≡ []
    none_nil [] h = refl
    none_nil (b ∷ t) h = absurd (omega arith)

-- the lines of a whole input are those that are listed of its first bytes, and those of the rest
parted : (f : ℕ) (last : Bool) (nth room : ℕ) (s rest : List ℕ) → (last ≡ true → rest ≡ []) →
    let l = listing_from f last nth room s in
    lines_of nth (s ++ rest) ≡ l.lines ++ onwards l.then (lines_of l.nth (drop l.used s ++ rest))
unfolding listing_from
parted zero last nth room s rest over = refl
parted (suc f) last nth room s rest over =
    pick_any (λ (l : Listing). lines_of nth (s ++ rest) ≡ l.lines ++ onwards l.then (lines_of l.nth (drop l.used s ++ rest)))
    (ltb room line_room) (ended [] nth Write) _ refl
    (parted_by (slot_of s last) last nth s rest (λ line t. listing_from f last (next nth) (room - length line) t) over refl
    (λ line t. parted f last (next nth) (room - length line) t rest over))

pub listing_parts : (last : Bool) (nth room : ℕ) (s rest : List ℕ) → (last ≡ true → rest ≡ []) →
    let l = listing last nth room s in
    lines_of nth (s ++ rest) ≡ l.lines ++ onwards l.then (lines_of l.nth (drop l.used s ++ rest))
listing_parts last nth room s rest over = parted (suc (length s)) last nth room s rest over

-- ---- how far a call comes

-- what it used lies in the block
within_by : (a : SlotAnswer) (last : Bool) (nth : ℕ) (s : List ℕ) (go : List ℕ → List ℕ → Listing) → slot_of s last ≡ a
    → ((line t : List ℕ) → (go line t).used ≤ length t) → (listing_by a nth s go).used ≤ length s
within_by (S.Slot kept mode) last nth s go e less =
    let fits = slot_fits s last kept mode e in
    omega (arith, less (line_of nth (kept_bytes kept s) mode) (drop (record_size + kept) s), length-drop (record_size + kept) s)
within_by S.More last nth s go e less = omega arith
within_by S.Stop last nth s go e less = omega arith
within_by S.End last nth s go e less = omega arith

within : (f : ℕ) (last : Bool) (nth room : ℕ) (s : List ℕ) → (listing_from f last nth room s).used ≤ length s
unfolding listing_from
within zero last nth room s = omega arith
within (suc f) last nth room s =
    pick_any (λ (l : Listing). l.used ≤ length s) (ltb room line_room) (ended [] nth Write) _ (omega arith)
    (within_by (slot_of s last) last nth s _ refl (λ line t. within f last (next nth) (room - length line) t))

pub listing_within : (last : Bool) (nth room : ℕ) (s : List ℕ) → (listing last nth room s).used ≤ length s
listing_within last nth room s = within (suc (length s)) last nth room s

pub used_within : (a : Listed) (last : Bool) (nth room : ℕ) (s : List ℕ) → a ≡ listed_of (listing last nth room s) → a.used ≤ length s
used_within a last nth room s e = omega (arith, ap (λ (l : Listed). l.used) e, listing_within last nth room s)

-- with room for a line, one that asks to be called again has used a record
goes_by : (a : SlotAnswer) (nth : ℕ) (s : List ℕ) (go : List ℕ → List ℕ → Listing) → (listing_by a nth s go).then ≡ Write → 0 < (listing_by a nth s go).used
goes_by (S.Slot kept mode) nth s go e = omega arith
goes_by S.More nth s go e = let z : ◌≡◌ {A = ℕ} 0 1 = cc in absurd (omega arith)
goes_by S.Stop nth s go e = let z : ◌≡◌ {A = ℕ} 0 1 = cc in absurd (omega arith)
goes_by S.End nth s go e = let z : ◌≡◌ {A = ℕ} 0 1 = cc in absurd (omega arith)

pub listing_goes : (last : Bool) (nth room : ℕ) (s : List ℕ) → line_room ≤ room → (listing last nth room s).then ≡ Write → 0 < (listing last nth room s).used
listing_goes last nth room s h = subst (λ (l : Listing). l.then ≡ Write → 0 < l.used) (sym (by_front last nth room s h)) (goes_by (slot_of s last) nth s _)

-- ---- lines at the front of an output

pub front_lines : (lines d : List ℕ) → take (length lines) (laid d 0 lines) ≡ lines
front_lines lines d = take_at lines (drop (0 + length lines) d) (length lines) refl

-- ---- how it ended

pub ending_few : (e : Ending) → length (ending_text e) ≤ line_room
unfolding ending_text
ending_few E.Whole = omega arith
ending_few (E.Stop nth byte) = simp length-append (omega (arith, number_few nth space, number_few byte line_end))
ending_few (E.Unread byte) = simp length-append (omega (arith, number_few byte line_end))
ending_few E.Unwritten = omega arith
