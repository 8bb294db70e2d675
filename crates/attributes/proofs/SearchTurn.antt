-- The loop of the search: what holds at its head, what a turn makes of it, and what it answers.
-- Assumes nothing.
use Prim.Native.Nat.{ℕ, ◌+◌, ◌-◌, min, max, ◌≤◌, ◌<◌}
use mathlib.Core.Path.{◌≡◌, refl, sym, ap, ap₂, subst, ◌∙◌}
use mathlib.Core.List.{List}
use mathlib.Core.Bool.{Bool, true, false}
use native.Mathlib.Nat.{lt_of_not-le}
use native.Mathlib.Decide.{dec_le}
use native.Mathlib.Omega.{arith}
use borrow.Author.Tests.{le-leb, lt-leb, lt-ltb, le-ltb}
use lib.ListN.{length, drop, length-drop}
use lib.Seq.{drop-drop}
use lib.Dec.{ltb, eqb}
use Rattle.std.specs.Prelude.{Ok, Err}
use Rattle.std.specs.Int.{from_bool}
use Rattle.wire.specs.Answer.{flag}
use Rattle.wire.specs.Choice.{pick}
use Rattle.wire.specs.Refusal.{list_limit}
use Rattle.wire.specs.Verdict.{Verdict, fine, unless, either}
use Rattle.wire.specs.declared.refusal.Refusal.{Refusal}
use Rattle.wire.specs.declared.refusal.Refusal.TheVariants.{Truncated, TooLong, RepeatedMpNlri}
use Rattle.wire.specs.Walk.{took, stop, Reading, read_all, tally}
use Rattle.wire.proofs.ChoiceLaws.{pick_leb, pick_eqb, pick_any}
use Rattle.wire.proofs.Turn.{Counted, Light, turn_next, turn_end, turn_stop, count_start, count_step, count_stop, count_done}
use Rattle.attributes.specs.Attribute.{mp_reach_nlri, mp_unreach_nlri, Head, attribute_of, section_of}
use Rattle.attributes.specs.Promises.{Found, attribute_at, first_of, count_of, verdict_of, judged, find_answer}
use Rattle.attributes.proofs.AttributeLaws.{attribute_taken, attribute_sound, none_left, taken_at, first_here, first_later, first_at}

-- ---- counting a type

abbrev pub of_kind : ℕ → Head → ℕ
of_kind kind a = flag (eqb a.kind kind)

pub flag_most : (t : Bool) (n : ℕ) → n ≡ flag t → n ≤ 1
flag_most true n e = omega arith
flag_most false n e = omega arith

-- a flag as std converts it
pub flag_from : (t : Bool) → from_bool t ≡ flag t
flag_from true = refl
flag_from false = refl

light : (kind : ℕ) → Light attribute_of (of_kind kind) 1
light kind st st' s used a e = let t = attribute_sound.takes st st' s used a e in omega (arith, t.0, flag_most (eqb a.kind kind) (of_kind kind a) refl)

-- ---- the verdict

module _ (reach unreach : ℕ) where
  pub verdict_once : (otherwise : Verdict) → max reach unreach ≤ 1 → verdict_of reach unreach otherwise ≡ otherwise
  unfolding verdict_of
  verdict_once otherwise h = rw (le-ltb _ _ h)

  pub verdict_twice : (otherwise : Verdict) → 1 < max reach unreach → verdict_of reach unreach otherwise ≡ Err RepeatedMpNlri
  unfolding verdict_of
  verdict_twice otherwise h = rw (lt-ltb _ _ h)

  -- a repeat comes before whatever else is wrong
  pub verdict_either : (otherwise : Verdict) → either (verdict_of reach unreach fine) otherwise ≡ verdict_of reach unreach otherwise
  unfolding verdict_of
  verdict_either otherwise = by_test (ltb 1 (max reach unreach))
    where
      by_test : (t : Bool) → either (pick t (Err RepeatedMpNlri) fine) otherwise ≡ pick t (Err RepeatedMpNlri) otherwise
      by_test true = refl
      by_test false = refl

pub judged_once : (r : Reading Head) → max (count_of mp_reach_nlri r.rows) (count_of mp_unreach_nlri r.rows) ≤ 1 → judged r ≡ r.verdict
unfolding judged
judged_once r h = verdict_once _ _ _ h

pub judged_twice : (r : Reading Head) → 1 < max (count_of mp_reach_nlri r.rows) (count_of mp_unreach_nlri r.rows) → judged r ≡ Err RepeatedMpNlri
unfolding judged
judged_twice r h = verdict_twice _ _ _ h

module _ (s : List ℕ) (kind : ℕ) where
  pub find_long : list_limit < length s → Err TooLong ≡ find_answer s kind
  unfolding find_answer
  find_long h = rw (lt-leb (length s) list_limit h)

  -- by the verdict, where it is not too long
  pub find_judged : (v : Verdict) → length s ≤ list_limit → judged (section_of s) ≡ v → unless v (first_of kind 0 (section_of s).rows) ≡ find_answer s kind
  unfolding find_answer
  find_judged v h e = rw (le-leb (length s) list_limit h, e) refl

  -- what is found is the attribute at some place
  pub find_by : (P : Found → Type 0) → ((r : Refusal) → P (Err r)) → ((place : ℕ) → P (attribute_at s place)) → P (find_answer s kind)
  unfolding find_answer section_of
  find_by P bad good = pick_leb P (length s) list_limit _ _ (λ short. by_verdict (judged (section_of s)) (first_at s kind short)) (λ _. bad TooLong)
    where
      by_verdict : (v : Verdict) → (place : ℕ) × (Ok (first_of kind 0 (read_all attribute_of tt s).rows) ≡ attribute_at s place) → P (unless v (first_of kind 0 (read_all attribute_of tt s).rows))
      by_verdict (Ok tt) f = subst P (sym f.1) (good f.0)
      by_verdict (Err r) f = bad r

  -- ---- at the head of the loop

  -- the first of the type that is searched, where it stands before `at`; its place is the section's end where it does not
  pub record First (at first : ℕ) : Type 0 where
    pub early : first < length s → first < at
    pub some : first < length s → Ok (first_of kind 0 (read_all attribute_of tt s).rows) ≡ attribute_at s first
    pub none : length s ≤ first → first_of kind 0 (read_all attribute_of tt s).rows ≡ first_of kind at (read_all attribute_of tt (drop at s)).rows

  -- and how often each of the two types that may be there once stands before what is left; of the first, how many bytes were left there
  pub record Search (left : List ℕ) (reach unreach first : ℕ) : Type 0 where
    pub at : ℕ
    pub is : left ≡ drop at s
    pub reached : Counted attribute_of (of_kind mp_reach_nlri) 1 tt s tt at reach
    pub unreached : Counted attribute_of (of_kind mp_unreach_nlri) 1 tt s tt at unreach
    pub few : first ≤ length s
    pub place : First at (length s - first)

  pub search_start : Search s 0 0 0
  search_start =
      record {
        at = 0;
        is = refl;
        reached = count_start attribute_of attribute_sound (of_kind mp_reach_nlri) 1 (light mp_reach_nlri) tt s;
        unreached = count_start attribute_of attribute_sound (of_kind mp_unreach_nlri) 1 (light mp_unreach_nlri) tt s;
        few = omega arith;
        place = record { early = λ lt. absurd (omega arith); some = λ lt. absurd (omega arith); none = λ le. refl };
      }

  -- what is left, as a part has it
  pub search_part : (left part : List ℕ) (reach unreach first : ℕ) → part ≡ left → Search left reach unreach first → Search part reach unreach first
  search_part left part reach unreach first e = subst (λ (l : List ℕ). Search l reach unreach first) (sym e)

  module _ (short : length s ≤ list_limit) (left : List ℕ) (reach unreach first : ℕ) (h : Search left reach unreach first) where
    size : length left ≡ length s - h.at
    size = ap length h.is ∙ length-drop h.at s

    -- a cut attribute: by the verdict of what stands before it, and else cut
    pub search_cut : 0 < length left → attribute_of tt left ≡ stop Truncated → (v : Verdict) → verdict_of reach unreach fine ≡ v
        → unless (either v (Err Truncated)) (first_of kind 0 (section_of s).rows) ≡ find_answer s kind
    unfolding judged count_of tally section_of
    search_cut pos e v before =
        let lt : h.at < length s = omega (arith, pos, size) in
        let cut = ap (attribute_of tt) (sym h.is) ∙ e in
        let none = ap (λ (r : Reading Head). r.rows) (turn_stop attribute_of attribute_sound s tt h.at Truncated lt cut) in
        let a : count_of mp_reach_nlri (section_of s).rows ≡ reach = omega (arith, h.reached.total, ap (tally (of_kind mp_reach_nlri)) none) in
        let b : count_of mp_unreach_nlri (section_of s).rows ≡ unreach = omega (arith, h.unreached.total, ap (tally (of_kind mp_unreach_nlri)) none) in
        let stopped = count_stop attribute_of attribute_sound (of_kind mp_reach_nlri) 1 (light mp_reach_nlri) tt s tt h.at reach h.reached Truncated lt cut in
        find_judged (either v (Err Truncated)) short
        (ap (verdict_of (count_of mp_reach_nlri (section_of s).rows) (count_of mp_unreach_nlri (section_of s).rows)) stopped
        ∙ ap₂ (λ (x y : ℕ). verdict_of x y (Err Truncated)) a b
        ∙ sym (verdict_either reach unreach (Err Truncated))
        ∙ ap (λ (w : Verdict). either w (Err Truncated)) before)

    module _ (used : ℕ) (a : Head) (e : attribute_of tt left ≡ took used a tt) where
      taken : attribute_of tt (drop h.at s) ≡ took used a tt
      taken = ap (attribute_of tt) (sym h.is) ∙ e

      -- it has a byte at least, and all of it is there
      pub search_fits : (0 < used) × (used ≤ length left)
      search_fits = attribute_sound.takes tt tt left used a e

      -- the first of the type, by the attribute at the front
      first_next : First (h.at + used) (pick (eqb a.kind kind) (min (length s - first) h.at) (length s - first))
      first_next =
          let p = h.place in
          let rows = ap (λ (r : Reading Head). first_of kind h.at r.rows) (turn_next attribute_of attribute_sound s tt h.at tt used a taken) in
          let whole = (attribute_taken (drop h.at s) tt tt used a taken).size in
          let lt₀ : h.at < length s = omega (arith, search_fits, size) in
          pick_eqb (λ (n : ℕ). First (h.at + used) n) a.kind kind (min (length s - first) h.at) (length s - first)
          (λ same.
          record {
            early = λ lt. omega (arith, search_fits.0);
            some =
                λ lt.
                elim (dec_le (length s) (length s - first)) [
                  | yes past ↦
                      (let is : min (length s - first) h.at ≡ h.at = omega (arith, past, lt₀) in
                      ap Ok (p.none past ∙ rows ∙ first_here kind h.at a _ same) ∙ taken_at s short h.at used a lt₀ taken ∙ ap (attribute_at s) (sym is))
                  | no here ↦
                      (let in_s : length s - first < length s = lt_of_not-le here in
                      let is : min (length s - first) h.at ≡ length s - first = omega (arith, p.early in_s) in
                      p.some in_s ∙ ap (attribute_at s) (sym is))
                ];
            none = λ le. absurd (omega (arith, lt₀, le));
          })
          (λ other.
          record {
            early = λ lt. omega (arith, p.early lt);
            some = p.some;
            none =
                λ past.
                p.none past
                ∙ rows
                ∙ first_later kind h.at a _ other
                ∙ ap (λ (n : ℕ). first_of kind (h.at + n) (read_all attribute_of tt (drop (h.at + used) s)).rows) whole;
          })

      -- as the loop has it
      first_left : (t : Bool) → pick t (min (length s - first) h.at) (length s - first) ≡ length s - pick t (max first (length left)) first
      first_left true = omega (arith, h.few, size, h.reached.within)
      first_left false = refl

      pub search_next : Search (drop used left) (reach + of_kind mp_reach_nlri a) (unreach + of_kind mp_unreach_nlri a) (pick (eqb a.kind kind) (max first (length left)) first)
      search_next =
          record {
            at = h.at + used;
            is = ap (drop used) h.is ∙ drop-drop used h.at s;
            reached = count_step attribute_of attribute_sound (of_kind mp_reach_nlri) 1 (light mp_reach_nlri) tt s tt h.at reach h.reached tt used a taken;
            unreached = count_step attribute_of attribute_sound (of_kind mp_unreach_nlri) 1 (light mp_unreach_nlri) tt s tt h.at unreach h.unreached tt used a taken;
            few = pick_any (λ (n : ℕ). n ≤ length s) (eqb a.kind kind) _ _ (omega (arith, h.few, size)) h.few;
            place = subst (First (h.at + used)) (first_left (eqb a.kind kind)) first_next;
          }

    -- nothing left: the verdict of the whole section, and the first of the type where it is fine
    module _ (end : length left ≤ 0) where
      done : length s ≤ h.at
      done = omega (arith, end, size)

      pub search_done : (v : Verdict) → verdict_of reach unreach fine ≡ v → unless v (first_of kind 0 (section_of s).rows) ≡ find_answer s kind
      unfolding judged count_of section_of
      search_done v e =
          let a = count_done attribute_of attribute_sound (of_kind mp_reach_nlri) 1 (light mp_reach_nlri) tt s tt h.at reach h.reached done in
          let b = count_done attribute_of attribute_sound (of_kind mp_unreach_nlri) 1 (light mp_unreach_nlri) tt s tt h.at unreach h.unreached done in
          find_judged v short
          (ap (verdict_of (count_of mp_reach_nlri (section_of s).rows) (count_of mp_unreach_nlri (section_of s).rows)) a.0 ∙ ap₂ (λ (x y : ℕ). verdict_of x y fine) a.1 b.1 ∙ e)

      pub search_found : verdict_of reach unreach fine ≡ fine → attribute_at s (length s - first) ≡ find_answer s kind
      unfolding first_of section_of
      search_found good =
          let none = ap (λ (r : Reading Head). r.rows) (turn_end attribute_of attribute_sound s tt h.at done) in
          elim (dec_le (length s) (length s - first)) [
            | yes past ↦ sym (none_left s short (length s - first) past) ∙ ap Ok (sym (h.place.none past ∙ ap (first_of kind h.at) none)) ∙ search_done fine good
            | no here ↦ sym (h.place.some (lt_of_not-le here)) ∙ search_done fine good
          ]
