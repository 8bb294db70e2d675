-- Laws of the call on two sections.
-- Assumes nothing.
use Prim.Native.Nat.{ℕ, ◌/◌, ◌≤◌, ◌<◌}
use mathlib.Core.Path.{◌≡◌, refl, sym, ap, ◌∙◌}
use mathlib.Core.Bool.{true}
use mathlib.Core.List.{List}
use native.Mathlib.Omega.{arith}
use borrow.Author.Tests.{le-leb, lt-leb}
use lib.Dec.{leb}
use lib.ListN.{length}
use Rattle.std.specs.Prelude.{Result, Ok, Err}
use Rattle.std.specs.Result.{is_ok}
use Rattle.wire.specs.Answer.{filled, count_meaning}
use Rattle.wire.specs.Store.{laid}
use Rattle.wire.proofs.ChoiceLaws.{pick_any}
use Rattle.wire.specs.Verdict.{fine}
use Rattle.wire.specs.Walk.{Reading, flat}
use Rattle.wire.specs.declared.refusal.Refusal.{Refusal}
use Rattle.wire.specs.declared.refusal.Refusal.TheVariants.{NoRoom}
use Rattle.routes.specs.List.{up_to, list_of, hosts_of, section_of}
use Rattle.routes.specs.Prefix.{words}
use Rattle.routes.proofs.ListLaws.{words_length, count_rows, section_counted, told_list}
use Rattle.routes.specs.Promises.{rows_alone, rows_in, count_answer, count_section, has_room}
use Rattle.routes.specs.declared.Routes.{Routes}
use Rattle.route_reader.specs.Pair.{read_pair_by}
use Rattle.route_reader.specs.Private.{Fitting}
use Rattle.route_reader.specs.declared.Sections.{Sections}
use Rattle.families.specs.declared.AddPath.{AddPath}
use Rattle.routes.specs.declared.Row.{Row}

-- a section has room by its rows, of which one that is refused has none
room_is : (a : Result Routes Refusal) (places : ℕ) → has_room (rows_alone a) places ≡ leb (rows_in a) (places / 6)
room_is (Ok r) places = refl
room_is (Err r) places = sym (le-leb 0 (places / 6) (omega arith))

module _ (a b : Result Routes Refusal) (places places' : ℕ) where
  pub pair_first : places / 6 < rows_in a → read_pair_by a b places places' ≡ Err NoRoom
  unfolding read_pair_by
  pair_first h = rw (room_is a places ∙ lt-leb (rows_in a) (places / 6) h)

  pub pair_second : rows_in a ≤ places / 6 → places' / 6 < rows_in b → read_pair_by a b places places' ≡ Err NoRoom
  unfolding read_pair_by
  pair_second h k = rw (room_is a places ∙ le-leb (rows_in a) (places / 6) h, room_is b places' ∙ lt-leb (rows_in b) (places' / 6) k)

  pub pair_both : rows_in a ≤ places / 6 → rows_in b ≤ places' / 6 → read_pair_by a b places places' ≡ Ok (record { first = a; second = b })
  unfolding read_pair_by
  pair_both h k = rw (room_is a places ∙ le-leb (rows_in a) (places / 6) h, room_is b places' ∙ le-leb (rows_in b) (places' / 6) k)

  -- what is answered is what was counted
  pub pair_counted : (p : Sections) → read_pair_by a b places places' ≡ Ok p → (a ≡ p.first) × (b ≡ p.second)
  unfolding read_pair_by
  pair_counted p =
      let P : Result Sections Refusal → Type 0 = λ r. r ≡ Ok p → (a ≡ p.first) × (b ≡ p.second) in
      let full : P (Err NoRoom) = λ e. let z : ◌≡◌ {A = ℕ} 0 1 = cc in absurd (omega arith) in
      pick_any P (has_room (rows_alone a) places) _ (Err NoRoom) (pick_any P (has_room (rows_alone b) places') (Ok (record { first = a; second = b })) (Err NoRoom) (λ e. (cc, cc)) full) full

-- a section that was counted and has room is a good list that has room
module _ (s : List ℕ) (max : ℕ) (mode : AddPath) (store : List ℕ) where
  counted_fits : (n : ℕ) → count_answer s (section_of s max mode) ≡ Ok n → n ≤ length store / 6 → Fitting (list_of s max mode) store
  counted_fits n e room =
      let same = section_counted (up_to max) s mode n e in
      let h = count_rows s (section_of s max mode) n e in
      let good : (list_of s max mode).verdict ≡ fine = sym (ap (λ (r : Reading Row). r.verdict) same) ∙ h.0 in
      let many : length (list_of s max mode).rows ≡ n = sym (ap (λ (r : Reading Row). length r.rows) same) ∙ h.1 in
      record { good = good; room = omega (arith, many, room, words_length (list_of s max mode).rows) }

  -- and the rows of that list are the section's
  pub section_fits : (a : Result Routes Refusal) → true ≡ is_ok a → a ≡ count_section (up_to max) s mode → rows_in a ≤ length store / 6
      → Fitting (list_of s max mode) store × (laid store 0 (flat words (list_of s max mode).rows) ≡ filled (count_meaning (rows_alone a)) (flat words (section_of s max mode).rows) store)
  section_fits (Ok r) _ e room =
      let counted : count_answer s (section_of s max mode) ≡ Ok r.rows = sym (told_list _ (hosts_of s max mode) (Ok r) e) in
      (counted_fits r.rows counted room, rw (section_counted (up_to max) s mode r.rows counted))
  section_fits (Err r) h e room = absurd cc
