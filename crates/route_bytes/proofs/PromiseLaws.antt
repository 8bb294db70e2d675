-- Laws of what measuring answers.
-- Assumes nothing.
use Rattle.std.proofs.Common.{◌≡◌, ℕ, ◌+◌, ◌-◌, ◌%◌, ◌<◌, ◌≤◌, false, leb, List, length, get_or, drop, sym, refl, ap, ◌∙◌, arith, length-drop}
use Rattle.std.specs.Prelude.{Result, Ok, Err, [], ◌*◌, ◌/◌}
use Rattle.std.specs.Simd.{first_chunks}
use Rattle.wire.specs.Verdict.{Verdict, fine, unless}
use Rattle.wire.proofs.AnswerLaws.{answer_fine, answer_refused}
use Rattle.wire.proofs.Turn.{Counted, count_start, count_step, count_stop, count_done}
use Rattle.wire.specs.Walk.{Step, took, stop, tally}
use Rattle.wire.proofs.WalkLaws.{all_ind, tally_flat}
use Rattle.wire.specs.declared.refusal.Refusal.{Refusal}
use Rattle.wire.specs.declared.refusal.Refusal.TheVariants.{NotWritable}
use Rattle.families.specs.Family.{id_size, mark_of, octets}
use Rattle.families.specs.declared.Form.{Form}
use Rattle.routes.specs.declared.Row.{Row}
use Rattle.route_bytes.specs.Encode.{row_bytes, writable, front_row, write_step, writing, bytes_of}
use Rattle.route_bytes.proofs.EncodeLaws.{WritableRow, write_took, took_write, write_stop, stop_write, step_row, write_sound, write_light, front_parts, no_and}
use Rattle.route_bytes.proofs.Rows.{row_words}
use Rattle.route_bytes.specs.Promises.{measured}
use Rattle.route_bytes.specs.Private.{size_by}

-- ---- one row

module _ (ws : List ℕ) (max : ℕ) (form : Form) where
  pub size_refused : writable max form (front_row ws) ≡ false → Err NotWritable ≡ size_by form (write_step max form tt ws)
  size_refused e = rw (stop_write max form tt ws (rw e (no_and (leb 6 (length ws)))))

  pub size_good : max ≤ 128 → 6 ≤ length ws → WritableRow max form (front_row ws) → (k n : ℕ) → k ≡ id_size form → n ≡ octets (get_or ws 0 0 - mark_of form)
      → Ok (k + 1 + n) ≡ size_by form (write_step max form tt ws)
  size_good small h w k n id is = rw (took_write max form tt ws h w) (ap Ok (omega (arith, (front_parts ws max form w small).2)))

-- the row behind a size
unsize : (form : Form) (x : Step (Unit {0}) Row) (n : ℕ) → size_by form x ≡ Ok n → (used : ℕ) × (row : Row) × (x ≡ took used row tt) × (length (row_bytes form row) ≡ n)
unsize form (took u r st) n e = (u, r, refl, cc)
unsize form (stop m) n e = let z : ◌≡◌ {A = ℕ} 0 1 = cc in absurd (omega arith)

unsize_stop : (form : Form) (x : Step (Unit {0}) Row) (r : Refusal) → size_by form x ≡ Err r → x ≡ stop r
unsize_stop form (took u q st) r e = let z : ◌≡◌ {A = ℕ} 0 1 = cc in absurd (omega arith)
unsize_stop form (stop m) r e = let p : m ≡ r = cc in ap stop p

-- ---- all rows

unless_ok : (v : Verdict) (n m : ℕ) → unless v m ≡ Ok n → (v ≡ fine) × (m ≡ n)
unless_ok (Ok tt) n m e = (refl, cc)
unless_ok (Err r) n m e = let z : ◌≡◌ {A = ℕ} 0 1 = cc in absurd (omega arith)

module _ (ws : List ℕ) (max : ℕ) (form : Form) where
  pub measured_good : (n : ℕ) → ((writing ws max form).verdict ≡ fine) × (tally (λ row. length (row_bytes form row)) (writing ws max form).rows ≡ n) → measured ws max form ≡ Ok n
  unfolding measured bytes_of
  measured_good n e = answer_fine _ _ Err e.0 ∙ ap Ok (sym (tally_flat (row_bytes form) (writing ws max form).rows) ∙ e.1)

  pub measured_bad : (r : Refusal) → (writing ws max form).verdict ≡ Err r → measured ws max form ≡ Err r
  unfolding measured
  measured_bad r e = answer_refused _ r _ Err e

  pub measured_bytes : (n : ℕ) → measured ws max form ≡ Ok n → ((writing ws max form).verdict ≡ fine) × (length (bytes_of ws max form) ≡ n)
  unfolding measured
  measured_bytes n e = unless_ok (writing ws max form).verdict n _ e

-- ---- the loop over the rows

-- words of which some are left after the last whole row
pub sizing_cut : (ws : List ℕ) (max : ℕ) (form : Form) → (length ws % 6 ≡ 0 → ⊥) → Err NotWritable ≡ measured ws max form
unfolding writing
sizing_cut ws max form cut =
    let odd : (length ws % 6 ≡ 0 → ⊥) → (writing ws max form).verdict ≡ Err NotWritable =
    all_ind (write_step max form) (write_sound max form) (λ _ s r. (length s % 6 ≡ 0 → ⊥) → r.verdict ≡ Err NotWritable)
    (λ _ h. absurd (h refl))
    (λ st s n pos e h. ap Err (write_stop max form st s n e))
    (λ st st' s used row pos e again h.
    let t = write_took max form st st' s used row e in
    again (λ z. h (omega (arith, t.size, t.there, length-drop used s))))
    tt ws in
    sym (measured_bad ws max form NotWritable (odd cut))

-- at its head: the rows before the one at `at` take `total` bytes
abbrev pub Sizing : List ℕ → ℕ → Form → ℕ → ℕ → Type 0
Sizing ws max form at total = Counted (write_step max form) (λ row. length (row_bytes form row)) 4 tt ws tt (6 * at) total

module _ (ws : List ℕ) (max : ℕ) (form : Form) (small : max ≤ 128) where
  pub sizing_start : Sizing ws max form 0 0
  sizing_start = count_start (write_step max form) (write_sound max form) (λ row. length (row_bytes form row)) 4 (write_light max form small) tt ws

  module _ (rows : List (List ℕ)) (are : rows ≡ first_chunks 6 (length ws / 6) ws) (many : length rows ≡ length ws / 6) (at total : ℕ) (h : Sizing ws max form at total) where
    -- none are left
    pub sizing_done : length ws % 6 ≡ 0 → length rows ≤ at → Ok total ≡ measured ws max form
    unfolding writing
    sizing_done whole le =
        sym (measured_good ws max form total
        (count_done (write_step max form) (write_sound max form) (λ row. length (row_bytes form row)) 4 (write_light max form small) tt ws tt (6 * at) total h (omega arith)))

    -- the size of the next one
    module _ (lt : at < length rows) (x : Result ℕ Refusal) (e : x ≡ size_by form (write_step max form tt (get_or rows at []))) where
      here : size_by form (write_step max form tt (drop (6 * at) ws)) ≡ x
      here =
          sym (e
          ∙ ap (λ (row : List ℕ). size_by form (write_step max form tt row)) (row_words ws rows are at (omega arith))
          ∙ ap (size_by form) (step_row max form tt (drop (6 * at) ws) (omega (arith, length-drop (6 * at) ws))))

      pub sizing_step : (n : ℕ) → x ≡ Ok n → Sizing ws max form (at + 1) (total + n)
      sizing_step n f =
          let u = unsize form (write_step max form tt (drop (6 * at) ws)) n (here ∙ f) in
          let six = (write_took max form tt tt (drop (6 * at) ws) u.0 u.1 u.2).size in
          let next : 6 * at + u.0 ≡ 6 * (at + 1) = omega arith in
          rw (← u.3, ← next)
          (count_step (write_step max form) (write_sound max form) (λ row. length (row_bytes form row)) 4 (write_light max form small) tt ws tt (6 * at) total h tt u.0 u.1 u.2)

      pub sizing_refused : (r : Refusal) → x ≡ Err r → Err r ≡ measured ws max form
      unfolding writing
      sizing_refused r f =
          sym (measured_bad ws max form r
          (count_stop (write_step max form) (write_sound max form) (λ row. length (row_bytes form row)) 4 (write_light max form small) tt ws tt (6 * at) total h r (omega arith)
          (unsize_stop form (write_step max form tt (drop (6 * at) ws)) r (here ∙ f))))
