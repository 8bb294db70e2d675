-- Laws of what writing a path answers and leaves.
-- Assumes nothing.
use Prim.Native.Nat.{ℕ, ◌+◌, ◌≤◌}
use mathlib.Core.Path.{◌≡◌, refl, sym, ap, ap₂, ◌∙◌}
use mathlib.Core.List.{List}
use mathlib.Core.Bool.{Bool, true, false}
use lib.ListN.{length}
use Rattle.std.specs.Prelude.{Result, Ok, Err}
use Rattle.wire.specs.Refusal.{list_limit}
use Rattle.wire.specs.Verdict.{Verdict, fine, answer_by}
use Rattle.wire.specs.declared.refusal.Refusal.{Refusal}
use Rattle.wire.specs.declared.refusal.Refusal.TheVariants.{NotWritable}
use Rattle.wire.specs.Choice.{pick}
use Rattle.wire.specs.Store.{laid}
use Rattle.wire.specs.Answer.{filled, count_meaning, limited}
use Rattle.wire.proofs.AnswerLaws.{limited_fits, limited_bytes}
use Rattle.asns.specs.Asn.{span}
use Rattle.wire.specs.Walk.{Reading}
use Rattle.paths.specs.Segment.{Segment, Rule, known_type, rule_of}
use Rattle.paths.specs.declared.PathRule.{PathRule}
use Rattle.path_writer.specs.Write.{adds_up, lent_path, path_bytes}
use Rattle.path_writer.proofs.WriteLaws.{path_length}
use Rattle.path_writer.proofs.Lent.{lent_back, lent_alike}
use Rattle.path_writer.specs.Promises.{lent_bytes, encode_answer, encode_left}

module _ (rule : Rule) (w : ℕ) (pairs numbers : List ℕ) where
  module _ (places : ℕ) where
    module _ (adds : adds_up pairs (length numbers) ≡ true) where
      pub bad_segment : (r : Refusal) → (lent_path rule w pairs numbers).verdict ≡ Err r → encode_answer rule w pairs numbers places ≡ Err r
      unfolding encode_answer
      bad_segment r e = rw (adds, e)

      module _ (good : fine ≡ (lent_path rule w pairs numbers).verdict) where
        -- the size, from the stores' lengths alone
        pub size_is : length (lent_bytes rule w pairs numbers) ≡ length pairs + span w (length numbers)
        unfolding lent_bytes
        size_is =
            let back = lent_back rule w pairs numbers adds (sym good) in
            path_length w (lent_path rule w pairs numbers).rows ∙ ap₂ (λ (p n : List ℕ). length p + span w (length n)) back.1 back.2

        pub by_size : encode_answer rule w pairs numbers places ≡ limited list_limit (length pairs + span w (length numbers)) places
        unfolding encode_answer
        by_size = rw (adds, ← good, size_is)

        pub all_written : length pairs + span w (length numbers) ≤ list_limit → length pairs + span w (length numbers) ≤ places
            → encode_answer rule w pairs numbers places ≡ Ok (length pairs + span w (length numbers))
        all_written h k = by_size ∙ limited_fits list_limit _ places h k

    -- what an accepted writing says
    pub encode_written : (n : ℕ) → encode_answer rule w pairs numbers places ≡ Ok n
        → (adds_up pairs (length numbers) ≡ true) × ((lent_path rule w pairs numbers).verdict ≡ fine) × (length (lent_bytes rule w pairs numbers) ≡ n) × (n ≤ list_limit) × (n ≤ places)
    unfolding encode_answer
    encode_written n = by_adds (adds_up pairs (length numbers))
      where
        by_verdict : (v : Verdict) (size : ℕ) → answer_by v (limited list_limit size places) Err ≡ Ok n → (v ≡ fine) × (size ≡ n) × (n ≤ list_limit) × (n ≤ places)
        by_verdict (Ok tt) size e = let b = limited_bytes list_limit size places n e in (refl, b.2, rw b.2 at b.0, rw b.2 at b.1)
        by_verdict (Err r) size e = cc

        by_adds : (t : Bool) → pick t (answer_by (lent_path rule w pairs numbers).verdict (limited list_limit (length (lent_bytes rule w pairs numbers)) places) Err) (Err NotWritable) ≡ Ok n
            → (t ≡ true) × ((lent_path rule w pairs numbers).verdict ≡ fine) × (length (lent_bytes rule w pairs numbers) ≡ n) × (n ≤ list_limit) × (n ≤ places)
        by_adds true e = let h = by_verdict (lent_path rule w pairs numbers).verdict (length (lent_bytes rule w pairs numbers)) e in (refl, h.0, h.1, h.2, h.3)
        by_adds false e = cc

  -- the output of an accepted writing
  pub written_out : (out : List ℕ) (n : ℕ) → encode_answer rule w pairs numbers (length out) ≡ Ok n → encode_left rule w pairs numbers out ≡ laid out 0 (lent_bytes rule w pairs numbers)
  unfolding encode_left
  written_out out n e = ap (λ (y : Result ℕ Refusal). filled (count_meaning y) (lent_bytes rule w pairs numbers) out) e

-- the same segments are written the same
module _ (rule rule' : Rule) (w : ℕ) (pairs numbers : List ℕ) (same : lent_path rule w pairs numbers ≡ lent_path rule' w pairs numbers) where
  pub same_answer : (places : ℕ) → encode_answer rule w pairs numbers places ≡ encode_answer rule' w pairs numbers places
  unfolding encode_answer lent_bytes
  same_answer places =
      ap (λ (r : Reading Segment). pick (adds_up pairs (length numbers)) (answer_by r.verdict (limited list_limit (length (path_bytes w r.rows)) places) Err) (Err NotWritable)) same

  pub same_left : (out : List ℕ) → encode_left rule w pairs numbers out ≡ encode_left rule' w pairs numbers out
  unfolding encode_left lent_bytes
  same_left out = ap₂ (λ (a : Result ℕ Refusal) (r : Reading Segment). filled (count_meaning a) (path_bytes w r.rows) out) (same_answer (length out)) same

-- so what is written by a rule is written the same by the crate's
pub encode_alike : (rule : PathRule) (w : ℕ) (pairs numbers out : List ℕ) (n : ℕ) → encode_answer (rule_of rule) w pairs numbers (length out) ≡ Ok n
    → (encode_answer known_type w pairs numbers (length out) ≡ encode_answer (rule_of rule) w pairs numbers (length out))
    × (encode_left known_type w pairs numbers out ≡ encode_left (rule_of rule) w pairs numbers out)
encode_alike rule w pairs numbers out n e =
    let h = encode_written (rule_of rule) w pairs numbers (length out) n e in
    let same = lent_alike rule w pairs numbers h.0 h.1 in
    (same_answer known_type (rule_of rule) w pairs numbers same (length out), same_left known_type (rule_of rule) w pairs numbers same out)
