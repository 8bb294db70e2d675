-- The fields of every answer of the module path are of 16 bits.
-- Assumes nothing.
use Prim.Native.Nat.{ℕ, ◌/◌, ◌≤◌, ◌<◌}
use mathlib.Core.List.{List}
use native.Mathlib.Omega.{arith}
use lib.ListN.{length}
use lib.Dec.{leb}
use Rattle.std.specs.Prelude.{Result, Ok, Err}
use Rattle.wire.specs.Answer.{count_meaning}
use Rattle.wire.proofs.ChoiceLaws.{pick_any, pick_leb}
use Rattle.wire.specs.Refusal.{list_limit}
use Rattle.wire.specs.Walk.{read_all, flat}
use Rattle.wire.specs.declared.refusal.Refusal.{Refusal}
use Rattle.wire.specs.declared.refusal.Refusal.TheVariants.{TooLong, NoRoom, NotWritable}
use Rattle.wire.proofs.WalkLaws.{tally_one, tally_flat}
use Rattle.wire.proofs.Turn.{Light, tally_few}
use Rattle.asns.specs.Asn.{width_of}
use Rattle.asns.specs.declared.AsnLength.{AsnLength}
use Rattle.asns.specs.declared.AsnLength.TheVariants.{Bits16, Bits32}
use Rattle.paths.specs.Segment.{Rule, segment_of, path_of, asns_of}
use Rattle.paths.proofs.SegmentLaws.{segment_sound, light_segments, light_numbers}
use Rattle.paths.specs.Promises as paths
use Rattle.paths.specs.Promises.{path_meaning}
use Rattle.paths.specs.declared.Path.{Path}
use Rattle.path_writer.specs.Promises.{encode_answer}
use Rattle.path_writer.specs.Write.{adds_up, lent_path}
use Rattle.words.specs.Word.{in_fields, Narrow}
use Rattle.words.proofs.WordLaws.{refused_narrow}
use Rattle.firmware.proofs.Bounds.{answer_any, limited_narrow}

width_pos : (width : AsnLength) → 0 < width_of width
width_pos Bits16 = omega arith
width_pos Bits32 = omega arith

-- in stores of so many places
pub stores_narrow : (a : Result Path Refusal) (p q : ℕ) → Narrow (in_fields (path_meaning a)) → Narrow (in_fields (path_meaning (paths.in_stores a p q)))
stores_narrow (Ok path) p q h =
    let Fine : Result Path Refusal → Type 0 = λ a. Narrow (in_fields (path_meaning a)) in
    pick_any Fine (leb path.segments (p / 2)) _ (Err NoRoom)
    (pick_any Fine (leb path.numbers q) (Ok path) (Err NoRoom) h (refused_narrow _))
    (refused_narrow _)
stores_narrow (Err r) p q h = refused_narrow _

module _ (s : List ℕ) (width : AsnLength) (rule : Rule) where
  segments_few : length (path_of rule (width_of width) s).rows ≤ length s
  unfolding path_of
  segments_few =
      let w : ℕ = width_of width in
      omega (arith, tally_one (read_all (segment_of rule w) tt s).rows, tally_few (segment_of rule w) (segment_sound rule w) (λ _. 1) (light_segments rule w) tt s)

  numbers_few : length (flat asns_of (path_of rule (width_of width) s).rows) ≤ length s
  unfolding path_of
  numbers_few =
      let w : ℕ = width_of width in
      let many : Light (segment_of rule w) (λ g. length (asns_of g)) 1 = light_numbers rule w (width_pos width) in
      omega (arith, tally_flat asns_of (read_all (segment_of rule w) tt s).rows, tally_few (segment_of rule w) (segment_sound rule w) (λ g. length (asns_of g)) many tt s)

  pub count_path_narrow : Narrow (in_fields (path_meaning (paths.count_answer s (path_of rule (width_of width) s))))
  unfolding paths.count_answer
  count_path_narrow =
      let Fine : Result Path Refusal → Type 0 = λ a. Narrow (in_fields (path_meaning a)) in
      pick_leb Fine (length s) list_limit _ (Err TooLong)
      (λ short. answer_any Fine (path_of rule (width_of width) s).verdict _ Err
      (record { a = omega (arith, segments_few); b = omega (arith, numbers_few); c = omega arith }) (λ r. refused_narrow _))
      (λ _. refused_narrow _)

  pub read_path_narrow : (p q : ℕ) → Narrow (in_fields (path_meaning (paths.read_answer s (path_of rule (width_of width) s) p q)))
  unfolding paths.read_answer
  read_path_narrow p q = stores_narrow (paths.count_answer s (path_of rule (width_of width) s)) p q count_path_narrow

-- ---- what is written

pub write_path_narrow : (pairs numbers : List ℕ) (width : AsnLength) (rule : Rule) (places : ℕ)
    → Narrow (in_fields (count_meaning (encode_answer rule (width_of width) pairs numbers places)))
unfolding encode_answer
write_path_narrow pairs numbers width rule places =
    let Fine : Result ℕ Refusal → Type 0 = λ a. Narrow (in_fields (count_meaning a)) in
    pick_any Fine (adds_up pairs (length numbers)) _ (Err NotWritable)
    (answer_any Fine (lent_path rule (width_of width) pairs numbers).verdict _ Err (limited_narrow list_limit _ places (omega arith)) (λ r. refused_narrow _))
    (refused_narrow _)
