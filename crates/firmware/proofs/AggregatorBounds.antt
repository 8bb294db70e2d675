-- The fields of a written AGGREGATOR are of 16 bits.
-- Assumes nothing.
use Prim.Native.Nat.{ℕ, ◌≤◌}
use native.Mathlib.Omega.{arith}
use lib.ListN.{length}
use lib.Dec.{leb}
use Rattle.std.specs.Prelude.{Result, Ok, Err}
use Rattle.wire.specs.Answer.{count_meaning}
use Rattle.wire.specs.declared.refusal.Refusal.{Refusal}
use Rattle.wire.specs.declared.refusal.Refusal.TheVariants.{NoRoom, WideNumber}
use Rattle.wire.proofs.ChoiceLaws.{pick_any}
use Rattle.asns.specs.Asn.{width_of, fits_width}
use Rattle.asns.specs.Aggregator.{aggregator_bytes, aggregator_written}
use Rattle.asns.specs.declared.AsnLength.{AsnLength}
use Rattle.asns.specs.declared.AsnLength.TheVariants.{Bits16, Bits32}
use Rattle.asns.proofs.AggregatorLaws.{bytes_length}
use Rattle.words.specs.Word.{in_fields, Narrow}
use Rattle.words.proofs.WordLaws.{refused_narrow, number_narrow}

pub write_aggregator_narrow : (asn identifier : ℕ) (width : AsnLength) (places : ℕ) → Narrow (in_fields (count_meaning (aggregator_written asn identifier width places)))
unfolding aggregator_written
write_aggregator_narrow asn identifier width places =
    let Fine : Result ℕ Refusal → Type 0 = λ a. Narrow (in_fields (count_meaning a)) in
    let size : ℕ = length (aggregator_bytes width asn identifier) in
    pick_any Fine (fits_width asn width) _ (Err WideNumber)
    (pick_any Fine (leb size places) (Ok size) (Err NoRoom)
    (number_narrow size (omega (arith, bytes_length asn identifier width, width_small width))) (refused_narrow _))
    (refused_narrow _)
  where
    width_small : (w : AsnLength) → width_of w ≤ 4
    width_small Bits16 = omega arith
    width_small Bits32 = omega arith
