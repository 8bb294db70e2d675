-- An AGGREGATOR that is written is read again as it was, whatever the configured width; and what its width holds is written, given room.
-- Assumes nothing.
use Prim.Native.Nat.{ℕ, ◌+◌, ◌^◌, ◌≤◌, ◌<◌}
use mathlib.Core.Path.{◌≡◌, refl, sym, ap, ◌∙◌}
use mathlib.Core.List.{List, [], ◌++◌, append-nil}
use native.Mathlib.Omega.{arith}
use borrow.Author.Tests.{lt-ltb, le-leb}
use Rattle.wire.specs.Number.{to_be, be_at}
use Rattle.wire.proofs.NumberLaws.{length_to_be}
use Rattle.std.specs.Prelude.{Ok}
use Rattle.asns.specs.Asn.{width_of}
use Rattle.asns.specs.Aggregator.{unlike, aggregator_in, aggregator_of, aggregator_bytes, aggregator_written}
use Rattle.asns.proofs.AsnLaws.{number_back}
use Rattle.asns.proofs.AggregatorLaws.{bytes_length}
use Rattle.std.proofs.lemmas.Grind.{common_steps}
use Rattle.asns.specs.declared.AsnLength.{AsnLength}
use Rattle.asns.specs.declared.AsnLength.TheVariants.{Bits16, Bits32}

module _ (asn identifier : ℕ) (width : AsnLength) where
  -- the number that the width holds is written, given room
  pub fits_written : (places : ℕ) → asn < 256 ^ width_of width → width_of width + 4 ≤ places → aggregator_written asn identifier width places ≡ Ok (width_of width + 4)
  unfolding aggregator_written
  fits_written places h room = rw (lt-ltb asn (256 ^ width_of width) h, bytes_length, le-leb (width_of width + 4) places room)

  -- and no other
  pub written_fits : (places n : ℕ) → aggregator_written asn identifier width places ≡ Ok n → (asn < 256 ^ width_of width) × (n ≡ width_of width + 4) × (n ≤ places)
  unfolding aggregator_written
  written_fits places n e = grind (arith, common_steps, bytes_length)

  -- what is written is read as the same number and identifier, with the flag where the widths differ
  module _ (fits : asn < 256 ^ width_of width) (small : identifier < 2 ^ 32) where
    number : be_at (aggregator_bytes width asn identifier) 0 (width_of width) ≡ asn
    unfolding aggregator_bytes
    number = number_back [] 0 (width_of width) asn (to_be 4 identifier) refl fits

    rest : be_at (aggregator_bytes width asn identifier) (width_of width) 4 ≡ identifier
    unfolding aggregator_bytes
    rest =
        ap (λ (l : List ℕ). be_at (to_be (width_of width) asn ++ l) (width_of width) 4) (sym (append-nil (to_be 4 identifier)))
        ∙ number_back (to_be (width_of width) asn) (width_of width) 4 identifier [] (length_to_be (width_of width) asn) small

    read_back : (width' : AsnLength) → aggregator_in (aggregator_bytes width asn identifier) width width' ≡ record { asn = asn; identifier = identifier; differs = unlike width width' }
    read_back width' = cc (number, rest)

pub written_read : (asn identifier : ℕ) (width width' : AsnLength) → asn < 256 ^ width_of width → identifier < 2 ^ 32
    → aggregator_of (aggregator_bytes width asn identifier) width' ≡ Ok (record { asn = asn; identifier = identifier; differs = unlike width width' })
unfolding aggregator_of
written_read asn identifier Bits32 width' h k =
    rw (bytes_length asn identifier Bits32) (ap Ok (read_back asn identifier Bits32 h k width'))
written_read asn identifier Bits16 width' h k =
    rw (bytes_length asn identifier Bits16) (ap Ok (read_back asn identifier Bits16 h k width'))
