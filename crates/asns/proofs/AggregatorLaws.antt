-- Laws of an AGGREGATOR's bytes and of the calls that write one.
-- Assumes nothing.
use Prim.Native.Nat.{ℕ, ◌+◌, ◌≤◌}
use mathlib.Core.Path.{◌≡◌, ap, ◌∙◌}
use mathlib.Core.List.{List}
use mathlib.Core.Bool.{Bool, true}
use native.Mathlib.Omega.{arith}
use lib.ListN.{length, length-append}
use Rattle.wire.specs.Number.{to_be, be_at}
use Rattle.wire.proofs.NumberLaws.{length_to_be}
use Rattle.wire.specs.Store.{laid, placed}
use Rattle.wire.proofs.StoreLaws.{placed_fits, laid_laid, length_laid}
use Rattle.asns.specs.Asn.{width_of, fits_width, with_number}
use Rattle.asns.proofs.AsnLaws.{put_room}
use Rattle.asns.specs.Aggregator.{unlike, aggregator_bytes, aggregator_in}
use Rattle.asns.specs.declared.AsnLength.{AsnLength}

-- an AGGREGATOR from its parts
pub in_parts : (s : List ℕ) (width found : AsnLength) (asn identifier : ℕ) (differs : Bool) → asn ≡ be_at s 0 (width_of found) → identifier ≡ be_at s (width_of found) 4
    → differs ≡ unlike found width → record { asn = asn; identifier = identifier; differs = differs } ≡ aggregator_in s found width
in_parts s width found asn identifier differs e f g = cc

module _ (asn identifier : ℕ) (width : AsnLength) where
  pub bytes_length : length (aggregator_bytes width asn identifier) ≡ width_of width + 4
  unfolding aggregator_bytes
  bytes_length =
      length-append (to_be (width_of width) asn) (to_be 4 identifier) ∙ ap (λ (k : ℕ). k + 4) (length_to_be (width_of width) asn)

  -- the number put, and the identifier after it
  pub both_put : (out : List ℕ) → fits_width asn width ≡ true → width_of width + 4 ≤ length out
      → placed (with_number out 0 asn width) (width_of width) (to_be 4 identifier) ≡ laid out 0 (aggregator_bytes width asn identifier)
  unfolding aggregator_bytes
  both_put out e h =
      let w : ℕ = width_of width in
      let n : List ℕ = to_be w asn in
      let size : length n ≡ w = length_to_be w asn in
      let place : w ≡ 0 + length n = omega (arith, size) in
      let fit : 0 + length n ≤ length out = omega (arith, size) in
      ap (λ (d : List ℕ). placed d w (to_be 4 identifier)) (put_room out 0 asn width e (omega arith))
      ∙ placed_fits (laid out 0 n) w (to_be 4 identifier) (omega (arith, length_laid out 0 n fit))
      ∙ ap (λ (k : ℕ). laid (laid out 0 n) k (to_be 4 identifier)) place
      ∙ laid_laid out 0 n (to_be 4 identifier) (omega (arith, size))
