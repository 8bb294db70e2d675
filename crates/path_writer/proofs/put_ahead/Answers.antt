use Prim.Native.Nat.{ℕ, ◌-◌, ◌≤◌}
use mathlib.Core.Path.{◌≡◌, sym, ap, ◌∙◌}
use mathlib.Core.List.{List}
use native.Mathlib.Omega.{arith}
use lib.ListN.{length, take, drop, length-drop}
use lib.Seq.{length-take-le}
use Rattle.wire.specs.Number.{to_be}
use Rattle.wire.specs.Store.{laid}
use Rattle.wire.proofs.StoreLaws.{put_alone}
use Rattle.wire.specs.Walk.{flat}
use Rattle.asns.specs.Asn.{width_of, span}
use Rattle.asns.proofs.AsnLaws.{eight_says}
use Rattle.path_writer.proofs.WriteLaws.{fit_part, bytes_length, more_bytes}
use Rattle.path_writer.proofs.put_ahead.Goals as goal

-- the bytes of eight numbers that are there
eight_bytes : (w from : ℕ) (ns : List ℕ) → 8 ≤ length ns - from → length (flat (to_be w) (take 8 (drop from ns))) ≡ span w 8
eight_bytes w from ns h = bytes_length w (take 8 (drop from ns)) ∙ ap (span w) (length-take-le 8 (drop from ns) (omega (arith, length-drop from ns)))

pub put_numbers-requires : goal.put_numbers-requires
put_numbers-requires c =
    let a = c.args in
    let e = eight_says (width_of a.width) a.n _ _ (sym c.eight_for.ensures ∙ c.if-eight_for.true) in
    record {
      n_in_bounds = omega (arith, e, c.requires.n_in_bounds);
      numbers_value = fit_part (width_of a.width) 8 a.from a.numbers.now c.requires.numbers_value;
      numbers_in_bounds = omega (arith, e, eight_bytes (width_of a.width) a.from a.numbers.now e.1, c.requires.numbers_bound);
    }

pub returns-then-eight_for : goal.returns-then-eight_for
returns-then-eight_for c =
    let a = c.args in
    let w = width_of a.width in
    let l : List ℕ = drop a.from a.numbers.now in
    let e = eight_says w a.n _ _ (sym c.eight_for.ensures ∙ c.if-eight_for.true) in
    let parts = more_bytes w a.n 8 l e.0 in
    record {
      more = flat (to_be w) (drop a.n (take 8 l));
      fits = omega (arith, e, ap length parts, eight_bytes w a.from a.numbers.now e.1, c.requires.numbers_bound);
      is = c.put_numbers.ensures ∙ ap (laid a.out.now a.to) parts;
    }

pub put_numbers-requires-2 : goal.put_numbers-requires-2
put_numbers-requires-2 c =
    let a = c.args in
    record {
      n_in_bounds = c.requires.n_in_bounds;
      numbers_value = fit_part (width_of a.width) a.n a.from a.numbers.now c.requires.numbers_value;
      numbers_in_bounds = omega (arith, c.requires.numbers_bound);
    }

pub returns : goal.returns
returns c =
    let a = c.args in
    put_alone a.total a.out.now a.to _ _ c.requires.numbers_bound.0 c.put_numbers-2.ensures
