use Prim.Native.Nat.{◌-◌}
use mathlib.Core.Path.{◌∙◌}
use native.Mathlib.Omega.{arith}
use lib.ListN.{length}
use Rattle.wire.specs.Number.{Bytes}
use Rattle.wire.proofs.NumberLaws.{be_between}
use Rattle.route_reader.proofs.WordsLaws.{last_octets}
use Rattle.route_reader.proofs.last_word.Goals as goal

pub returns : goal.returns
returns c =
    let s = c.args.s.now in
    let bytes : Bytes s = λ i. (c.type_inv.s i).fits in
    last_octets s c.args.n _ bytes c.requires.0 c.requires.1 (c.u32_at-w.ensures ∙ be_between s (length s - 4) (length s) 4 (omega (arith, c.requires.0)))
