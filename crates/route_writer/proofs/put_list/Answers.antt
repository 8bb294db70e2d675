use mathlib.Core.Path.{◌≡◌, sym, ◌∙◌}
use mathlib.Core.List.{List, [], ◌∷◌}
use Prim.Native.Nat.{ℕ}
use native.Mathlib.Omega.{arith}
use lib.ListN.{length}
use Rattle.wire.specs.Store.{laid}
use Rattle.wire.proofs.StoreLaws.{laid_nil}
use Rattle.families.specs.Family.{max_of}
use Rattle.route_bytes.specs.Encode.{bytes_of}
use Rattle.route_bytes.proofs.PromiseLaws.{measured_bytes}
use Rattle.route_writer.proofs.put_list.Goals as goal

-- no bytes leave the output as it was
none_laid : (d : List ℕ) (to : ℕ) (vs : List ℕ) → length vs ≡ 0 → d ≡ laid d to vs
none_laid d to [] e = sym (laid_nil d to)
none_laid d to (v ∷ vs) e = absurd (omega arith)

pub returns-then-size-eq0 : goal.returns-then-size-eq0
returns-then-size-eq0 c =
    let a = c.args in
    none_laid a.out.now a.to (bytes_of a.rows.now (max_of a.afi) a.form)
    ((measured_bytes a.rows.now (max_of a.afi) a.form a.size c.requires.0).1 ∙ c.if-size-eq0.true)
