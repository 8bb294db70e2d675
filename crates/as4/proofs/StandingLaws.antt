-- Laws of which AGGREGATOR stands.
-- Assumes nothing.
use Prim.Native.Nat.{ℕ}
use mathlib.Core.Path.{◌≡◌, sym, ap, ◌∙◌}
use mathlib.Core.List.{List}
use native.Mathlib.Nat.{zero-add}
use native.Mathlib.Omega.{arith}
use denote.Ref.{Bor}
use lib.ListN.{length}
use lib.Seq.{take_all}
use Rattle.std.specs.Prelude.{Ok, Err}
use Rattle.wire.specs.Extent.{extent, PartOf}
use Rattle.wire.specs.Verdict.{Verdict, fine, unless}
use Rattle.wire.specs.declared.refusal.Refusal.{Refusal}
use Rattle.as4.specs.Standing.{sizes_fault, stands, standing}
use Rattle.as4.specs.declared.Standing.{Standing}

module _ (first second : List ℕ) where
  pub standing_refused : (r : Refusal) → Err r ≡ sizes_fault first second → Err r ≡ standing first second
  unfolding standing
  standing_refused r e = ap (λ (v : Verdict). unless v (stands first second)) e

  pub standing_good : (x : Standing) → fine ≡ sizes_fault first second → x ≡ stands first second → Ok x ≡ standing first second
  unfolding standing
  standing_good x e f = ap Ok f ∙ ap (λ (v : Verdict). unless v (stands first second)) e

-- all of a value
pub all_part : (s : Bor (List ℕ)) → PartOf s (extent 0 (length s.now)) s
all_part s = record { holds = sym (take_all (length s.now) s.now (omega arith)); lies = ap (λ (n : ℕ). (s.ref_ptr.0, n)) (sym (zero-add s.ref_ptr.1)) }
