-- Laws of the routes of an UPDATE.
-- Assumes nothing.
use mathlib.Core.Path.{◌≡◌, sym, ap, ◌∙◌}
use mathlib.Core.List.{List}
use Prim.Native.Nat.{ℕ}
use lib.ListN.{length}
use Rattle.std.specs.Prelude.{Result, Ok, Err}
use Rattle.wire.specs.Answer.{filled}
use Rattle.wire.specs.Walk.{flat}
use Rattle.wire.specs.declared.refusal.Refusal.{Refusal}
use Rattle.families.specs.Family.{max_of}
use Rattle.families.specs.declared.Afi.TheVariants.{Ipv4}
use Rattle.families.specs.declared.AddPath.{AddPath}
use Rattle.routes.specs.List.{section_of}
use Rattle.routes.specs.Prefix.{words}
use Rattle.route_reader.specs.Pair.{read_pair, read_pair_first, read_pair_second}
use Rattle.route_reader.specs.declared.Sections.{Sections}
use Rattle.updates.specs.Update.{as_update, withdrawn_meaning, announced_meaning}

-- what the call on two sections told of s and t, and left in the stores d and d', as an UPDATE's
pub both_told : (s t : List ℕ) (mode : AddPath) (d d' x x' : List ℕ) (told p : Result Sections Refusal) → told ≡ p
    → told ≡ read_pair s t (max_of Ipv4) mode (length d) (length d')
    → x ≡ read_pair_first told (section_of s (max_of Ipv4) mode) d
    → x' ≡ read_pair_second told (section_of t (max_of Ipv4) mode) d'
    → (as_update p ≡ as_update (read_pair s t (max_of Ipv4) mode (length d) (length d')))
    × ((x ≡ filled (withdrawn_meaning (as_update p)) (flat words (section_of s (max_of Ipv4) mode).rows) d)
    × (x' ≡ filled (announced_meaning (as_update p)) (flat words (section_of t (max_of Ipv4) mode).rows) d'))
both_told s t mode d d' x x' told (Ok both) f e g h = (
  ap as_update (sym f ∙ e),
  (
    g ∙ ap (λ (q : Result Sections Refusal). read_pair_first q (section_of s (max_of Ipv4) mode) d) f,
    h ∙ ap (λ (q : Result Sections Refusal). read_pair_second q (section_of t (max_of Ipv4) mode) d') f,
  ),
)
both_told s t mode d d' x x' told (Err r) f e g h = (
  ap as_update (sym f ∙ e),
  (
    g ∙ ap (λ (q : Result Sections Refusal). read_pair_first q (section_of s (max_of Ipv4) mode) d) f,
    h ∙ ap (λ (q : Result Sections Refusal). read_pair_second q (section_of t (max_of Ipv4) mode) d') f,
  ),
)
