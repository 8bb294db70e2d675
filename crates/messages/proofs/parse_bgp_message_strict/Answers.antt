use mathlib.Core.Path.{ap, ◌∙◌}
use Prim.Native.Nat.{ℕ}
use Rattle.messages.specs.Header.{strict_within}
use Rattle.messages.proofs.parse_bgp_message_strict.Goals as goal

pub returns : goal.returns
returns c =
    c.parse_within.ensures
    ∙ ap (λ (limit : ℕ). strict_within limit c.args.s.now) c.limit_of.ensures
