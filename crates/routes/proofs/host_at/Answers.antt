use Prim.Native.Nat.{ℕ, ◌+◌, ◌-◌}
use mathlib.Core.Path.{◌≡◌, ap, ◌∙◌}
use native.Mathlib.Omega.{arith}
use lib.ListN.{get_or}
use Rattle.routes.proofs.HostLaws.{host_at}
use Rattle.routes.proofs.host_at.Goals as goal

pub returns : goal.returns
returns c =
    let a = c.args in
    let place : a.used - 1 + a.n ≡ a.n + a.used - 1 = omega (arith, c.requires.form_bound) in
    c.past_length.ensures ∙ host_at a.s.now a.n a.used a.form _ _ c.requires.form_bound c.requires.used_in_bounds (ap (λ (k : ℕ). get_or a.s.now (a.n + k) 0) c.id_size.ensures) (ap (λ (i : ℕ). get_or a.s.now i 0) place)
