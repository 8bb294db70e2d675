use Prim.Native.Nat.{ℕ, ◌+◌, ◌≤◌}
use mathlib.Core.Path.{◌≡◌, sym, ap, ◌∙◌}
use native.Mathlib.Omega.{arith}
use lib.ListN.{length, drop}
use mathlib.Core.List.{List}
use Rattle.std.specs.Prelude.{Ok}
use Rattle.wire.proofs.Turn.{rest}
use Rattle.mp_nlri.specs.Value.{hop_start, head_of}
use Rattle.mp_nlri.specs.declared.Head.{Head}
use Rattle.mp_nlri.proofs.ValueLaws.{Headed, head_good}
use Rattle.mp_nlri.proofs.routes_after_head.Goals as goal

headed : (v : List ℕ) (head : Head) → Ok head ≡ head_of v → Headed v head.next_hop head.reserved
headed v head is = head_good v _ _ (sym is)

-- the routes start within the value
inside : (v : List ℕ) (head : Head) → Ok head ≡ head_of v → (hop_start + head.next_hop + 1 ≤ length v) × (length v ≤ 65535)
inside v head is = let h = headed v head is in (omega (arith, h.whole), h.paired.short)

pub overflow_add-result : goal.overflow_add-result
overflow_add-result c = omega (arith, inside _ _ c.requires)

pub overflow_add-result-2 : goal.overflow_add-result-2
overflow_add-result-2 c = omega (arith, inside _ _ c.requires)

pub slice_bounds-result-count : goal.slice_bounds-result-count
slice_bounds-result-count c = omega (arith, inside _ _ c.requires)

pub slice_bounds-result-start : goal.slice_bounds-result-start
slice_bounds-result-start c = omega (arith, inside _ _ c.requires)

pub returns : goal.returns
returns c =
    let v = c.args.value.now in
    rest v _ ∙ ap (λ (n : ℕ). drop (hop_start + n + 1) v) (headed v c.args.head c.requires).told
