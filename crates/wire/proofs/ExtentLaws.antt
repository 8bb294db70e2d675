-- Laws of a part of a lent list.
-- Assumes nothing.
use Prim.Native.Nat.{ℕ, ◌+◌, ◌≤◌, ◌<◌}
use mathlib.Core.Path.{◌≡◌, sym, ap, ◌∙◌}
use mathlib.Core.List.{List, []}
use denote.Ref.{Bor}
use native.Mathlib.Nat.{zero-add}
use borrow.Author.Tests.{le-leb, lt-leb}
use Rattle.wire.specs.Extent.{Extent, nothing, clipped, PartOf}

pub clipped_fits : (e : Extent) (n : ℕ) → e.start + e.size ≤ n → clipped e n ≡ e
unfolding clipped
clipped_fits e n h = rw (le-leb (e.start + e.size) n h)

pub clipped_not : (e : Extent) (n : ℕ) → n < e.start + e.size → clipped e n ≡ nothing
unfolding clipped
clipped_not e n h = rw (lt-leb (e.start + e.size) n h)

-- nothing of s is the empty part at its front
pub empty_part : (s r : Bor (List ℕ)) → r.now ≡ [] → r.ref_ptr ≡ s.ref_ptr → PartOf s nothing r
empty_part s r e f = record { holds = e; lies = f ∙ ap (λ (n : ℕ). (s.ref_ptr.0, n)) (sym (zero-add s.ref_ptr.1)) }

-- there is one such part
pub one_part : (s : Bor (List ℕ)) (e : Extent) (a b : Bor (List ℕ)) → PartOf s e a → PartOf s e b → (a.now ≡ b.now) × (a.ref_ptr ≡ b.ref_ptr)
one_part s e a b p q = (p.holds ∙ sym q.holds, p.lies ∙ sym q.lies)
