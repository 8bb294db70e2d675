-- Laws of text that grows piece by piece.
-- Assumes nothing.
use Rattle.std.proofs.Common.{◌≡◌, ℕ, ◌+◌, ◌≤◌, List, ◌++◌, length, ap, ◌∙◌, ap₂, arith, length-append}
use Rattle.wire.specs.Store.{laid}
use Rattle.wire.proofs.StoreLaws.{laid_laid, length_laid}
use Rattle.slot_table.specs.Private.{Grown}
use Rattle.slot_table.specs.declared.Text.{Text}

-- the length of its output stays
pub grown_long : {t t' : Text} {piece : List ℕ} → Grown t piece t' → length t'.out.now ≡ length t.out.now
grown_long {t} {t'} {piece} g = ap length g.grown ∙ length_laid t.out.now t.at piece (omega (arith, g.at, g.room))

-- a piece after a piece
pub grow : {t t' t'' : Text} {piece piece' : List ℕ} → Grown t piece t' → Grown t' piece' t'' → Grown t (piece ++ piece') t''
grow {t} {t'} {t''} {piece} {piece'} p q =
    let long : length t'.out.now ≡ length t.out.now = grown_long p in
    record {
      grown =
          q.grown
          ∙ ap₂ (λ (l : List ℕ) (k : ℕ). laid l k piece') p.grown p.at
          ∙ laid_laid t.out.now t.at piece piece' (omega (arith, p.at, q.at, q.room));
      at = omega (arith, p.at, q.at, length-append piece piece');
      room = omega (arith, q.room);
      same = q.same ∙ p.same;
    }

-- where a piece of a few bytes ends, in an output that keeps its length
pub grown_few : {t t' : Text} {piece : List ℕ} {few : ℕ} → Grown t piece t' → length piece ≤ few → (t'.at ≤ t.at + few) × (length t'.out.now ≡ length t.out.now)
grown_few g small = (omega (arith, g.at, small), grown_long g)

-- what the output holds, from what the text does
pub held : {d text all : List ℕ} → text ≡ all → d ≡ text → d ≡ all
held put same = same ∙ put
