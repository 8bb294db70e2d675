use Rattle.std.proofs.Common.{◌≡◌, ◌+◌, ◌-◌, ◌<◌, ◌≤◌, ℕ, List, length, sym, refl, ◌∙◌, arith}
use Rattle.std.proofs.lemmas.Slice.{put_mid-paste}
use borrow.Rule.Slice.PartMut.{put_mid}
use Rattle.wire.specs.Store.{placed}
use Rattle.wire.proofs.StoreLaws.{placed_fits, placed_not, paste_laid}
use Rattle.copies.proofs.copy_at.Goals as goal
use Rattle.copies.proofs.copy_at.Goals.{then-out-to-via-then-out-to, then-out-to-via-else-out-to+then-out-to-2}

-- a part that has become src is src in its places
part_placed : (d : List ℕ) (at : ℕ) (src part : List ℕ) → at ≤ length d → length src ≤ length d - at → part ≡ src → put_mid at (at + length src - at) d part ≡ placed d at src
part_placed d at src part in_range room e =
    put_mid-paste at _ d part src (length src) e (omega arith) refl ∙ paste_laid d at src ∙ sym (placed_fits d at src (omega arith))

pub returns-then-out-to : goal.returns-then-out-to
returns-then-out-to c =
    let over : length c.args.out.now < c.args.to + length c.args.src.now =
    elim c.then-out-to.branch [
      | then-out-to-via-then-out-to w ↦ omega (arith, w.if-out-to.true)
      | then-out-to-via-else-out-to+then-out-to-2 w ↦ omega (arith, w.if-out-to-2.true)
    ] in
    sym (placed_not c.args.out.now c.args.to c.args.src.now over)

pub returns-then-src-lt-BLOCK : goal.returns-then-src-lt-BLOCK
returns-then-src-lt-BLOCK c = part_placed c.args.out.now c.args.to c.args.src.now _ c.if-out-to.false c.if-out-to-2.false c.copy_few.ensures

pub returns-else-src-lt-BLOCK : goal.returns-else-src-lt-BLOCK
returns-else-src-lt-BLOCK c = part_placed c.args.out.now c.args.to c.args.src.now _ c.if-out-to.false c.if-out-to-2.false c.copy_blocks.ensures
