use Rattle.std.proofs.Common.{◌≡◌, ℕ, ◌+◌, ◌-◌, ◌≤◌, Bool, List, length, take, drop, arith, length-drop, length-take-le, rules}
use Rattle.slot_table.specs.Table.{listing, listed_of}
use Rattle.slot_table.specs.declared.Listed.{Listed}
use Rattle.slot_table.proofs.TableLaws.{used_within}
use Rattle.lister.proofs.list.Goals.{in-Write, in-Read+in-Ok}
use Rattle.lister.proofs.list.Goals as goal

-- a block is the bytes in hand from a place on, and no more of them are used than there are
block_within : (a : Listed) (last : Bool) (nth room at till : ℕ) (input : List ℕ) → at ≤ till → till ≤ length input
    → a ≡ listed_of (listing last nth room (take (till - at) (drop at input))) → at + a.used ≤ till
block_within a last nth room at till input h k e =
    let size : length (take (till - at) (drop at input)) ≡ till - at = length-take-le (till - at) (drop at input) (omega (arith, length-drop at input)) in
    omega (arith, used_within a last nth room (take (till - at) (drop at input)) e)

pub overflow_add-at : goal.overflow_add-at
overflow_add-at g c = omega (arith, block_within _ _ _ _ _ _ _ c.loop.invariant.0 c.loop.invariant.1 c.put_records-block.ensures.answer)

pub overflow_sub-have : goal.overflow_sub-have
overflow_sub-have g c = block_within _ _ _ _ _ _ _ c.loop.invariant.0 c.loop.invariant.1 c.put_records-block.ensures.answer

pub loop-preserved : goal.loop-preserved
loop-preserved g c =
    let i = c.loop.invariant in
    let used = block_within _ _ _ _ _ _ _ i.0 i.1 c.put_records-block.ensures.answer in
    elim c.match-block.branch [
      | in-Write w ↦ rw (w.at-is, w.have-is, w.input-is) (used, i.1, i.2, search rules)
      | in-Read+in-Ok w ↦ rw (w.at-is, w.have-is, w.input-is) (omega arith, search rules, search rules, search rules)
    ]
