use Rattle.std.proofs.Common.{rules, ◌≡◌, ℕ, ◌+◌, ◌-◌, ◌≤◌, Bool, List, length, take, drop, sym, refl, ap, ◌∙◌, arith, length-drop}
use Rattle.wire.proofs.Turn.{rest}
use Rattle.families.specs.declared.AddPath.{AddPath}
use Rattle.slots.specs.Slot.{record_size, slot_of}
use Rattle.slots.specs.declared.SlotAnswer.{SlotAnswer}
use Rattle.slots.specs.declared.SlotAnswer.TheVariants as S
use Rattle.slots.proofs.SlotLaws.{slot_fits}
use Rattle.slot_table.specs.Line.{line_room}
use Rattle.slot_table.specs.declared.Then.TheVariants.{Read, Whole}
use Rattle.slot_table.proofs.TableLaws.{Done, going_start, going_on, going_full, going_ends, going_stops}
use Rattle.slot_table.proofs.Growth.{held}
use Rattle.slot_table.proofs.put_records.Goals.{then-room-lt-LINE_ROOM, else-room-lt-LINE_ROOM+in-More, else-room-lt-LINE_ROOM+in-Stop, else-room-lt-LINE_ROOM+in-End}
use Rattle.slot_table.proofs.put_records.Goals as goal

-- what stands at the front of what is left
at_front : (block : List ℕ) (used : ℕ) (last : Bool) (answer : SlotAnswer)
    → answer ≡ slot_of (take (length block - used) (drop used block)) last → slot_of (drop used block) last ≡ answer
at_front block used last answer e = ap (λ (t : List ℕ). slot_of t last) (sym (rest block used)) ∙ sym e

-- a record that is found is all there
there : (block : List ℕ) (used : ℕ) (last : Bool) (kept : ℕ) (mode : AddPath) → used ≤ length block
    → slot_of (drop used block) last ≡ S.Slot kept mode → used + record_size + kept ≤ length block
there block used last kept mode h e = omega (arith, slot_fits _ _ _ _ e, length-drop used block)

pub loop-kept-init : goal.loop-kept-init
loop-kept-init c = going_start c.args.block.now c.args.last c.args.first _ refl

pub overflow_add-used : goal.overflow_add-used
overflow_add-used c =
    let found = at_front c.args.block.now c.loop-kept.used c.args.last _ c.next_slot.ensures ∙ c.in-Slot.is in
    omega (arith, there c.args.block.now c.loop-kept.used c.args.last _ _ c.loop-kept.invariant.within found)

pub slice_bounds-line-end : goal.slice_bounds-line-end
slice_bounds-line-end c =
    let found = at_front c.args.block.now c.loop-kept.used c.args.last _ c.next_slot.ensures ∙ c.in-Slot.is in
    omega (arith, there c.args.block.now c.loop-kept.used c.args.last _ _ c.loop-kept.invariant.within found)

pub loop-kept-smaller : goal.loop-kept-smaller
loop-kept-smaller c =
    let found = at_front c.args.block.now c.loop-kept.used c.args.last _ c.next_slot.ensures ∙ c.in-Slot.is in
    omega (arith, there c.args.block.now c.loop-kept.used c.args.last _ _ c.loop-kept.invariant.within found)

pub loop-kept-preserved : goal.loop-kept-preserved
loop-kept-preserved c =
    let found = at_front c.args.block.now c.loop-kept.used c.args.last _ c.next_slot.ensures ∙ c.in-Slot.is in
    going_on _ _ _ _ refl _ _ _ c.loop-kept.invariant _ _ _ (omega (arith, c.room.ensures, c.if-room-lt-LINE_ROOM.false)) found c.line.ensures

pub returns : goal.returns
returns c =
    let block = c.args.block.now in
    let l = c.loop-kept in
    let g = l.invariant in
    let found : (answer : SlotAnswer) → answer ≡ slot_of (take (length block - l.used) (drop l.used block)) c.args.last → slot_of (drop l.used block) c.args.last ≡ answer = at_front block l.used c.args.last in
    let room : line_room ≤ c.room.result → line_room ≤ length l.text.out.now - l.text.at = λ h. omega (arith, c.room.ensures, h) in
    let done : Done block c.args.last c.args.first _ refl l.text l.used l.nth g c.if-room-lt-LINE_ROOM.text c.if-room-lt-LINE_ROOM.then =
    elim c.if-room-lt-LINE_ROOM.branch [
      | then-room-lt-LINE_ROOM w ↦ rw (w.text-is, w.then-is) (going_full _ _ _ _ refl _ _ _ g (omega (arith, c.room.ensures, w.if-room-lt-LINE_ROOM.true)))
      | else-room-lt-LINE_ROOM+in-More w ↦ rw (w.text-is, w.then-is) (going_ends _ _ _ _ refl _ _ _ g S.More Read (room w.if-room-lt-LINE_ROOM.false) (found _ w.next_slot.ensures ∙ w.in-More.is) (λ go. refl))
      | else-room-lt-LINE_ROOM+in-Stop w ↦ rw (w.text-is, w.then-is) (going_stops _ _ _ _ refl _ _ _ g _ (room w.if-room-lt-LINE_ROOM.false) (found _ w.next_slot.ensures ∙ w.in-Stop.is) w.stop.ensures)
      | else-room-lt-LINE_ROOM+in-End w ↦ rw (w.text-is, w.then-is) (going_ends _ _ _ _ refl _ _ _ g S.End Whole (room w.if-room-lt-LINE_ROOM.false) (found _ w.next_slot.ensures ∙ w.in-End.is) (λ go. refl))
    ] in
    record { answer = done.answer; output = held done.output (search rules) }
