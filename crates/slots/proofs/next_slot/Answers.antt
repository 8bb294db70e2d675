use mathlib.Core.Path.{sym, ap₂, ◌∙◌}
use native.Mathlib.Omega.{arith}
use Rattle.slots.specs.Slot.{slot_of}
use Rattle.slots.specs.declared.SlotAnswer.TheVariants.{Slot}
use Rattle.slots.proofs.SlotLaws.{Marked, marked_short, marked_whole}
use Rattle.slots.proofs.next_slot.Goals as goal
use Rattle.slots.proofs.next_slot.Goals.{then-differs_at-via-then-differs_at, then-differs_at-via-else-differs_at+then-differs_at-2, then-differs_at-via-else-differs_at+else-differs_at-2+then-over_settings}

pub returns-then-last : goal.returns-then-last
unfolding slot_of
returns-then-last c = simp (sym c.is_empty.ensures ∙ c.if-is_empty.true, c.if-last.true)

pub returns-else-last : goal.returns-else-last
unfolding slot_of
returns-else-last c = simp (sym c.is_empty.ensures ∙ c.if-is_empty.true, c.if-last.false)

pub returns-then-differs_at : goal.returns-then-differs_at
unfolding slot_of
returns-then-differs_at c =
    let some = sym c.is_empty.ensures ∙ c.if-is_empty.false in
    elim c.then-differs_at.branch [
      | then-differs_at-via-then-differs_at w ↦ simp (some, sym c.differs_at.ensures ∙ w.if-differs_at.true)
      | then-differs_at-via-else-differs_at+then-differs_at-2 w ↦
          simp (some, sym c.differs_at.ensures ∙ w.if-differs_at.false, sym w.differs_at-else-differs_at.ensures ∙ w.if-differs_at-2.true)
      | then-differs_at-via-else-differs_at+else-differs_at-2+then-over_settings w ↦
          simp (
            some,
            sym c.differs_at.ensures ∙ w.if-differs_at.false,
            sym w.differs_at-else-differs_at.ensures ∙ w.if-differs_at-2.false,
            sym w.over_settings.ensures ∙ w.if-over_settings.true,
          )
    ]

pub returns-then-bytes-kept : goal.returns-then-bytes-kept
returns-then-bytes-kept c =
    let m : Marked c.args.bytes.now = record {
      some = sym c.is_empty.ensures ∙ c.if-is_empty.false;
      first = sym c.differs_at.ensures ∙ c.if-differs_at.false;
      second = sym c.differs_at-else-differs_at.ensures ∙ c.if-differs_at-2.false;
      settings = sym c.over_settings.ensures ∙ c.if-over_settings.false;
    } in
    c.short_record.ensures ∙ sym (marked_short _ _ m (omega (arith, c.u16_at-kept.ensures, c.if-bytes-kept.true)))

pub returns : goal.returns
returns c =
    let m : Marked c.args.bytes.now = record {
      some = sym c.is_empty.ensures ∙ c.if-is_empty.false;
      first = sym c.differs_at.ensures ∙ c.if-differs_at.false;
      second = sym c.differs_at-else-differs_at.ensures ∙ c.if-differs_at-2.false;
      settings = sym c.over_settings.ensures ∙ c.if-over_settings.false;
    } in
    ap₂ Slot c.u16_at-kept.ensures c.from.ensures ∙ sym (marked_whole _ c.args.last m (omega (arith, c.u16_at-kept.ensures, c.if-bytes-kept.false)))
