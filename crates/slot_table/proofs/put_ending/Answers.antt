use Rattle.std.proofs.Common.{rules, refl}
use Rattle.slot_table.specs.Table.{ending_text}
use Rattle.slot_table.proofs.LineLaws.{put_fits, put_not}
use Rattle.slot_table.proofs.Growth.{held}
use Rattle.slot_table.proofs.put_ending.Goals as goal

pub returns-then-out-lt-LINE_ROOM-clause-answer : goal.returns-then-out-lt-LINE_ROOM-clause-answer
returns-then-out-lt-LINE_ROOM-clause-answer c = (put_not (ending_text c.args.ending) c.args.out.now c.if-out-lt-LINE_ROOM.true).0

pub returns-then-out-lt-LINE_ROOM-clause-output : goal.returns-then-out-lt-LINE_ROOM-clause-output
returns-then-out-lt-LINE_ROOM-clause-output c = (put_not (ending_text c.args.ending) c.args.out.now c.if-out-lt-LINE_ROOM.true).1

pub returns-clause-answer : goal.returns-clause-answer
returns-clause-answer c = (put_fits (ending_text c.args.ending) _ _ c.if-out-lt-LINE_ROOM.false refl c.ending.ensures).0

pub returns-clause-output : goal.returns-clause-output
returns-clause-output c = held (put_fits (ending_text c.args.ending) _ _ c.if-out-lt-LINE_ROOM.false refl c.ending.ensures).1 (search rules)
