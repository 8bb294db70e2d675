use Rattle.std.proofs.Common.{◌-◌, length}
use Rattle.slot_table.proofs.TableLaws.{Going}
use Rattle.slot_table.proofs.put_records.Given as goal

abbrev pub invariant-loop-kept : goal.invariant-loop-kept
invariant-loop-kept l = Going l.block l.last l.first l.initial.text l.text l.used l.nth

abbrev pub decreases-loop-kept : goal.decreases-loop-kept
decreases-loop-kept l = length l.block - l.used
