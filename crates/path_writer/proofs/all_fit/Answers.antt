use mathlib.Core.Path.{sym}
use Rattle.path_writer.proofs.NumberPut.{all_four}
use Rattle.path_writer.proofs.all_fit.Goals as goal

pub returns-in-Bits16 : goal.returns-in-Bits16
returns-in-Bits16 c = rw c.in-Bits16.is c.all_narrow.ensures

pub returns-in-Bits32 : goal.returns-in-Bits32
returns-in-Bits32 c = rw c.in-Bits32.is (sym (all_four c.args.numbers.now (λ i. (c.type_inv.numbers i).fits) c.args.n c.args.from c.requires))
