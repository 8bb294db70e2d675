use mathlib.Core.Path.{refl, sym, ◌∙◌}
use lib.Seq.{length-take-le}
use Rattle.wire.specs.Number.{be_at}
use Rattle.wire.proofs.NumberLaws.{be_between}
use Rattle.route_reader.proofs.id_of.Goals as goal

pub slice_bounds-u32_at-end : goal.slice_bounds-u32_at-end
slice_bounds-u32_at-end c = sym (length-take-le 4 c.args.s.now (rw c.in-Tagged.is at c.requires))

pub returns-in-Plain : goal.returns-in-Plain
unfolding be_at
returns-in-Plain c = rw c.in-Plain.is

pub returns-in-Tagged : goal.returns-in-Tagged
returns-in-Tagged c = rw c.in-Tagged.is (c.u32_at.ensures ∙ be_between c.args.s.now 0 4 4 refl)
