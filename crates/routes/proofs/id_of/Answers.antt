use Rattle.wire.specs.Number.{be_at}
use Rattle.routes.proofs.id_of.Goals as goal

pub returns-in-Plain : goal.returns-in-Plain
unfolding be_at
returns-in-Plain c = rw c.in-Plain.is

pub returns-in-Tagged : goal.returns-in-Tagged
returns-in-Tagged c = rw c.in-Tagged.is c.u32_at.ensures
