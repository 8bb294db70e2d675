use mathlib.Core.Path.{refl}
use Rattle.families.specs.Octets.{table_of}
use Rattle.families.proofs.octets.counts.Goals as goal

pub returns-in-Ipv4 : goal.returns-in-Ipv4
unfolding table_of
returns-in-Ipv4 c = rw c.in-Ipv4.is refl

pub returns-in-Ipv6 : goal.returns-in-Ipv6
unfolding table_of
returns-in-Ipv6 c = rw c.in-Ipv6.is refl
