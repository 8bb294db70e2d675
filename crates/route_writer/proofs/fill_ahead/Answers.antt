use Rattle.route_writer.proofs.fill_ahead.Goals as goal

pub fill_short-requires : goal.fill_short-requires
fill_short-requires c = rw c.in-Ipv4.is at c.requires

pub fill_long-requires : goal.fill_long-requires
fill_long-requires c = rw c.in-Ipv6.is at c.requires

pub returns-in-Ipv4 : goal.returns-in-Ipv4
returns-in-Ipv4 c = rw c.in-Ipv4.is c.fill_short.ensures

pub returns-in-Ipv6 : goal.returns-in-Ipv6
returns-in-Ipv6 c = rw c.in-Ipv6.is c.fill_long.ensures
