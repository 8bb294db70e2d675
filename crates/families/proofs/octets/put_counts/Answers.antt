use Rattle.families.proofs.CopyLaws.{table_put}
use Rattle.families.proofs.octets.put_counts.Goals as goal

pub returns-in-Ipv4 : goal.returns-in-Ipv4
returns-in-Ipv4 c =
    let is = c.counts-table.ensures in
    rw c.in-Ipv4.is
    (table_put 32 _ c.args.out.now _ is c.put_table.ensures)

pub returns-in-Ipv6 : goal.returns-in-Ipv6
returns-in-Ipv6 c =
    let is = c.counts-table-in-Ipv6.ensures in
    rw c.in-Ipv6.is
    (table_put 128 _ c.args.out.now _ is c.put_table-in-Ipv6.ensures)
