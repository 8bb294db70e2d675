-- One route by a table of octet counts, whichever it is: what the calls answer that are lent one. By a family's table it is the RFC's (proofs/TableLaws.antt).
use Rattle.std.specs.Prelude.{ℕ, ◌+◌, List, length, get_or, take, ltb, leb, eqb, Ok, Err}
use Rattle.wire.specs.Choice.{pick}
use Rattle.wire.specs.declared.refusal.Refusal.TheVariants.{Truncated, PrefixLength}
use Rattle.families.specs.Family.{id_size}
use Rattle.families.specs.Octets.{refused_length, entry}
use Rattle.families.specs.declared.Form.{Form}
use Rattle.routes.specs.Prefix.{item_row, prefix_with}
use Rattle.routes.specs.List.{Reader}

-- the bytes of the item at the front: id, length byte, and the octets that the table says
abbrev pub end_by : List ℕ → Form → List ℕ → ℕ
end_by counts form s = id_size form + 1 + entry counts (get_or s (id_size form) 0)

-- the item at the front: id and length byte there, 2; a length that the table refuses, 7; the octets there, 2
unfoldable pub by_table : List ℕ → Reader
by_table counts s form =
    let k : ℕ = id_size form in
    pick (ltb k (length s))
    (pick (eqb (entry counts (get_or s k 0)) refused_length)
    (Err PrefixLength)
    (pick (leb (end_by counts form s) (length s))
    (Ok (prefix_with (end_by counts form s) (item_row form (take (end_by counts form s) s))))
    (Err Truncated)))
    (Err Truncated)
