use mathlib.Core.Path.{ap, ◌∙◌}
use Prim.Native.Nat.{ℕ, ◌+◌, ◌*◌}
use lib.ListN.{take}
use Rattle.wire.specs.Number.{to_be}
use Rattle.wire.specs.Store.{placed}
use Rattle.messages.specs.Header.{kind_number}
use Rattle.messages.proofs.HeaderLaws.{number_small}
use Rattle.messages.proofs.WrittenLaws.{header_put}
use Rattle.messages.proofs.put_header.Goals as goal

pub returns : goal.returns
returns c =
    let a = c.args in
    let kind = c.from-2.ensures ∙ c.from.ensures in
    header_put a.out.now _ _ _ _ _ a.total (kind_number a.kind) c.requires.0 (number_small a.kind) c.requires.1
    c.put_octets.ensures c.put_octets-2.ensures c.put_octets-3.ensures c.put_octets-4.ensures
    (c.put_octets-5.ensures ∙ ap (λ (n : ℕ). placed c.put_octets-4.new.out 16 (take 3 (to_be 4 (a.total * 65536 + n * 256)))) kind)
