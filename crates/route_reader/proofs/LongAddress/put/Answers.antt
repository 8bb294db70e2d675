use mathlib.Core.Path.{◌≡◌, ap, ◌∙◌}
use mathlib.Core.List.{[], ◌∷◌}
use native.Mathlib.Omega.{arith}
use lib.Bits.{bit_and}
use Rattle.wire.specs.Number.{Bytes}
use Rattle.wire.specs.Store.{laid}
use Rattle.route_reader.proofs.WordsLaws.{masked_first, two_by_two, address_parts}
use Rattle.route_reader.proofs.LongAddress.put.Goals as goal

pub returns : goal.returns
returns c =
    let a = c.args in
    let bytes : Bytes a.s.now = λ i. (c.type_inv.s i).fits in
    let word = masked_first a.s.now a.self.now.masks a.n bytes a.self.now.are c.requires.octets.few in
    let x = c.u32_at in
    let x' = c.u32_at-2 in
    let y = c.u32_at-3 in
    let y' = c.u32_at-4 in
    let half : c.put_pair.new.store ≡ laid a.store.now a.to (bit_and x.result x'.result ∷ bit_and y.result y'.result ∷ []) = c.put_pair.ensures in
    two_by_two a.store.now _ _ a.to _ _ _ _ c.requires.to_in_bounds half c.put_pair-2.ensures
    ∙ ap (laid a.store.now a.to) (address_parts _ _ _ _ _
    (word 0 _ _ (omega arith) x.ensures x'.ensures)
    (word 4 _ _ (omega arith) y.ensures y'.ensures)
    (word 8 _ _ (omega arith) c.u32_at-5.ensures c.u32_at-6.ensures)
    (word 12 _ _ (omega arith) c.u32_at-7.ensures c.u32_at-8.ensures))
