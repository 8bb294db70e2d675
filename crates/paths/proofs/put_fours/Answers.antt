use Prim.Native.Nat.{ℕ, ◌+◌, ◌-◌, ◌*◌, ◌/◌, ◌≤◌, ◌<◌}
use mathlib.Core.Path.{◌≡◌, ap, ◌∙◌}
use native.Mathlib.Omega.{arith}
use lib.ListN.{length}
use Rattle.asns.specs.Asn.{width_of}
use Rattle.paths.proofs.NumberTurn.{numbers_none, numbers_all, block_there, block_put}
use Rattle.paths.proofs.put_fours.Goals as goal

-- a block of four starts before the last one
inside : (i n : ℕ) → i < (n - 1) / 4 → 4 * i + 4 ≤ n
inside i n h = omega arith

pub loop-i-init : goal.loop-i-init
loop-i-init c = numbers_none _ _ _

pub slice_bounds-put_four-count : goal.slice_bounds-put_four-count
slice_bounds-put_four-count c =
    (block_there _ _ 4 (4 * c.loop-i.i) _ _ (ap (λ (k : ℕ). 4 * c.loop-i.i * k) c.asn_bytes-w.ensures) (inside _ _ c.loop-i-test.true) c.requires).0

pub slice_bounds-put_four-start : goal.slice_bounds-put_four-start
slice_bounds-put_four-start c = let far = (block_there _ _ 4 (4 * c.loop-i.i) _ _ (ap (λ (k : ℕ). 4 * c.loop-i.i * k) c.asn_bytes-w.ensures) (inside _ _ c.loop-i-test.true) c.requires).0 in omega (arith, far)

pub put_four-requires-clause-bytes_in_bounds : goal.put_four-requires-clause-bytes_in_bounds
put_four-requires-clause-bytes_in_bounds c =
    (block_there _ _ 4 (4 * c.loop-i.i) _ _ (ap (λ (k : ℕ). 4 * c.loop-i.i * k) c.asn_bytes-w.ensures) (inside _ _ c.loop-i-test.true) c.requires).1

pub loop-i-preserved : goal.loop-i-preserved
loop-i-preserved c =
    let a = c.args in
    let next : 4 * c.loop-i.i + 4 ≡ 4 * (c.loop-i.i + 1) = omega arith in
    rw (← next)
    (block_put (width_of a.width) a.bytes.now a.numbers.now c.loop-i.numbers (4 * c.loop-i.i) 4 (4 * c.loop-i.i) (omega arith) (omega arith) (inside _ _ c.loop-i-test.true) c.loop-i.invariant
    _ _ _ (ap (λ (k : ℕ). 4 * c.loop-i.i * k) c.asn_bytes-w.ensures) (omega arith) c.put_four.ensures)

pub slice_bounds-put_four-count-2 : goal.slice_bounds-put_four-count-2
slice_bounds-put_four-count-2 c =
    let a = c.args in
    (block_there _ _ 4 _ _ _ (ap (λ (k : ℕ). (length a.numbers.now - 4) * k) c.asn_bytes-w.ensures) (omega arith) c.requires).0

pub slice_bounds-put_four-start-2 : goal.slice_bounds-put_four-start-2
slice_bounds-put_four-start-2 c =
    let a = c.args in
    let far = (block_there _ _ 4 _ _ _ (ap (λ (k : ℕ). (length a.numbers.now - 4) * k) c.asn_bytes-w.ensures) (omega arith) c.requires).0 in omega (arith, far)

pub put_four-requires-2-clause-bytes_in_bounds : goal.put_four-requires-2-clause-bytes_in_bounds
put_four-requires-2-clause-bytes_in_bounds c =
    let a = c.args in
    (block_there _ _ 4 _ _ _ (ap (λ (k : ℕ). (length a.numbers.now - 4) * k) c.asn_bytes-w.ensures) (omega arith) c.requires).1

pub returns : goal.returns
returns c =
    let a = c.args in
    let w : ℕ = width_of a.width in
    let n : ℕ = length a.numbers.now in
    block_put w a.bytes.now a.numbers.now c.loop-i.numbers (n - 4) 4 (4 * c.loop-i.i) (omega arith) (omega arith) (omega arith) c.loop-i.invariant
    _ _ _ (ap (λ (k : ℕ). (n - 4) * k) c.asn_bytes-w.ensures) (omega arith) c.put_four-2.ensures
    ∙ numbers_all w a.bytes.now a.numbers.now (n - 4 + 4) (omega arith)
