use mathlib.Core.Path.{◌≡◌, refl, sym, ap, ◌∙◌}
use mathlib.Core.List.{List, ◌++◌}
use Prim.Native.Nat.{ℕ, ◌+◌, ◌-◌, ◌*◌, ◌/◌, ◌%◌}
use native.Mathlib.Omega.{arith}
use lib.ListN.{length, get_or, take, drop}
use lib.Seq.{length-take-le}
use Rattle.wire.specs.Number.{to_be}
use Rattle.wire.specs.Store.{laid}
use Rattle.wire.proofs.StoreLaws.{laid_nil, laid_between}
use Rattle.route_bytes.specs.Encode.{address}
use Rattle.route_writer.specs.Private.{row_at}
use Rattle.route_writer.proofs.Octets.{octets_next}
use borrow.Author.Rules.{rules}
use Rattle.route_writer.proofs.put_octets.Goals as goal

pub loop-i-init : goal.loop-i-init
loop-i-init c = let a = c.args in (omega arith, refl, sym (laid_nil a.out.now a.to))

pub loop-i-preserved : goal.loop-i-preserved
loop-i-preserved c =
    let a = c.args in
    let i = c.loop-i.i in
    let w = to_be 4 (get_or a.rows.now (a.at + 2 + i) 0) in
    let more : 4 * i + 4 ≡ 4 * (i + 1) = omega arith in (
      omega arith,
      search rules,
      c.put_word.ensures
          ∙ ap (λ (d : List ℕ). laid d (a.to + 4 * i) w) c.loop-i.invariant.2
          ∙ octets_next a.rows.now a.at a.out.now a.to i 4 _ (omega arith) (omega arith) (omega arith) more,
    )

pub shape_of-out-then-left-eq0 : goal.shape_of-out-then-left-eq0
shape_of-out-then-left-eq0 c = c.loop-i.invariant.1

pub returns-then-left-eq0 : goal.returns-then-left-eq0
returns-then-left-eq0 c =
    let a = c.args in
    let all : 4 * c.loop-i.i ≡ a.n = omega (arith, c.loop-i.invariant.0) in
    c.loop-i.invariant.2 ∙ ap (λ (k : ℕ). laid a.out.now a.to (take k (address (row_at a.rows.now a.at)))) all

pub returns : goal.returns
returns c =
    let a = c.args in
    let q = a.n / 4 in
    let m = a.n % 4 in
    let d = c.loop-i.out in
    let start = a.to + 4 * q in
    let end = start + m in
    let last = take m (to_be 4 (get_or a.rows.now (a.at + 2 + q) 0)) in
    let all : 4 * q + m ≡ a.n = omega arith in
    let turns : c.loop-i.i ≡ q = omega (arith, c.loop-i.invariant.0) in
    let size : length last ≡ m = length-take-le m (to_be 4 (get_or a.rows.now (a.at + 2 + q) 0)) (omega arith) in
    ap (λ (o : List ℕ). take start d ++ (o ++ drop (end - start) (drop start d))) c.put_octets.ensures
    ∙ laid_between d start end last (ap (λ (k : ℕ). start + k) size) (omega (arith, c.loop-i.invariant.1))
    ∙ ap (λ (o : List ℕ). laid o start last) (c.loop-i.invariant.2 ∙ ap (λ (k : ℕ). laid a.out.now a.to (take (4 * k) (address (row_at a.rows.now a.at)))) turns)
    ∙ octets_next a.rows.now a.at a.out.now a.to q m _ (omega arith) (omega arith) (omega arith) all
