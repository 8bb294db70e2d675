use Rattle.std.proofs.Common.{◌≡◌, ℕ, ◌+◌, ◌*◌, Bool, ◌&&◌, List, ◌++◌, drop, sym, refl, ap, ◌∙◌, ap₂, arith}
use Rattle.wire.specs.Number.{to_be}
use Rattle.route_bytes.specs.Encode.{four_words, all_zero}
use Rattle.route_bytes.proofs.EncodeLaws.{halves, zero_sum, zero_early, zero_late, zero_none}
use Rattle.route_bytes.proofs.clear_past.Goals as goal

pub returns-then-max-le32 : goal.returns-then-max-le32
returns-then-max-le32 c =
    let past : (y : ℕ) → let a = c.args in y ≡ a.w2 * 4294967296 + a.w3
    → all_zero (drop a.n (to_be 8 c.joined-x.result ++ to_be 8 y)) ≡ all_zero (drop a.n (four_words a.w0 a.w1 a.w2 a.w3)) = λ y e. let a = c.args in
    ap (λ (s : List ℕ). all_zero (drop a.n s))
    (ap₂ (λ (x z : ℕ). to_be 8 x ++ to_be 8 z) c.joined-x.ensures e
    ∙ sym (halves a.w0 a.w1 a.w2 a.w3 (omega arith) (omega arith) (omega arith) (omega arith))) in
    let a = c.args in
    let y : ℕ = a.w2 * 4294967296 + a.w3 in
    c.clear_early.ensures
    ∙ ap (λ (t : Bool). all_zero (drop a.n (to_be 8 c.joined-x.result)) && t) (zero_sum a.w2 a.w3)
    ∙ sym (zero_early a.n c.joined-x.result y (omega arith) (omega arith))
    ∙ past y refl

pub returns-then-n-lt8 : goal.returns-then-n-lt8
returns-then-n-lt8 c =
    let past : (y : ℕ) → let a = c.args in y ≡ a.w2 * 4294967296 + a.w3
    → all_zero (drop a.n (to_be 8 c.joined-x.result ++ to_be 8 y)) ≡ all_zero (drop a.n (four_words a.w0 a.w1 a.w2 a.w3)) = λ y e. let a = c.args in
    ap (λ (s : List ℕ). all_zero (drop a.n s))
    (ap₂ (λ (x z : ℕ). to_be 8 x ++ to_be 8 z) c.joined-x.ensures e
    ∙ sym (halves a.w0 a.w1 a.w2 a.w3 (omega arith) (omega arith) (omega arith) (omega arith))) in
    c.clear_early-then-n-lt8.ensures
    ∙ sym (zero_early c.args.n c.joined-x.result c.joined-y.result (omega arith) (omega arith))
    ∙ past c.joined-y.result c.joined-y.ensures

pub returns-then-n-eq16 : goal.returns-then-n-eq16
returns-then-n-eq16 c =
    let past : (y : ℕ) → let a = c.args in y ≡ a.w2 * 4294967296 + a.w3
    → all_zero (drop a.n (to_be 8 c.joined-x.result ++ to_be 8 y)) ≡ all_zero (drop a.n (four_words a.w0 a.w1 a.w2 a.w3)) = λ y e. let a = c.args in
    ap (λ (s : List ℕ). all_zero (drop a.n s))
    (ap₂ (λ (x z : ℕ). to_be 8 x ++ to_be 8 z) c.joined-x.ensures e
    ∙ sym (halves a.w0 a.w1 a.w2 a.w3 (omega arith) (omega arith) (omega arith) (omega arith))) in
    sym (zero_none c.args.n c.joined-x.result c.joined-y.result c.if-n-eq16.true) ∙ past c.joined-y.result c.joined-y.ensures

pub returns : goal.returns
returns c =
    let past : (y : ℕ) → let a = c.args in y ≡ a.w2 * 4294967296 + a.w3
    → all_zero (drop a.n (to_be 8 c.joined-x.result ++ to_be 8 y)) ≡ all_zero (drop a.n (four_words a.w0 a.w1 a.w2 a.w3)) = λ y e. let a = c.args in
    ap (λ (s : List ℕ). all_zero (drop a.n s))
    (ap₂ (λ (x z : ℕ). to_be 8 x ++ to_be 8 z) c.joined-x.ensures e
    ∙ sym (halves a.w0 a.w1 a.w2 a.w3 (omega arith) (omega arith) (omega arith) (omega arith))) in
    c.clear_half.ensures
    ∙ sym (zero_late c.args.n c.joined-x.result c.joined-y.result (omega arith))
    ∙ past c.joined-y.result c.joined-y.ensures
