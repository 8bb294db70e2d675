use Prim.Native.Nat.{ℕ, ◌-◌, ◌%◌}
use mathlib.Core.Path.{◌≡◌, ap, ◌∙◌}
use native.Mathlib.Omega.{arith}
use lib.ListN.{length}
use Rattle.wire.specs.Number.{be_at}
use Rattle.wire.specs.Store.{laid}
use Rattle.route_reader.proofs.WordsLaws.{beyond, address_parts, address_first}
use Rattle.route_reader.proofs.put_exact.Goals as goal

pub returns-then-n-lt4 : goal.returns-then-n-lt4
returns-then-n-lt4 c =
    let a = c.args in
    c.put_words.ensures ∙ ap (laid a.store.now a.to) (address_first a.octets.now _ (omega (arith, c.if-n-lt4.true)) c.u32_at.ensures)

pub returns-then-n-lt8 : goal.returns-then-n-lt8
returns-then-n-lt8 c =
    let a = c.args in
    let t = a.octets.now in
    let full : length t - length t % 4 ≡ 4 = omega (arith, c.if-n-lt8.true, c.if-n-lt4.false) in
    c.put_words-then-n-lt8.ensures
    ∙ ap (laid a.store.now a.to) (address_parts t _ _ _ _ c.u32_at-then-n-lt8.ensures (c.last_word-last.ensures ∙ ap (λ (j : ℕ). be_at t j 4) full) (beyond t 8 (omega (arith, c.if-n-lt8.true))) (beyond t 12 (omega (arith, c.if-n-lt8.true))))

pub returns-then-n-lt12 : goal.returns-then-n-lt12
returns-then-n-lt12 c =
    let a = c.args in
    let t = a.octets.now in
    let full : length t - length t % 4 ≡ 8 = omega (arith, c.if-n-lt12.true, c.if-n-lt8.false) in
    c.put_words-then-n-lt12.ensures
    ∙ ap (laid a.store.now a.to) (address_parts t _ _ _ _ c.u32_at-then-n-lt12.ensures c.u32_at-then-n-lt12-2.ensures (c.last_word-last.ensures ∙ ap (λ (j : ℕ). be_at t j 4) full) (beyond t 12 (omega (arith, c.if-n-lt12.true))))

pub returns-then-n-lt16 : goal.returns-then-n-lt16
returns-then-n-lt16 c =
    let a = c.args in
    let t = a.octets.now in
    let full : length t - length t % 4 ≡ 12 = omega (arith, c.if-n-lt16.true, c.if-n-lt12.false) in
    c.put_words-then-n-lt16.ensures
    ∙ ap (laid a.store.now a.to) (address_parts t _ _ _ _ c.u32_at-then-n-lt16.ensures c.u32_at-then-n-lt16-2.ensures c.u32_at-then-n-lt16-3.ensures (c.last_word-last.ensures ∙ ap (λ (j : ℕ). be_at t j 4) full))

pub returns : goal.returns
returns c =
    let a = c.args in
    c.put_words-2.ensures
    ∙ ap (laid a.store.now a.to) (address_parts a.octets.now _ _ _ _ c.u32_at-2.ensures c.u32_at-3.ensures c.u32_at-4.ensures c.u32_at-5.ensures)
