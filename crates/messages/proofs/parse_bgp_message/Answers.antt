use borrow.Author.Tests.{lt-ltb, le-ltb}
use native.Mathlib.Nat.{le-min}
use native.Mathlib.Omega.{arith}
use Prim.Native.Nat.{◌-◌, ◌≤◌, ◌<◌}
use mathlib.Core.Path.{sym, ap, ◌∙◌}
use lib.ListN.{length}
use Rattle.std.proofs.lemmas.Result.{err_from_is_err_and}
use Rattle.messages.specs.Header.{header_size, kind_of, message_of, crate_limit}
use Rattle.messages.proofs.HeaderLaws.{Names, read_names, read_unknown, message_over, message_taken}
use Rattle.messages.proofs.parse_bgp_message.Goals as goal

pub returns-then-s-lt-HEADER_SIZE : goal.returns-then-s-lt-HEADER_SIZE
unfolding message_of
returns-then-s-lt-HEADER_SIZE c = simp (lt-ltb _ _ c.if-s-lt-HEADER_SIZE.true)

pub returns-then-claimed-lt-HEADER_SIZE : goal.returns-then-claimed-lt-HEADER_SIZE
unfolding message_of
returns-then-claimed-lt-HEADER_SIZE c = rw (← c.u16_at-claimed.ensures) (simp (le-ltb _ _ c.if-s-lt-HEADER_SIZE.false, lt-ltb _ _ c.if-claimed-lt-HEADER_SIZE.true))

pub returns-in_err-kind : goal.returns-in_err-kind
unfolding message_of
returns-in_err-kind c =
    let s = c.args.s.now in
    let unknown = read_unknown (kind_of s) c.in_err-kind.field-0.0 (sym c.try_from.ensures ∙ c.in_err-kind.was) in
    let p = err_from_is_err_and c.from_residual.result c.from_residual.ensures.1 in
    rw (p.1, p.2, ← unknown.1, ← c.u16_at-claimed.ensures)
    (simp (le-ltb _ _ c.if-s-lt-HEADER_SIZE.false, le-ltb _ _ c.if-claimed-lt-HEADER_SIZE.false, unknown.0))

pub returns-then-crate_limit-claimed : goal.returns-then-crate_limit-claimed
returns-then-crate_limit-claimed c =
    let n : Names (kind_of c.args.s.now) c.in_ok-kind.kind = read_names _ _ (sym c.try_from.ensures ∙ c.in_ok-kind.was) in
    let over : crate_limit (kind_of c.args.s.now) < c.u16_at-claimed.result = omega (arith, c.if-crate_limit-claimed.true, c.crate_limit.ensures, ap crate_limit n.number_of) in
    message_over c.args.s.now _ c.u16_at-claimed.ensures c.if-s-lt-HEADER_SIZE.false c.if-claimed-lt-HEADER_SIZE.false n.known (lt-ltb _ _ over)

pub overflow_sub-taken : goal.overflow_sub-taken
overflow_sub-taken c = rw c.min-taken.ensures (le-min c.if-claimed-lt-HEADER_SIZE.false c.if-s-lt-HEADER_SIZE.false)

pub returns-then-s-taken : goal.returns-then-s-taken
unfolding message_of
returns-then-s-taken c =
    let n : Names (kind_of c.args.s.now) c.in_ok-kind.kind = read_names _ _ (sym c.try_from.ensures ∙ c.in_ok-kind.was) in
    let under : c.u16_at-claimed.result ≤ crate_limit (kind_of c.args.s.now) = omega (arith, c.if-crate_limit-claimed.false, c.crate_limit.ensures, ap crate_limit n.number_of) in
    let short : length c.args.s.now - header_size < c.min-taken.result - header_size = omega (arith, c.if-s-taken.true) in
    rw (← c.u16_at-claimed.ensures, ← c.min-taken.ensures)
    (simp (le-ltb _ _ c.if-s-lt-HEADER_SIZE.false, le-ltb _ _ c.if-claimed-lt-HEADER_SIZE.false, n.known, le-ltb _ _ under, lt-ltb _ _ short))

pub returns : goal.returns
returns c =
    let s = c.args.s.now in
    let n : Names (kind_of s) c.in_ok-kind.kind = read_names _ _ (sym c.try_from.ensures ∙ c.in_ok-kind.was) in
    let under : c.u16_at-claimed.result ≤ crate_limit (kind_of s) = omega (arith, c.if-crate_limit-claimed.false, c.crate_limit.ensures, ap crate_limit n.number_of) in
    rw (← n.named)
    (message_taken s _ c.u16_at-claimed.ensures c.if-s-lt-HEADER_SIZE.false c.if-claimed-lt-HEADER_SIZE.false n.known _ _ c.min-taken.ensures c.marked.ensures
    (le-ltb _ _ under) c.if-s-taken.false)
