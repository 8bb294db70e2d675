use native.Mathlib.Omega.{arith}
use mathlib.Core.Path.{◌≡◌, refl, sym, ap, ◌∙◌}
use mathlib.Core.Bool.{true, false, not}
use borrow.Author.Tests.{lt-ltb, le-ltb}
use Rattle.std.proofs.lemmas.Result.{err_from_is_err_and}
use Rattle.messages.specs.Header.{kind_number, header_size, kind_of, strict_within, is_outside, least_length, most_length}
use Rattle.messages.proofs.HeaderLaws.{Names, read_names, read_unknown, whole_by, contained, opposite, inside_low, inside_high}
use Rattle.messages.proofs.parse_within.Goals as goal

pub returns-then-s-lt-HEADER_SIZE : goal.returns-then-s-lt-HEADER_SIZE
unfolding strict_within
returns-then-s-lt-HEADER_SIZE c = simp (lt-ltb _ _ c.if-s-lt-HEADER_SIZE.true)

pub returns-then-not-marked : goal.returns-then-not-marked
unfolding strict_within
returns-then-not-marked c = rw (← c.marked.ensures) (simp (le-ltb _ _ c.if-s-lt-HEADER_SIZE.false, c.if-not-marked.true))

pub returns-then-not-contains : goal.returns-then-not-contains
unfolding strict_within
returns-then-not-contains c =
    let r = c.new.ensures in
    let outside = contained c.new.result _ _ c.u16_at.result _ r.start r.end r.exhausted c.contains.ensures.value in
    rw (← c.marked.ensures, ← c.u16_at.ensures)
    (simp (le-ltb _ _ c.if-s-lt-HEADER_SIZE.false, c.if-not-marked.false, outside ∙ ap not c.if-not-contains.true))

pub returns-in_err-kind : goal.returns-in_err-kind
unfolding strict_within
returns-in_err-kind c =
    let r = c.new.ensures in
    let outside = contained c.new.result _ _ c.u16_at.result _ r.start r.end r.exhausted c.contains.ensures.value in
    let unknown = read_unknown (kind_of c.args.s.now) c.in_err-kind.field-0.0 (sym c.try_from.ensures ∙ c.in_err-kind.was) in
    let p = err_from_is_err_and c.from_residual.result c.from_residual.ensures.1 in
    rw (p.1, p.2, ← unknown.1, ← c.marked.ensures, ← c.u16_at.ensures)
    (simp (le-ltb _ _ c.if-s-lt-HEADER_SIZE.false, c.if-not-marked.false, outside ∙ ap not c.if-not-contains.false, unknown.0))

pub returns-then-not-allows : goal.returns-then-not-allows
unfolding strict_within
returns-then-not-allows c =
    let s = c.args.s.now in
    let r = c.new.ensures in
    let n : Names (kind_of s) c.in_ok-kind.kind = read_names _ _ (sym c.try_from.ensures ∙ c.in_ok-kind.was) in
    let outside = contained c.new.result _ _ c.u16_at.result _ r.start r.end r.exhausted c.contains.ensures.value in
    let misfit : is_outside (least_length (kind_of s)) (most_length (kind_of s)) c.u16_at.result ≡ true = rw (← n.number_of) (opposite _ _ c.allows.ensures ∙ ap not c.if-not-allows.true) in
    rw (← c.marked.ensures, ← c.u16_at.ensures)
    (simp (le-ltb _ _ c.if-s-lt-HEADER_SIZE.false, c.if-not-marked.false, outside ∙ ap not c.if-not-contains.false, n.known, misfit))

pub returns-then-s-claimed : goal.returns-then-s-claimed
unfolding strict_within
returns-then-s-claimed c =
    let s = c.args.s.now in
    let r = c.new.ensures in
    let n : Names (kind_of s) c.in_ok-kind.kind = read_names _ _ (sym c.try_from.ensures ∙ c.in_ok-kind.was) in
    let outside = contained c.new.result _ _ c.u16_at.result _ r.start r.end r.exhausted c.contains.ensures.value in
    let misfit : is_outside (least_length (kind_of s)) (most_length (kind_of s)) c.u16_at.result ≡ false = rw (← n.number_of) (opposite _ _ c.allows.ensures ∙ ap not c.if-not-allows.false) in
    rw (← c.marked.ensures, ← c.u16_at.ensures)
    (simp (le-ltb _ _ c.if-s-lt-HEADER_SIZE.false, c.if-not-marked.false, outside ∙ ap not c.if-not-contains.false, n.known, misfit, lt-ltb _ _ c.if-s-claimed.true))

pub returns : goal.returns
returns c =
    let s = c.args.s.now in
    let e = c.u16_at.ensures in
    let r = c.new.ensures in
    let n : Names (kind_of s) c.in_ok-kind.kind = read_names _ _ (sym c.try_from.ensures ∙ c.in_ok-kind.was) in
    let outside = contained c.new.result _ _ c.u16_at.result _ r.start r.end r.exhausted c.contains.ensures.value in
    let inside : is_outside header_size c.args.limit c.u16_at.result ≡ false = outside ∙ ap not c.if-not-contains.false in
    let kind = kind_number c.in_ok-kind.kind in
    let own : is_outside (least_length kind) (most_length kind) c.u16_at.result ≡ false = opposite _ _ c.allows.ensures ∙ ap not c.if-not-allows.false in
    let whole = whole_by c.args.limit s (record {
      long = c.if-s-lt-HEADER_SIZE.false;
      ones = sym c.marked.ensures ∙ c.if-not-marked.false;
      claims = omega (arith, e, inside_low _ _ _ inside);
      within = omega (arith, e, inside_high _ _ _ inside);
      known = n.known;
      least = omega (arith, e, inside_low _ _ _ own, ap least_length n.number_of);
      most = omega (arith, e, inside_high _ _ _ own, ap most_length n.number_of);
      there = omega (arith, e, c.if-s-claimed.false);
    }) in
    rw (whole, n.named, ← e) refl
