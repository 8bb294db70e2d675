use mathlib.Core.Path.{sym, ap, ◌∙◌}
use mathlib.Core.List.{List}
use Prim.Native.Nat.{ℕ}
use Rattle.wire.proofs.Turn.{rest}
use Rattle.families.specs.Family.{max_of}
use Rattle.routes.specs.Prefix.{route_of}
use Rattle.routes.specs.List.{up_to}
use Rattle.routes.proofs.PrefixLaws.{passed}
use Rattle.route_index.proofs.AskLaws.{found_none, found_some, ask_long, ask_other, ask_lacking, ask_found}
use Rattle.route_index.proofs.route_at.Goals as goal

pub returns-then-s-gt-LIST_LIMIT : goal.returns-then-s-gt-LIST_LIMIT
returns-then-s-gt-LIST_LIMIT c =
    let a = c.args in
    record { answer = ask_long (up_to (max_of a.afi)) a.form a.s.now a.index.now a.n c.if-s-gt-LIST_LIMIT.true }

pub returns-then-not-is_index : goal.returns-then-not-is_index
returns-then-not-is_index c =
    let a = c.args in
    record { answer = ask_other (up_to (max_of a.afi)) a.form a.s.now a.index.now a.n c.if-s-gt-LIST_LIMIT.false (sym c.if-not-is_index.ensures) }

pub returns-in_default : goal.returns-in_default
returns-in_default c =
    let a = c.args in
    record { answer = ask_lacking (up_to (max_of a.afi)) a.form a.s.now a.index.now a.n c.if-s-gt-LIST_LIMIT.false (sym c.if-not-is_index.ensures) c.in_default.ensures.lookup.3 }

pub returns-in_err-at : goal.returns-in_err-at
returns-in_err-at c =
    let a = c.args in
    let start = c.in-Some.ensures.lookup.3 in
    record {
      answer = passed _ _ c.from_residual.ensures.1
          ∙ ask_found (up_to (max_of a.afi)) a.form a.s.now a.index.now a.n c.if-s-gt-LIST_LIMIT.false (sym c.if-not-is_index.ensures) c.from.result start.0 (c.from.ensures ∙ start.1 0) _ c.in_err-at.ensures;
    }

pub returns-then-s-at : goal.returns-then-s-at
returns-then-s-at c =
    let a = c.args in
    let start = c.in-Some.ensures.lookup.3 in
    record {
      answer = found_none (up_to (max_of a.afi)) a.form a.s.now _ c.if-s-at.true
          ∙ ask_found (up_to (max_of a.afi)) a.form a.s.now a.index.now a.n c.if-s-gt-LIST_LIMIT.false (sym c.if-not-is_index.ensures) c.from.result start.0 (c.from.ensures ∙ start.1 0) _ c.in_ok-at.ensures;
    }

pub returns : goal.returns
unfolding route_of
returns c =
    let a = c.args in
    let start = c.in-Some.ensures.lookup.3 in
    record {
      answer = c.try_parse_prefix.ensures.answer
          ∙ ap (λ (t : List ℕ). route_of t (max_of a.afi) a.form) (rest a.s.now c.in_ok-at.at)
          ∙ found_some (up_to (max_of a.afi)) a.form a.s.now c.in_ok-at.at c.if-s-at.false
          ∙ ask_found (up_to (max_of a.afi)) a.form a.s.now a.index.now a.n c.if-s-gt-LIST_LIMIT.false (sym c.if-not-is_index.ensures) c.from.result start.0 (c.from.ensures ∙ start.1 0) _ c.in_ok-at.ensures;
    }
