use mathlib.Core.Path.{sym, ap, ◌∙◌}
use mathlib.Core.List.{List, ◌++◌}
use Prim.Native.Nat.{ℕ}
use lib.ListN.{drop}
use Rattle.families.specs.Family.{max_of}
use Rattle.routes.specs.List.{up_to}
use Rattle.routes.proofs.PrefixLaws.{passed}
use Rattle.route_index.proofs.IndexLaws.{count_family, fits_table, put_table, build_refused, build_full}
use Rattle.route_index.proofs.build_index.Goals as goal

pub returns-in_err-n : goal.returns-in_err-n
returns-in_err-n c =
    let a = c.args in
    let both = build_refused (up_to (max_of a.afi)) a.s.now a.form a.places.now _ (sym (c.in_err-n.ensures ∙ count_family _ a.afi c.counts-counts.ensures a.s.now a.form)) in
    record { answer = passed _ _ c.from_residual.ensures.1 ∙ both.0; store = both.1 }

pub returns-then-places-n : goal.returns-then-places-n
returns-then-places-n c =
    let a = c.args in
    let both = build_full (up_to (max_of a.afi)) a.s.now a.form a.places.now _ (sym (c.in_ok-n.ensures ∙ count_family _ a.afi c.counts-counts.ensures a.s.now a.form)) c.if-places-n.true in
    record { answer = both.0; store = both.1 }

pub invariant_of-items : goal.invariant_of-items
invariant_of-items c =
    let a = c.args in
    record { short = (fits_table _ a.afi c.counts-counts.ensures a.s.now a.form a.places.now _ c.in_ok-n.ensures c.if-places-n.false).0 }

pub put_places-requires : goal.put_places-requires
put_places-requires c =
    let a = c.args in
    let both = fits_table _ a.afi c.counts-counts.ensures a.s.now a.form a.places.now _ c.in_ok-n.ensures c.if-places-n.false in
    both.1

pub returns : goal.returns
returns c =
    let a = c.args in
    let both = put_table _ a.afi c.counts-counts.ensures a.s.now a.form a.places.now _ c.in_ok-n.ensures c.if-places-n.false in
    record { answer = both.0; store = ap (λ (l : List ℕ). l ++ drop c.in_ok-n.n a.places.now) c.put_places.ensures ∙ both.1 }
