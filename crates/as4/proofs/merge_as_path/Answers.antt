use mathlib.Core.Logic.{⊎_elim}
use Prim.Native.Nat.{◌*◌}
use mathlib.Core.List.{List}
use mathlib.Core.Path.{◌≡◌, refl, sym, ap, ◌∙◌}
use native.Mathlib.Omega.{arith}
use lib.ListN.{length}
use Rattle.std.proofs.lemmas.Result.{err_from_is_err_and}
use Rattle.std.specs.Prelude.{Ok, Err}
use Rattle.wire.specs.Store.{laid}
use Rattle.wire.specs.declared.refusal.Refusal.TheVariants.{NoRoom}
use Rattle.paths.specs.Promises.{in_stores}
use Rattle.paths.specs.declared.Path.{Path}
use Rattle.wire.specs.Walk.{flat}
use Rattle.paths.specs.Segment.{Segment, pair_of, asns_of}
use Rattle.paths.proofs.PromiseLaws.{pairs_length, no_pairs, no_numbers, room}
use Rattle.as4.proofs.PlanLaws.{answer_bad}
use Rattle.as4.proofs.MergeStores.{leave, leave_alone, planned_alone, planned_made}
use Rattle.as4.proofs.merge_as_path.Goals as goal

pub returns-in_err-plan_path : goal.returns-in_err-plan_path
returns-in_err-plan_path c =
    let a = c.args in
    let why = err_from_is_err_and c.from_residual.result c.from_residual.ensures.1 in
    let left = leave _ a.pairs.now a.numbers.now _ _ (answer_bad _ _ c.in_err-plan_path.ensures) refl in
    rw (why.1, why.2) (record { answer = left.0; pairs = left.1.0; numbers = left.1.1 })

pub returns-in-Alone : goal.returns-in-Alone
returns-in-Alone c =
    let a = c.args in
    let alone = planned_alone _ _ _ c.in_ok-plan_path.ensures c.in-Alone.is in
    let read = c.parse_as_path.ensures in
    let left = leave_alone _ a.pairs.now a.numbers.now a.as_path.now _ alone.1 alone.0 in
    record { answer = read.answer ∙ left.0; pairs = read.pairs ∙ left.1.0; numbers = read.numbers ∙ left.1.1 }

pub returns-then-pairs-path : goal.returns-then-pairs-path
returns-then-pairs-path c =
    let p = c.args.pairs.now in
    let n = c.args.numbers.now in
    let size = c.in-Built.path in
    let full : in_stores (Ok size) (length p) (length n) ≡ Err NoRoom =
    ⊎_elim (no_pairs size (length p) (length n)) (λ h. no_numbers size (length p) (length n) h.0 h.1) c.then-pairs-path.either in
    let left = leave _ p n _ _ (planned_made _ _ _ c.in_ok-plan_path.ensures c.in-Built.is).1 full in
    record { answer = left.0; pairs = left.1.0; numbers = left.1.1 }

pub fill_built-requires : goal.fill_built-requires
fill_built-requires c =
    let m = (planned_made _ _ _ c.in_ok-plan_path.ensures c.in-Built.is).0 in
    let pairs = sym (ap (λ (l : List Segment). length (flat pair_of l)) m.rows) ∙ pairs_length _ ∙ ap (λ (s : Path). 2 * s.segments) m.size in
    let numbers = sym (ap (λ (l : List Segment). length (flat asns_of l)) m.rows) ∙ ap (λ (s : Path). s.numbers) m.size in
    record {
      short = m.short.0;
      front = m.front;
      good = m.sound;
      room = record { pairs = omega (arith, pairs, c.if-pairs-path.false); numbers = omega (arith, numbers, c.if-numbers-path.false) };
    }

pub returns-else-numbers-path : goal.returns-else-numbers-path
returns-else-numbers-path c =
    let p = c.args.pairs.now in
    let n = c.args.numbers.now in
    let m = planned_made _ _ _ c.in_ok-plan_path.ensures c.in-Built.is in
    let put = c.fill_built.ensures in
    let left = leave _ p n _ _ m.1 (room c.in-Built.path (length p) (length n) c.if-pairs-path.false c.if-numbers-path.false) in
    record {
      answer = left.0;
      pairs = put.pairs ∙ ap (λ (l : List Segment). laid p 0 (flat pair_of l)) (sym m.0.rows) ∙ left.1.0;
      numbers = put.numbers ∙ ap (λ (l : List Segment). laid n 0 (flat asns_of l)) (sym m.0.rows) ∙ left.1.1;
    }
