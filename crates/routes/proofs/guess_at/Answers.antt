use Prim.Native.Nat.{ℕ, ◌-◌}
use mathlib.Core.Bool.{Bool, false}
use mathlib.Core.List.{List}
use mathlib.Core.Path.{◌≡◌, refl, sym, ap, ◌∙◌}
use native.Mathlib.Nat.{add-zero}
use lib.ListN.{length, get_or, take, drop}
use lib.Seq.{get_or-drop}
use Rattle.std.specs.Prelude.{Result, Err}
use Rattle.wire.proofs.Turn.{rest}
use Rattle.wire.specs.declared.refusal.Refusal.{Refusal}
use Rattle.families.specs.declared.AddPath.TheVariants.{Guess}
use Rattle.families.specs.declared.Form.{Form}
use Rattle.families.specs.declared.Form.TheVariants.{Plain, Tagged}
use Rattle.routes.specs.ByTable.{by_table}
use Rattle.routes.specs.List.{plain_here, step_by}
use Rattle.routes.specs.Promises.{sized}
use Rattle.routes.specs.Private.{size_of}
use Rattle.routes.proofs.PrefixLaws.{passed}
use Rattle.routes.proofs.ListLaws.{kept, size_step, size_fixed, guess_plain, guess_tagged, guess_else}
use Rattle.routes.proofs.guess_at.Goals as goal

-- the byte at a place, and an item's size, of what stands from there on
first : (s : List ℕ) (n : ℕ) → get_or (drop n s) 0 0 ≡ get_or s n 0
first s n = get_or-drop n s 0 0 ∙ ap (λ (i : ℕ). get_or s i 0) (add-zero n)

plain_from : (form : Form) (s : List ℕ) (n : ℕ) (r x : Bool) → r ≡ plain_here form (get_or s n 0) → r ≡ x → plain_here form (get_or (drop n s) 0 0) ≡ x
plain_from form s n r x e f = ap (plain_here form) (first s n) ∙ sym e ∙ f

size_from : (counts s : List ℕ) (n : ℕ) (form : Form) → size_of (by_table counts (take (length s - n) (drop n s)) form) ≡ size_of (by_table counts (drop n s) form)
size_from counts s n form = ap (λ (l : List ℕ). size_of (by_table counts l form)) (rest s n)

pub returns-then-plain_at : goal.returns-then-plain_at
returns-then-plain_at c =
    let a = c.args in
    let counts = a.counts.now in
    let s = a.s.now in
    c.form_size.ensures
    ∙ sym (size_fixed (by_table counts) Plain _ _ refl)
    ∙ size_step (by_table counts) Guess a.form Plain (drop a.n s) _ (size_from counts s a.n Plain)
    (guess_plain (by_table counts) a.form (drop a.n s) (plain_from a.form s a.n _ _ c.plain_at.ensures c.if-plain_at.true))

pub returns-in-Ok : goal.returns-in-Ok
returns-in-Ok c =
    let a = c.args in
    let counts = a.counts.now in
    let s = a.s.now in
    let size = c.in-Ok.ensures ∙ size_from counts s a.n Tagged in
    size_step (by_table counts) Guess a.form Tagged (drop a.n s) _ size
    (guess_tagged (by_table counts) a.form (drop a.n s) _ (plain_from a.form s a.n _ _ c.plain_at.ensures c.if-plain_at.false) (sym size))

-- where the place is read again without an id, a size there is the step's
again : (counts s : List ℕ) (n : ℕ) (form : Form) (why : Refusal) (size : Result ℕ Refusal) → plain_here form (get_or (drop n s) 0 0) ≡ false
    → Err why ≡ size_of (by_table counts (take (length s - n) (drop n s)) Tagged)
    → size ≡ size_of (by_table counts (take (length s - n) (drop n s)) Plain)
    → kept size Plain ≡ sized (step_by (by_table counts) Guess form (drop n s))
again counts s n form why size byte tagged plain =
    size_step (by_table counts) Guess form Plain (drop n s) size (plain ∙ size_from counts s n Plain)
    (guess_else (by_table counts) form (drop n s) why byte (sym (tagged ∙ size_from counts s n Tagged)))

pub returns-in_err-used : goal.returns-in_err-used
returns-in_err-used c =
    let a = c.args in
    passed _ _ c.from_residual.ensures.1
    ∙ again a.counts.now a.s.now a.n a.form _ _ (plain_from a.form a.s.now a.n _ _ c.plain_at.ensures c.if-plain_at.false) c.in_default.ensures c.in_err-used.ensures

pub returns : goal.returns
returns c =
    let a = c.args in
    again a.counts.now a.s.now a.n a.form _ _ (plain_from a.form a.s.now a.n _ _ c.plain_at.ensures c.if-plain_at.false) c.in_default.ensures c.in_ok-used.ensures
