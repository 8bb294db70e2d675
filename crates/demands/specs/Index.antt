-- An index beside a list of routes (document 02, K9), of the calls themselves: what building answers and leaves, and which route is found, by the list's own
-- index and by any other.
-- Assumes nothing.
use Rattle.std.specs.Prelude.{ℕ, ◌+◌, ◌*◌, ◌/◌, ◌%◌, ◌≤◌, ◌<◌, ◌≡◌, true, false, length, get_or, take, drop, Ok, Err}
use Rattle.std.proofs.Math.Path.{refl, sym, ap₂}
use Rattle.std.proofs.Common.{ap, ◌∙◌, arith}
use mathlib.Core.List.{List, [], map}
use Rattle.std.specs.Borrow.{Bor}
use Rattle.wire.specs.Refusal.{list_limit}
use Rattle.wire.specs.Verdict.{fine}
use Rattle.wire.specs.Walk.{starts, flat}
use Rattle.wire.specs.declared.refusal.Refusal.{Refusal}
use Rattle.wire.specs.declared.refusal.Refusal.TheVariants.{TooLong, NotAnIndex, NoSuchRoute}
use Rattle.families.specs.Family.{max_of}
use Rattle.families.specs.declared.Afi.{Afi}
use Rattle.families.specs.declared.AddPath.{AddPath}
use Rattle.families.specs.declared.Form.{Form}
use Rattle.routes.specs.List.{Reader, up_to, fixed, list_of, hosts_of}
use Rattle.routes.specs.Prefix.{words}
use Rattle.routes.specs.Promises.{count_answer}
use Rattle.routes.specs.declared.Route.{Route}
use Rattle.routes.proofs.ListLaws.{fair, read_stored, told_list}
use Rattle.routes.proofs.count_nlri_list.Reads as count_nlri_list
use Rattle.route_reader.proofs.parse_nlri_list.Reads as parse_nlri_list
use Rattle.route_index.specs.Index.{items_by, index_by, is_index, item_route, no_route, route_by}
use Rattle.route_index.proofs.AskLaws as Ask
use Rattle.route_index.proofs.OwnLaws as Own
use Rattle.route_index.proofs.count_index.Reads as count_index
use Rattle.route_index.proofs.build_index.Reads as build_index
use Rattle.route_index.proofs.route_at.Reads as route_at
use Rattle.demands.specs.Routes.{bytes, family, setting, form_asked, store, told}

-- ---- the words of the statements

-- the call that asks: the bytes, the index, the route's number, the family and the form
abbrev pub index : {A R : Type 0} → A × (Bor (List ℕ) × R) → List ℕ
index asked = asked.1.0.now

abbrev pub number : {A B R : Type 0} → A × (B × (ℕ × R)) → ℕ
number asked = asked.1.1.0

abbrev pub family_of : {A B C R : Type 0} → A × (B × (C × (Afi × R))) → Afi
family_of asked = asked.1.1.1.0

abbrev pub form_of : {A B C D R : Type 0} → A × (B × (C × (D × (Form × R)))) → Form
form_of asked = asked.1.1.1.1.0

-- the items of a list in a form
abbrev pub items : Afi → Form → List ℕ → List (List ℕ)
items afi form s = items_by (up_to (max_of afi)) s form

-- ---- 1. The places are counted by the list's rows, one for each sixteen and one for the rest; a list that is refused is refused so.

module _ (κs : _) (given : _) (answer : _) (exit : _) (call : count_index.Learnt κs given answer exit)
    (κs' : _) (lent : _) (rows : _) (exit' : _) (list : count_nlri_list.Learnt κs' lent rows exit')
    (same : bytes lent ≡ bytes given) (alike : family lent ≡ family given) (on : setting lent ≡ fixed (form_asked given)) where
  counted : told rows ≡ count_answer (bytes given) (list_of (bytes given) (max_of (family given)) (fixed (form_asked given)))
  counted =
      told_list _ (hosts_of (bytes lent) (max_of (family lent)) (setting lent)) rows list
      ∙ ap₂ (λ (s : List ℕ) (afi : Afi). count_answer s (list_of s (max_of afi) (setting lent))) same alike
      ∙ ap (λ (mode : AddPath). count_answer (bytes given) (list_of (bytes given) (max_of (family given)) mode)) on

  pub places_counted : (n : ℕ) → told rows ≡ Ok n → answer ≡ Ok ((n + 15) / 16)
  places_counted n said = call ∙ Own.counted_places (up_to (max_of (family given))) (fair (max_of (family given))) (bytes given) (form_asked given) n (sym counted ∙ said)

  pub places_refused : (why : Refusal) → told rows ≡ Err why → answer ≡ Err why
  places_refused why said = call ∙ Own.counted_refused (up_to (max_of (family given))) (fair (max_of (family given))) (bytes given) (form_asked given) why (sym counted ∙ said)

-- ---- 2. Where it is built, the store holds it from its front: place i is where item 16 i starts.

module _ (κs : _) (given : _) (answer : _) (exit : _) (call : build_index.Learnt κs given answer exit) (n : ℕ) (said : answer ≡ Ok n) where
  abbrev afi : Afi
  afi = family given

  abbrev form : Form
  form = form_asked given

  stands : (length (bytes given) ≤ list_limit) × ((list_of (bytes given) (max_of afi) (fixed form)).verdict ≡ fine) × (length (index_by (up_to (max_of afi)) (bytes given) form) ≡ n)
      × (take n (store exit) ≡ index_by (up_to (max_of afi)) (bytes given) form)
  stands =
      let b = Own.built (up_to (max_of afi)) (fair (max_of afi)) (bytes given) form (store given) n (sym call.0 ∙ said) in
      (b.0, b.1, b.2, ap (take n) call.1 ∙ b.3)

  pub built_places_lem : (length (take n (store exit)) ≡ (length (items afi form (bytes given)) + 15) / 16)
      × ((i : ℕ) → get_or (take n (store exit)) i 0 ≡ get_or (starts 0 (items afi form (bytes given))) (16 * i) 0)
  built_places_lem = (
    ap length stands.3 ∙ Own.own_length (up_to (max_of afi)) (fair (max_of afi)) form (bytes given),
    λ i. ap (λ (l : List ℕ). get_or l i 0) stands.3 ∙ Own.own_places (up_to (max_of afi)) (fair (max_of afi)) form (bytes given) i,
  )

  -- ---- 3. By the list's own index route n is the n-th row of the full list, for every n below the count, and 20 for every other.

  module _ (κs' : _) (asked : _) (route : _) (exit' : _) (ask : route_at.Learnt κs' asked route exit')
      (same : bytes asked ≡ bytes given) (alike : family_of asked ≡ afi) (formed : form_of asked ≡ form) (own : index asked ≡ take n (store exit)) where
    pub own_route_lem : route ≡ get_or (map (item_route form) (items afi form (bytes given))) (number asked) (Err NoSuchRoute)
    own_route_lem =
        ask
        ∙ ap₂ (λ (a : Afi) (f : Form). route_by (up_to (max_of a)) f (bytes asked) (index asked) (number asked)) alike formed
        ∙ ap₂ (λ (s l : List ℕ). route_by (up_to (max_of afi)) form s l (number asked)) same (own ∙ stands.3)
        ∙ Own.own_route_lem (up_to (max_of afi)) (fair (max_of afi)) form (bytes given) stands.0 stands.1 (number asked)

    module _ (κs'' : _) (lent : _) (rows : _) (exit'' : _) (list : parse_nlri_list.Learnt κs'' lent rows exit'')
        (same'' : bytes lent ≡ bytes given) (alike'' : family lent ≡ afi) (on : setting lent ≡ fixed form) (m : ℕ) (read : told rows ≡ Ok m) where
      -- the store of the list's reading has its rows
      rows_stored : (length (list_of (bytes given) (max_of afi) (fixed form)).rows ≡ m)
          × (take (6 * m) (store exit'') ≡ flat words (list_of (bytes given) (max_of afi) (fixed form)).rows)
      rows_stored =
          let r = list_of (bytes lent) (max_of (family lent)) (setting lent) in
          let is = read_stored (bytes lent) r (store lent) m (sym (told_list _ (hosts_of (bytes lent) (max_of (family lent)) (setting lent)) rows list.0) ∙ read) in
          let whole = ap₂ (λ (s : List ℕ) (a : Afi). list_of s (max_of a) (setting lent)) same'' alike'' ∙ ap (list_of (bytes given) (max_of afi)) on in
          (ap (λ x. length x.rows) (sym whole) ∙ is.0, ap (take (6 * m)) list.1 ∙ is.2 ∙ ap (λ x. flat words x.rows) whole)

      pub own_row : number asked < m → (found : Route) × (route ≡ Ok found)
          × (take 6 (drop (6 * number asked) (take (6 * m) (store exit''))) ≡ words found.prefix.row)
      own_row lt =
          let r = Own.route_row (up_to (max_of afi)) (fair (max_of afi)) (bytes given) form (number asked) (omega (arith, lt, rows_stored.0)) in
          (r.0, own_route_lem ∙ r.1, ap (λ (l : List ℕ). take 6 (drop (6 * number asked) l)) rows_stored.1 ∙ r.2)

      pub own_none : m ≤ number asked → route ≡ Err NoSuchRoute
      own_none le = own_route_lem ∙ Own.route_none (up_to (max_of afi)) (fair (max_of afi)) (bytes given) form (number asked) (omega (arith, le, rows_stored.0))

-- ---- 4. By some other index the answer is what reading from the place named there gives: its item, or the refusal before it, or 20 where the items run out.

module _ (κs : _) (asked : _) (route : _) (exit : _) (ask : route_at.Learnt κs asked route exit) where
  abbrev read : Reader
  read = up_to (max_of (family_of asked))

  pub too_long_lem : list_limit < length (bytes asked) → route ≡ Err TooLong
  too_long_lem long = ask ∙ sym (Ask.ask_long read (form_of asked) (bytes asked) (index asked) (number asked) long)

  module _ (short : length (bytes asked) ≤ list_limit) where
    pub not_an_index_lem : is_index (length (bytes asked)) (index asked) ≡ false → route ≡ Err NotAnIndex
    not_an_index_lem other = ask ∙ sym (Ask.ask_other read (form_of asked) (bytes asked) (index asked) (number asked) short other)

    module _ (taken : is_index (length (bytes asked)) (index asked) ≡ true) where
      pub no_start : length (index asked) ≤ number asked / 16 → route ≡ Err NoSuchRoute
      no_start lacks = ask ∙ sym (Ask.ask_lacking read (form_of asked) (bytes asked) (index asked) (number asked) short taken lacks)

      pub other_route : number asked / 16 < length (index asked) →
          let rest = drop (get_or (index asked) (number asked / 16) 0) (bytes asked) in
          route ≡ get_or (map (item_route (form_of asked)) (items (family_of asked) (form_of asked) rest)) (number asked % 16)
          (no_route (list_of rest (max_of (family_of asked)) (fixed (form_of asked))).verdict)
      other_route there =
          ask ∙ Own.other_route read (fair (max_of (family_of asked))) (form_of asked) (bytes asked) (index asked) (number asked) short taken there

-- ---- 5. An empty list has an empty index, and every question gives 20.

module _ (κs : _) (asked : _) (route : _) (exit : _) (ask : route_at.Learnt κs asked route exit) where
  pub empty_list : bytes asked ≡ [] → index asked ≡ [] → route ≡ Err NoSuchRoute
  unfolding is_index
  empty_list none empty =
      ask
      ∙ ap₂ (λ (s l : List ℕ). route_by (up_to (max_of (family_of asked))) (form_of asked) s l (number asked)) none empty
      ∙ sym (Ask.ask_lacking (up_to (max_of (family_of asked))) (form_of asked) [] [] (number asked) (omega arith) refl (omega arith))
