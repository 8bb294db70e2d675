-- A loop over items in one form that carries an item which is not counted yet, from its length byte on: what it is, and what comes after it.
-- Assumes nothing.
use Prim.Native.Nat.{ℕ, ◌+◌, ◌-◌, ◌≤◌, ◌<◌}
use mathlib.Core.Path.{◌≡◌, refl, sym, ap, subst, ◌∙◌}
use mathlib.Core.List.{List}
use native.Mathlib.Nat.{lt_of_not-le}
use native.Mathlib.Decide.{dec_le}
use native.Mathlib.Omega.{arith}
use lib.ListN.{length, get_or, take, drop, length-drop}
use lib.Seq.{drop-drop, get_or-drop}
use Rattle.wire.proofs.Turn.{rest}
use Rattle.std.specs.Prelude.{Result, Ok, Err}
use Rattle.wire.specs.Answer.{flag}
use Rattle.wire.specs.Refusal.{list_limit}
use Rattle.wire.specs.declared.refusal.Refusal.{Refusal}
use Rattle.wire.specs.declared.refusal.Refusal.TheVariants.{Truncated, PrefixLength}
use Rattle.wire.specs.Walk.{stop}
use Rattle.families.specs.Family.{id_size}
use Rattle.families.specs.Octets.{refused_length, entry}
use Rattle.families.proofs.FamilyLaws.{id_one}
use Rattle.families.specs.declared.Form.{Form}
use Rattle.routes.specs.Prefix.{host_bits}
use Rattle.routes.specs.List.{as_step, fixed}
use Rattle.routes.specs.ByTable.{end_by, by_table}
use Rattle.routes.specs.Promises.{count_list}
use Rattle.routes.specs.Private.{past_length}
use Rattle.routes.specs.declared.Routes.{Routes}
use Rattle.routes.proofs.ListLaws.{tells_fixed, Tallied, tallied_start, tallied_step, tallied_few, tallied_stop, tallied_done, fixed_step}
use Rattle.routes.proofs.TableLaws.{table_none, table_long, table_short, table_took, fair_table}
use Rattle.routes.proofs.HostLaws.{host_at}

-- what counting answers
abbrev pub Counts : List ℕ → Form → List ℕ → Result Routes Refusal → Type 0
Counts counts form s a = a ≡ count_list (by_table counts) s (fixed form)

abbrev counted : ℕ → ℕ → Result Routes Refusal
counted rows hosts = Ok (record { rows = rows; hosts = hosts })

-- ---- a list that is empty, or whose first length byte is not there

module _ (counts s : List ℕ) (form : Form) (small : length s ≤ list_limit) where
  pub pending_empty : length s ≡ 0 → Counts counts form s (counted 0 0)
  pending_empty none =
      tells_fixed (by_table counts) form s _
      (tallied_done (by_table counts) (fair_table counts) (fixed form) form s form 0 0 0 (tallied_start (by_table counts) (fair_table counts) (fixed form) form s) small (omega arith))

  first_stop : (why : Refusal) → 0 < length s → as_step form (by_table counts s form) ≡ stop why → Counts counts form s (Err why)
  first_stop why some e =
      tells_fixed (by_table counts) form s _
      (tallied_stop (by_table counts) (fair_table counts) (fixed form) form s form 0 0 0 (tallied_start (by_table counts) (fair_table counts) (fixed form) form s) small why some
      (fixed_step (by_table counts) form form s ∙ e))

  pub pending_none : (k : ℕ) → k ≡ id_size form → (length s ≡ 0 → ⊥) → length s ≤ k → Counts counts form s (Err Truncated)
  pending_none k e some lack = first_stop Truncated (omega (arith, some)) (ap (as_step form) (table_none counts s form (omega (arith, e))))

  -- what the table says of the first length byte
  first_byte : (k : ℕ) → k ≡ id_size form → (m : ℕ) → m ≡ entry counts (get_or (take (length s - k) (drop k s)) 0 0) → entry counts (get_or s (id_size form) 0) ≡ m
  first_byte k e m says =
      let place : k + 0 ≡ id_size form = omega (arith, e) in
      sym (says ∙ ap (λ (l : List ℕ). entry counts (get_or l 0 0)) (rest s k) ∙ ap (entry counts) (get_or-drop k s 0 0 ∙ ap (λ (i : ℕ). get_or s i 0) place))

  pub pending_refused : (k : ℕ) → k ≡ id_size form → k < length s → (m : ℕ) → m ≡ entry counts (get_or (take (length s - k) (drop k s)) 0 0) → m ≡ refused_length
      → Counts counts form s (Err PrefixLength)
  pending_refused k e there m says long =
      first_stop PrefixLength (omega arith) (ap (as_step form) (table_long counts s form (omega (arith, e)) (first_byte k e m says ∙ long)))

-- ---- the item that is carried

-- after its id, which is k bytes; the table knows its length
pub record Pending (counts s : List ℕ) (k : ℕ) (item : List ℕ) (n rows hosts : ℕ) : Type 0 where
  pub form : Form
  pub at : ℕ
  pub ids : k ≡ id_size form
  pub there : at + k < length s
  pub is : item ≡ drop (at + k) s
  pub says : n ≡ entry counts (get_or item 0 0)
  pub known : n ≡ refused_length → ⊥
  pub tallied : Tallied (by_table counts) (fixed form) form s form at rows hosts

pub pending_start : (counts s : List ℕ) (form : Form) (k m : ℕ) → k ≡ id_size form → k < length s → m ≡ entry counts (get_or (take (length s - k) (drop k s)) 0 0) → (m ≡ refused_length → ⊥)
    → Pending counts s k (take (length s - k) (drop k s)) m 0 0
pending_start counts s form k m e there says known =
    let zero_on : 0 + k ≡ k = omega arith in
    record {
      form = form;
      at = 0;
      ids = e;
      there = omega arith;
      is = rest s k ∙ ap (λ (i : ℕ). drop i s) (sym zero_on);
      says = says;
      known = known;
      tallied = tallied_start (by_table counts) (fair_table counts) (fixed form) form s;
    }

module _ {counts s : List ℕ} {k : ℕ} {item : List ℕ} {n rows hosts : ℕ} (h : Pending counts s k item n rows hosts) (small : length s ≤ list_limit) where
  -- the list from the item on
  abbrev here : List ℕ
  here = drop h.at s

  size : length item ≡ length s - (h.at + k)
  size = ap length h.is ∙ length-drop (h.at + k) s

  byte_at : (i j : ℕ) → j ≡ h.at + k + i → get_or item i 0 ≡ get_or s j 0
  byte_at i j e = ap (λ (l : List ℕ). get_or l i 0) h.is ∙ get_or-drop (h.at + k) s i 0 ∙ ap (λ (x : ℕ). get_or s x 0) (sym e)

  -- what is carried is some of the list, and what was counted is no more than its bytes
  pub pending_few : (0 < length item) × (length item + k ≤ length s) × (rows ≤ length s) × (hosts ≤ length s)
  pending_few =
      let few = tallied_few (by_table counts) (fair_table counts) (fixed h.form) h.form s h.form h.at rows hosts h.tallied in
      (omega (arith, size, h.there), omega (arith, size, h.there), few.0, few.1)

  front : id_size h.form < length here
  front = omega (arith, h.there, h.ids, length-drop h.at s)

  -- a byte of it from its id on
  byte_here : (i j : ℕ) → j ≡ k + i → get_or here j 0 ≡ get_or item i 0
  byte_here i j e = get_or-drop h.at s j 0 ∙ sym (byte_at i (h.at + j) (omega (arith, e)))

  entry_here : entry counts (get_or here (id_size h.form) 0) ≡ n
  entry_here = ap (entry counts) (byte_here 0 (id_size h.form) (omega (arith, h.ids))) ∙ sym h.says

  known_here : entry counts (get_or here (id_size h.form) 0) ≡ refused_length → ⊥
  known_here e = h.known (sym entry_here ∙ e)

  end : end_by counts h.form here ≡ k + 1 + n
  end = ap (λ (i : ℕ). id_size h.form + 1 + i) entry_here ∙ ap (λ (i : ℕ). i + 1 + n) (sym h.ids)

  -- where its octets are there it is taken, with its host bit
  taken : n < length item → (host : ℕ) → host ≡ flag (past_length (get_or item 0 0) (get_or item n 0))
      → (h.at + (k + 1 + n) ≤ length s) × Tallied (by_table counts) (fixed h.form) h.form s h.form (h.at + (k + 1 + n)) (rows + 1) (hosts + host)
  taken fits host is =
      let used : ℕ = end_by counts h.form here in
      let room : used ≤ length here = omega (arith, end, fits, size, h.there, length-drop h.at s) in
      let t = table_took counts here h.form front known_here room in
      let bits : get_or item 0 0 ≡ get_or here (0 + id_size h.form) 0 = sym (byte_here 0 (0 + id_size h.form) (omega (arith, h.ids))) in
      let last : get_or item n 0 ≡ get_or here (0 + used - 1) 0 = sym (byte_here n (0 + used - 1) (omega (arith, end))) in
      let bit = host_at here 0 used h.form (get_or item 0 0) (get_or item n 0) (omega (arith, end, h.ids)) (omega (arith, room)) bits last in
      let next = tallied_step (by_table counts) (fair_table counts) (fixed h.form) h.form s h.form h.at rows hosts h.tallied used _ h.form
      (fixed_step (by_table counts) h.form h.form here ∙ ap (as_step h.form) t) in
      let told : flag (host_bits h.form (take used (drop 0 here))) ≡ host = sym (is ∙ ap flag bit) in
      (omega (arith, next.1, end), rw end at (rw told at next.2))

  -- ---- by the form that the call was given

  module _ (form : Form) (same : k ≡ id_size form) where
    answer : (a : Result Routes Refusal) → Counts counts h.form s a → Counts counts form s a
    answer a e = subst (λ (f : Form). Counts counts f s a) (id_one h.form form (sym h.ids ∙ same)) e

    -- the last item
    pub pending_done : length item ≡ n + 1 → (host : ℕ) → host ≡ flag (past_length (get_or item 0 0) (get_or item n 0)) → Counts counts form s (counted (rows + 1) (hosts + host))
    pending_done all host is =
        let t = taken (omega (arith, all)) host is in
        answer _
        (tells_fixed (by_table counts) h.form s _
        (tallied_done (by_table counts) (fair_table counts) (fixed h.form) h.form s h.form (h.at + (k + 1 + n)) _ _ t.1 small (omega (arith, all, size, h.there))))

    -- a refusal at the item, or at what follows it
    stops : (at rows' hosts' : ℕ) (why : Refusal) → Tallied (by_table counts) (fixed h.form) h.form s h.form at rows' hosts' → at < length s
        → as_step h.form (by_table counts (drop at s) h.form) ≡ stop why → Counts counts form s (Err why)
    stops at rows' hosts' why t lt e =
        answer _
        (tells_fixed (by_table counts) h.form s _
        (tallied_stop (by_table counts) (fair_table counts) (fixed h.form) h.form s h.form at rows' hosts' t small why lt (fixed_step (by_table counts) h.form h.form (drop at s) ∙ e)))

    -- its octets are not all there, or the id or the length byte of the next is not
    pub pending_cut : (length item ≡ n + 1 → ⊥) → length item ≤ n + k + 1 → Counts counts form s (Err Truncated)
    pending_cut not_all lack =
        elim (dec_le (length item) n) [
          | yes short ↦ stops h.at rows hosts Truncated h.tallied (omega (arith, h.there))
              (ap (as_step h.form) (table_short counts here h.form front known_here (omega (arith, end, short, size, h.there, length-drop h.at s))))
          | no more ↦ (let at : ℕ = h.at + (k + 1 + n) in
              let t = taken (lt_of_not-le more) _ refl in
              stops at _ _ Truncated t.1 (omega (arith, not_all, lt_of_not-le more, size, h.there))
              (ap (as_step h.form) (table_none counts (drop at s) h.form (omega (arith, lack, size, h.ids, h.there, length-drop at s)))))
        ]

    -- ---- the next one, whose length byte is there

    module _ (fits : n + k + 1 < length item) (head : List ℕ) (e : head ≡ take (length item - (k + 1)) (drop (k + 1) item)) (m : ℕ) (tells : m ≡ entry counts (get_or head n 0)) where
      head_is : head ≡ drop (h.at + k + (k + 1)) s
      head_is = e ∙ rest item (k + 1) ∙ ap (drop (k + 1)) h.is ∙ drop-drop (k + 1) (h.at + k) s

      next_at : ℕ
      next_at = h.at + (k + 1 + n)

      next_byte : (i : ℕ) → i ≡ next_at + k → get_or s i 0 ≡ get_or head n 0
      unfolding next_at
      next_byte i at =
          let place : i ≡ h.at + k + (k + 1) + n = omega (arith, at) in
          ap (λ (j : ℕ). get_or s j 0) place ∙ sym (ap (λ (l : List ℕ). get_or l n 0) head_is ∙ get_or-drop (h.at + k + (k + 1)) s n 0)

      pub pending_long : m ≡ refused_length → Counts counts form s (Err PrefixLength)
      unfolding next_at
      pending_long refused =
          let t = taken (omega (arith, fits)) _ refl in
          let byte : get_or (drop next_at s) (id_size h.form) 0 ≡ get_or head n 0 =
          get_or-drop next_at s (id_size h.form) 0 ∙ next_byte (next_at + id_size h.form) (omega (arith, h.ids)) in
          stops next_at _ _ PrefixLength t.1 (omega (arith, fits, size, h.there))
          (ap (as_step h.form) (table_long counts (drop next_at s) h.form (omega (arith, fits, size, h.there, h.ids, length-drop next_at s)) (ap (entry counts) byte ∙ sym tells ∙ refused)))

      pub pending_next : (m ≡ refused_length → ⊥) → (host : ℕ) → host ≡ flag (past_length (get_or item 0 0) (get_or item n 0))
          → let b = n + k + 1 in
          Pending counts s k (take (length item - b) (drop b item)) m (rows + 1) (hosts + host) × (length (take (length item - b) (drop b item)) < length item)
      unfolding next_at
      pending_next good host is =
          let b : ℕ = n + k + 1 in
          let t = taken (omega (arith, fits)) host is in
          let place : h.at + k + b ≡ next_at + k = omega arith in
          let from : take (length item - b) (drop b item) ≡ drop (next_at + k) s =
          rest item b ∙ ap (drop b) h.is ∙ drop-drop b (h.at + k) s ∙ ap (λ (i : ℕ). drop i s) place in
          let first : get_or (take (length item - b) (drop b item)) 0 0 ≡ get_or head n 0 =
          ap (λ (l : List ℕ). get_or l 0 0) from ∙ get_or-drop (next_at + k) s 0 0 ∙ next_byte (next_at + k + 0) (omega arith) in (
            record {
              form = h.form;
              at = next_at;
              ids = h.ids;
              there = omega (arith, fits, size, h.there);
              is = from;
              says = tells ∙ ap (entry counts) (sym first);
              known = good;
              tallied = t.1;
            },
            omega (arith, fits, ap length (rest item b), length-drop b item),
          )
