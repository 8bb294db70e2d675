-- A loop that carries the bytes from the octets of the item before on, and how many these are: what it reads next, and what it counts.
-- Assumes nothing.
use Prim.Native.Nat.{ℕ, ◌+◌, ◌-◌, ◌≤◌, ◌<◌}
use mathlib.Core.Path.{◌≡◌, refl, sym, ap, ◌∙◌}
use mathlib.Core.List.{List}
use native.Mathlib.Omega.{arith}
use lib.ListN.{length, get_or, take, drop, length-drop}
use lib.Seq.{drop-drop, get_or-drop}
use Rattle.wire.proofs.Turn.{rest}
use Rattle.std.specs.Prelude.{Ok, Err}
use Rattle.wire.specs.Answer.{flag}
use Rattle.wire.specs.Refusal.{list_limit}
use Rattle.wire.specs.declared.refusal.Refusal.{Refusal}
use Rattle.wire.specs.Walk.{took, stop}
use Rattle.families.specs.Family.{id_size, guess_mark}
use Rattle.families.specs.declared.AddPath.{AddPath}
use Rattle.families.specs.declared.Form.{Form}
use Rattle.routes.specs.Prefix.{item_row, host_bits}
use Rattle.routes.specs.List.{Reader, marked, step_by}
use Rattle.routes.specs.ByTable.{by_table}
use Rattle.routes.specs.Promises.{sized}
use Rattle.routes.specs.declared.Row.{Row}
use Rattle.routes.specs.declared.Item.{Item}
use Rattle.routes.proofs.ListLaws.{Fair, Tells, Tallied, tallied_start, tallied_step, tallied_few, tallied_stop, tallied_done, step_taken, turn_took, turn_refused}
use Rattle.routes.proofs.TableLaws.{table_size, fair_table}

-- ---- what is carried

-- after n of the bytes carried, what is left is the list from `at` on
pub record Behind (s left : List ℕ) (n at : ℕ) : Type 0 where
  pub is : drop n left ≡ drop at s
  pub within : n ≤ length left
  pub part : length left ≤ length s

pub behind_start : (s : List ℕ) → Behind s s 0 0
behind_start s = record { is = refl; within = omega arith; part = omega arith }

module _ (s left : List ℕ) (n at : ℕ) (h : Behind s left n at) where
  pub behind_long : length left - n ≡ length s - at
  behind_long = sym (length-drop n left) ∙ ap length h.is ∙ length-drop at s

  -- a byte of the item at `at`
  pub behind_byte : (k : ℕ) → get_or left (n + k) 0 ≡ get_or (drop at s) k 0
  behind_byte k = sym (get_or-drop n left k 0) ∙ ap (λ (l : List ℕ). get_or l k 0) h.is

  -- after b bytes and m octets more: it carries these
  pub behind_next : (b m at' : ℕ) → at' ≡ at + (b + m) → n + (b + m) ≤ length left → Behind s (take (length left - (n + b)) (drop (n + b) left)) m at'
  behind_next b m at' e fits =
      let place : n + b + m ≡ n + (b + m) = omega arith in
      record {
        is =
            ap (drop m) (rest left (n + b))
            ∙ drop-drop m (n + b) left
            ∙ ap (λ (i : ℕ). drop i left) place
            ∙ sym (drop-drop (b + m) n left)
            ∙ ap (drop (b + m)) h.is
            ∙ drop-drop (b + m) at s
            ∙ ap (λ (i : ℕ). drop i s) (sym e);
        within = omega (arith, ap length (rest left (n + b)), length-drop (n + b) left);
        part = omega (arith, ap length (rest left (n + b)), length-drop (n + b) left, h.part);
      }

-- ---- a loop that counts

pub record Carried (read : Reader) (mode : AddPath) (st₀ : Form) (s left : List ℕ) (n : ℕ) (st : Form) (rows hosts : ℕ) : Type 0 where
  pub at : ℕ
  pub behind : Behind s left n at
  pub tallied : Tallied read mode st₀ s st at rows hosts

module _ (read : Reader) (fair : Fair read) (mode : AddPath) (st₀ : Form) (s : List ℕ) where
  pub carried_start : Carried read mode st₀ s s 0 st₀ 0 0
  carried_start = record { at = 0; behind = behind_start s; tallied = tallied_start read fair mode st₀ s }

  module _ (left : List ℕ) (n : ℕ) (st : Form) (rows hosts : ℕ) (h : Carried read mode st₀ s left n st rows hosts) where
    long : length left - n ≡ length s - h.at
    long = behind_long s left n h.at h.behind

    -- what is counted so far
    pub carried_few : (rows ≤ length s) × (hosts ≤ length s)
    carried_few = tallied_few read fair mode st₀ s st h.at rows hosts h.tallied

    pub carried_step : (used : ℕ) (row : Row) (st' : Form) → step_by read mode st (drop n left) ≡ took used row st' → (host : ℕ) → host ≡ flag (host_bits st' (take used (drop n left)))
        → (b m : ℕ) → used ≡ b + m → (n + used ≤ length left) × Carried read mode st₀ s (take (length left - (n + b)) (drop (n + b) left)) m st' (rows + 1) (hosts + host)
    carried_step used row st' e host is b m size =
        let next = tallied_step read fair mode st₀ s st h.at rows hosts h.tallied used row st' (ap (step_by read mode st) (sym h.behind.is) ∙ e) in
        let here : flag (host_bits st' (take used (drop h.at s))) ≡ host = sym (is ∙ ap (λ (l : List ℕ). flag (host_bits st' (take used l))) h.behind.is) in
        let fits : n + used ≤ length left = omega (arith, next.0, next.1, long, h.behind.within) in (
          fits,
          record {
            at = h.at + used;
            behind = behind_next s left n h.at h.behind b m (h.at + used) (ap (λ (i : ℕ). h.at + i) size) (omega arith);
            tallied = rw here at next.2;
          },
        )

    module _ (small : length s ≤ list_limit) where
      pub carried_stop : (why : Refusal) → n < length left → step_by read mode st (drop n left) ≡ stop why → Tells read mode st₀ s (Err why)
      carried_stop why lt e =
          tallied_stop read fair mode st₀ s st h.at rows hosts h.tallied small why (omega (arith, long)) (ap (step_by read mode st) (sym h.behind.is) ∙ e)

      pub carried_done : length left ≤ n → Tells read mode st₀ s (Ok (record { rows = rows; hosts = hosts }))
      carried_done le = tallied_done read fair mode st₀ s st h.at rows hosts h.tallied small (omega (arith, long))

-- ---- of whichever items a step takes, by a table

module _ (counts : List ℕ) {mode : AddPath} {st₀ : Form} {s left : List ℕ} {n : ℕ} {st : Form} {rows hosts : ℕ} (h : Carried (by_table counts) mode st₀ s left n st rows hosts) where
  module _ (item : Item) (told : Ok item ≡ sized (step_by (by_table counts) mode st (drop n left))) where
    taken : step_by (by_table counts) mode st (drop n left) ≡ took item.used (marked (guess_mark mode item.form) (item_row item.form (take item.used (drop n left)))) item.form
    taken = turn_took (by_table counts) (drop n left) mode st (fair_table counts) item told

    -- the item is there, and has its id and length byte
    pub sized_fits : (id_size item.form + 1 ≤ item.used) × (n + item.used ≤ length left)
    sized_fits =
        let here = step_taken (by_table counts) (fair_table counts) mode st item.form (drop n left) item.used _ taken in
        (omega (arith, table_size counts (drop n left) item.form item.used _ here.2), omega (arith, here.1, length-drop n left, h.behind.within))

    pub sized_next : (host : ℕ) → host ≡ flag (host_bits item.form (take item.used (drop n left))) → (b : ℕ) → b ≡ id_size item.form + 1
        → (length (take (length left - (n + b)) (drop (n + b) left)) - (item.used - b) < length left - n)
        × Carried (by_table counts) mode st₀ s (take (length left - (n + b)) (drop (n + b) left)) (item.used - b) item.form (rows + 1) (hosts + host)
    sized_next host is b bytes =
        let next = carried_step (by_table counts) (fair_table counts) mode st₀ s left n st rows hosts h item.used _ item.form taken host is b (item.used - b) (omega (arith, bytes, sized_fits.0)) in
        (omega (arith, bytes, sized_fits.0, sized_fits.1, ap length (rest left (n + b)), length-drop (n + b) left), next.1)

  pub sized_stop : length s ≤ list_limit → n < length left → (why : Refusal) → Err why ≡ sized (step_by (by_table counts) mode st (drop n left)) → Tells (by_table counts) mode st₀ s (Err why)
  sized_stop small lt why told =
      carried_stop (by_table counts) (fair_table counts) mode st₀ s left n st rows hosts h small why lt (turn_refused (by_table counts) (drop n left) mode st why told)
