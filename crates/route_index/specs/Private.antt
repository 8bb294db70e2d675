-- What private functions ask of each other and answer each other; no promise rests on it.
use Rattle.std.specs.Prelude.{ℕ, zero, suc, ◌+◌, ◌≤◌, ◌<◌, ◌≡◌, List, length, drop, leb, Result, Ok}
use Rattle.wire.specs.Choice.{pick}
use Rattle.wire.specs.Verdict.{fine}
use Rattle.wire.specs.Walk.{read_all, pieces}
use Rattle.wire.specs.declared.refusal.Refusal.{Refusal}
use Rattle.families.specs.declared.Form.{Form}
use Rattle.routes.specs.ByTable.{by_table}
use Rattle.routes.specs.List.{Reader, fixed, step_by, list_by}
use Rattle.routes.specs.Promises.{sized}
use Rattle.route_index.specs.Index.{index_by, past_item}

-- where n items from a place on end, or all of them where there are fewer; or the refusal before that
unfoldable pub skipped : Reader → Form → List ℕ → ℕ → ℕ → Result ℕ Refusal
skipped read form s zero at = Ok at
skipped read form s (suc n) at = pick (leb (length s) at) (Ok at) (past_item (read (drop at s) form) (λ used. skipped read form s n (at + used)))

-- an item of so many bytes stands at a place: the first of at most so many that are to be passed
pub record FirstOf (counts : List ℕ) (form : Form) (s : List ℕ) (from used most : ℕ) : Type 0 where
  pub some : 0 < most
  pub few : most ≤ 16
  pub item : Ok (record { used = used; form = form }) ≡ sized (step_by (by_table counts) (fixed form) form (drop from s))

-- some items are passed, at least one: what is left of n leads to the same place
pub record Passes (read : Reader) (form : Form) (s : List ℕ) (n at n' at' : ℕ) : Type 0 where
  pub fewer : n' < n
  pub onwards : at < at'
  pub within : at' ≤ length s
  pub same : skipped read form s n at ≡ skipped read form s n' at'

-- from a place on all items are good, and there are n of them or more
pub record Remain (read : Reader) (form : Form) (s : List ℕ) (n at : ℕ) : Type 0 where
  pub good : (read_all (step_by read (fixed form)) form (drop at s)).verdict ≡ fine
  pub many : n ≤ length (pieces (step_by read (fixed form)) form (drop at s))

-- a good list, and a store with as many places as its index: what putting it asks
pub record Fitting (read : Reader) (s : List ℕ) (form : Form) (store : List ℕ) : Type 0 where
  pub good : (list_by read s (fixed form)).verdict ≡ fine
  pub room : length (index_by read s form) ≡ length store
