-- The fields of every answer of the module update are of 16 bits; and how many rows a body has at most.
-- Assumes nothing.
use Prim.Native.Nat.{ℕ, ◌+◌, ◌≤◌}
use mathlib.Core.Path.{◌≡◌, refl, sym}
use mathlib.Core.List.{List}
use native.Mathlib.Omega.{arith}
use lib.ListN.{length}
use lib.Dec.{leb}
use Rattle.std.specs.Prelude.{Result, Ok, Err}
use Rattle.wire.specs.Answer.{value_in, count_meaning}
use Rattle.wire.specs.Refusal.{list_limit}
use Rattle.wire.specs.Walk.{Reading}
use Rattle.wire.specs.declared.refusal.Refusal.{Refusal}
use Rattle.wire.specs.declared.refusal.Refusal.TheVariants.{TooLong, NoRoom}
use Rattle.wire.proofs.ChoiceLaws.{pick_any}
use Rattle.families.specs.Family.{max_of}
use Rattle.route_reader.specs.Pair.{read_pair_by, read_pair}
use Rattle.route_reader.specs.declared.Sections.{Sections}
use Rattle.families.specs.declared.AddPath.{AddPath}
use Rattle.families.specs.declared.Form.{Form}
use Rattle.families.specs.declared.Afi.TheVariants.{Ipv4}
use Rattle.routes.specs.List.{hosts_of, section_of}
use Rattle.routes.specs.Promises.{rows_in, hosts_in, rows_alone, has_room, count_answer}
use Rattle.routes.proofs.ListLaws.{beside_rows}
use Rattle.routes.specs.declared.Row.{Row}
use Rattle.routes.specs.declared.Routes.{Routes}
use Rattle.updates.specs.Body.{parts_of, withdrawn_of, announced_of}
use Rattle.updates.specs.Update.{if_parts, update_of, as_update, counted, count_update, read_update}
use Rattle.updates.specs.declared.Parts.{Parts}
use Rattle.updates.specs.declared.Update.{Update}
use Rattle.updates.proofs.BodyLaws.{parts_add_up}
use Rattle.updates.proofs.Sections.{withdrawn_length, announced_length}
use Rattle.update_writer.specs.Body.{body_answer}
use Rattle.update_writer.proofs.RoundTrip.{body_cases}
use Rattle.words.specs.Word.{in_fields, Narrow}
use Rattle.words.proofs.WordLaws.{refused_narrow, number_narrow}
use Rattle.wire.specs.Extent.{Extent}
use Rattle.firmware.specs.Fields.{part_fields, update_fields, body_rows}
use Rattle.firmware.proofs.Bounds.{answer_any, verdict_low}
use Rattle.firmware.proofs.ListBounds.{section_few, Small, count_small}

-- ---- where the sections stand

-- all three sections are shorter than a body
pub parts_few : (b : List ℕ) (p : Parts) → Ok p ≡ parts_of b → p.withdrawn + p.attributes + p.announced ≤ body_rows
parts_few b p e = let h = parts_add_up b p (sym e) in omega (arith, h.0, h.1)

-- so where a section stands that ends in the body
pub part_narrow : (section : Result Parts Refusal → Extent) (b : List ℕ) (p : Parts)
    → (section (Ok p)).start + (section (Ok p)).size ≤ p.withdrawn + p.attributes + p.announced + 4 → Ok p ≡ parts_of b
    → Narrow (part_fields section (Ok p))
part_narrow section b p inside e = let few = parts_few b p e in record { a = omega (arith, few, inside); b = omega (arith, few, inside); c = omega arith }

-- ---- their routes

update_narrow : (a b : Result Routes Refusal) → Small a → Small b → Narrow (update_fields (update_of a b))
update_narrow a b h k = record { a = omega (arith, h.rows); b = omega (arith, k.rows); c = omega (arith, verdict_low a, verdict_low b) }

pair_narrow : (a b : Result Routes Refusal) (places places' : ℕ) → Small a → Small b → Narrow (update_fields (as_update (read_pair_by a b places places')))
unfolding read_pair_by
pair_narrow a b places places' h k =
    let Fine : Result Sections Refusal → Type 0 = λ p. Narrow (update_fields (as_update p)) in
    pick_any Fine (has_room (rows_alone a) places) _ (Err NoRoom)
    (pick_any Fine (has_room (rows_alone b) places') (Ok (record { first = a; second = b })) (Err NoRoom) (update_narrow a b h k) (refused_narrow _))
    (refused_narrow _)

if_narrow : (p : Result Parts Refusal) (u : Result Update Refusal) → Narrow (update_fields u) → Narrow (update_fields (if_parts p u))
if_narrow (Ok p) u h = h
if_narrow (Err r) u h = refused_narrow _

module _ (b : List ℕ) (mode : AddPath) where
  both_small : Small (counted (withdrawn_of b) mode) × Small (counted (announced_of b) mode)
  both_small = (
    count_small (withdrawn_of b) _ (max_of Ipv4) mode (section_few (withdrawn_of b) (max_of Ipv4) mode),
    count_small (announced_of b) _ (max_of Ipv4) mode (section_few (announced_of b) (max_of Ipv4) mode),
  )

  pub count_update_narrow : Narrow (update_fields (count_update b mode))
  unfolding count_update
  count_update_narrow = if_narrow (parts_of b) _ (update_narrow _ _ both_small.0 both_small.1)

  pub read_update_narrow : (places places' : ℕ) → Narrow (update_fields (read_update b mode places places'))
  unfolding read_update read_pair
  read_update_narrow places places' = if_narrow (parts_of b) _ (pair_narrow _ _ places places' both_small.0 both_small.1)

-- so few rows of what is counted have a host bit
pub hosts_few : (b : List ℕ) (mode : AddPath) (u : Update) → Ok u ≡ count_update b mode → (hosts_in u.withdrawn ≤ list_limit) × (hosts_in u.announced ≤ list_limit)
unfolding count_update
hosts_few b mode u = by (parts_of b)
  where
    by : (p : Result Parts Refusal) → Ok u ≡ if_parts p (update_of (counted (withdrawn_of b) mode) (counted (announced_of b) mode))
        → (hosts_in u.withdrawn ≤ list_limit) × (hosts_in u.announced ≤ list_limit)
    by (Ok p) e =
        let one : u.withdrawn ≡ counted (withdrawn_of b) mode = cc in
        let two : u.announced ≡ counted (announced_of b) mode = cc in
        let both = both_small b mode in
        (rw one both.0.hosts, rw two both.1.hosts)
    by (Err r) e = let z : ◌≡◌ {A = ℕ} 0 1 = cc in absurd (omega arith)

-- ---- how many rows a body has

rows_few : (s : List ℕ) (mode : AddPath) → rows_in (counted s mode) ≤ length s
unfolding count_answer
rows_few s mode =
    let Few : Result ℕ Refusal → Type 0 = λ a. value_in 0 (count_meaning a) ≤ length s in
    let r : Reading Row = section_of s (max_of Ipv4) mode in
    rw (beside_rows (count_answer s r) (hosts_of s (max_of Ipv4) mode))
    (pick_any Few (leb (length s) list_limit) _ (Err TooLong)
    (answer_any Few r.verdict (Ok (length r.rows)) Err (section_few s (max_of Ipv4) mode) (λ _. omega arith))
    (omega arith))

-- no more in both sections together than the bytes between its lengths
pub update_few : (b : List ℕ) (mode : AddPath) (u : Update) → count_update b mode ≡ Ok u → rows_in u.withdrawn + rows_in u.announced ≤ body_rows
unfolding count_update
update_few b mode u = by (parts_of b) refl
  where
    by : (p : Result Parts Refusal) → parts_of b ≡ p → if_parts p (update_of (counted (withdrawn_of b) mode) (counted (announced_of b) mode)) ≡ Ok u
        → rows_in u.withdrawn + rows_in u.announced ≤ body_rows
    by (Ok p) found e =
        let one : counted (withdrawn_of b) mode ≡ u.withdrawn = cc in
        let two : counted (announced_of b) mode ≡ u.announced = cc in
        let whole = parts_add_up b p found in
        omega (
          arith,
          whole.0,
          whole.1,
          rw (one, withdrawn_length b p found) at (rows_few (withdrawn_of b) mode),
          rw (two, announced_length b p found) at (rows_few (announced_of b) mode),
        )
    by (Err r) found e = let z : ◌≡◌ {A = ℕ} 0 1 = cc in absurd (omega arith)

-- ---- what is written

pub write_update_narrow : (withdrawn attributes announced : List ℕ) (form : Form) (places : ℕ)
    → Narrow (in_fields (count_meaning (body_answer withdrawn attributes announced form places)))
write_update_narrow withdrawn attributes announced form places =
    body_cases withdrawn attributes announced form places (λ a. Narrow (in_fields (count_meaning a))) (λ r. refused_narrow _)
    (λ n fit. number_narrow n (omega (arith, fit.size, fit.sizes.whole)))
