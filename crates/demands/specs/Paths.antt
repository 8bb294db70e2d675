-- What reading and writing an AS_PATH are, of the calls themselves: whatever they are given, answer and leave. For each width of AS numbers, and for
-- each of the two rules, the crate's and the strict one, with its own idea of a well-formed segment.
-- Assumes nothing.
use Rattle.std.specs.Prelude.{ℕ, ◌*◌, ◌/◌, ◌≤◌, ◌≡◌, List, length, take, Ok, Err}
use Rattle.std.proofs.Common.{sym, ap, ap₂, ◌∙◌}
use Rattle.std.specs.Borrow.{Bor, MutBor}
use Rattle.wire.specs.Cutting.{Some, Cutting}
use Rattle.wire.specs.Number.{Bytes}
use Rattle.wire.specs.Refusal.{list_limit}
use Rattle.wire.specs.Store.{laid}
use Rattle.wire.specs.Walk.{Reading, flat}
use Rattle.wire.specs.declared.refusal.Refusal.{Refusal}
use Rattle.wire.specs.declared.refusal.Refusal.TheVariants.{EmptySegment}
use Rattle.asns.specs.Asn.{width_of}
use Rattle.asns.specs.declared.AsnLength.{AsnLength}
use Rattle.paths.specs.Promises.{count_answer, read_answer, pairs_after, numbers_after}
use Rattle.paths.specs.Segment.{Segment, NoNumbers, known_type, rule_of}
use Rattle.paths.specs.WellFormed.{Known, Allowed, WellFormed, Empty, head_of, as_numbers}
use Rattle.paths.specs.declared.PathRule.{PathRule}
use Rattle.paths.specs.declared.PathRule.TheVariants.{Crate, Strict}
use Rattle.paths.specs.declared.Path.{Path}
use Rattle.paths.proofs.FormedLaws.{ruled}
use Rattle.paths.proofs.PromiseLaws.{count_path, read_path}
use Rattle.paths.proofs.RuleLaws.{counted_alike, read_alike, empty_counted, counted_empty, empty_read, read_empty}
use Rattle.paths.proofs.count_as_path.Reads as count_as_path
use Rattle.paths.proofs.parse_as_path.Reads as parse_as_path
use Rattle.path_writer.specs.Write.{lent_path}
use Rattle.path_writer.specs.Promises.{encode_answer, encode_left}
use Rattle.path_writer.proofs.encode_as_path.Reads as encode_as_path
use Rattle.path_writer.proofs.PromiseLaws.{encode_alike}
use Rattle.path_writer.proofs.StrictLaws.{empty_written, written_empty}
use Rattle.path_writer.proofs.RuleTheorems as Laws

-- ---- the words of the statements

-- A call is given what stands at these places among its arguments; of what it is lent, `pairs exit`, `numbers exit` and `output exit` are what that
-- holds at exit.

-- a reading call: the bytes, the width, the rule and, unless it counts, the stores of the pairs and of the numbers
abbrev pub bytes : {R : Type 0} → Bor (List ℕ) × R → List ℕ
bytes given = given.0.now

abbrev pub width : {A R : Type 0} → A × (AsnLength × R) → AsnLength
width given = given.1.0

abbrev pub rule : {A B R : Type 0} → A × (B × (PathRule × R)) → PathRule
rule given = given.1.1.0

abbrev pub pairs : {A B C R : Type 0} → A × (B × (C × (MutBor (List ℕ) × R))) → List ℕ
pairs given = given.1.1.1.0.now

abbrev pub numbers : {A B C D R : Type 0} → A × (B × (C × (D × (MutBor (List ℕ) × R)))) → List ℕ
numbers given = given.1.1.1.1.0.now

-- the writing call: the pairs, the numbers, the width, the rule and the output
abbrev pub pairs_lent : {R : Type 0} → Bor (List ℕ) × R → List ℕ
pairs_lent given = given.0.now

abbrev pub numbers_lent : {A R : Type 0} → A × (Bor (List ℕ) × R) → List ℕ
numbers_lent given = given.1.0.now

abbrev pub width_asked : {A B R : Type 0} → A × (B × (AsnLength × R)) → AsnLength
width_asked given = given.1.1.0

abbrev pub rule_asked : {A B C R : Type 0} → A × (B × (C × (PathRule × R))) → PathRule
rule_asked given = given.1.1.1.0

abbrev pub output : {A B C D R : Type 0} → A × (B × (C × (D × (MutBor (List ℕ) × R)))) → List ℕ
output given = given.1.1.1.1.0.now

-- a cutting of bytes into segments that are well-formed by a rule, with AS numbers of a width
abbrev pub Cut : PathRule → AsnLength → List ℕ → List (List ℕ) → Type 0
Cut path_rule asn_length = Cutting (WellFormed (Allowed path_rule) (width_of asn_length))

-- the types and counts of a cutting's items, one after another, and their AS numbers
abbrev pub heads : List (List ℕ) → List ℕ
heads items = flat head_of items

abbrev pub asns : AsnLength → List (List ℕ) → List ℕ
asns asn_length items = flat (as_numbers (width_of asn_length)) items

-- the path that is told of a cutting: so many segments, and so many numbers
abbrev pub told_of : AsnLength → List (List ℕ) → Path
told_of asn_length items = record { segments = length items; numbers = length (asns asn_length items) }

-- ---- 1. Bytes are accepted, given room, exactly if they can be cut into segments that are well-formed by the rule.
-- A call that accepts has a cutting, with as many items as segments and as many numbers, within the limit and with room; a cutting within the limit
-- and with room is accepted.

module _ (κs : _) (given : _) (answer : _) (exit : _) (call : parse_as_path.Learnt κs given answer exit) where
  pub path_accepted : (path : Path) → answer ≡ Ok path
      → (items : List (List ℕ)) × Cut (rule given) (width given) (bytes given) items × (length items ≡ path.segments) × (length (asns (width given) items) ≡ path.numbers)
      × (length (bytes given) ≤ list_limit) × (path.segments ≤ length (pairs given) / 2) × (path.numbers ≤ length (numbers given))
  path_accepted path said =
      Laws.accepted_cut (rule_of (rule given)) (Allowed (rule given)) (ruled (rule given)) (width_of (width given)) (bytes given) (length (pairs given)) (length (numbers given)) path (sym call.0 ∙ said)

  pub path_cut : (items : List (List ℕ)) → Cut (rule given) (width given) (bytes given) items → length (bytes given) ≤ list_limit
      → length items ≤ length (pairs given) / 2 → length (asns (width given) items) ≤ length (numbers given)
      → answer ≡ Ok (told_of (width given) items)
  path_cut items cut short room space =
      call.0 ∙ Laws.cut_accepted (rule_of (rule given)) (Allowed (rule given)) (ruled (rule given)) (width_of (width given)) (bytes given) items cut (length (pairs given)) (length (numbers given)) short room space

-- counting needs no room
module _ (κs : _) (given : _) (answer : _) (exit : _) (call : count_as_path.Learnt κs given answer exit) where
  pub path_counted : (path : Path) → answer ≡ Ok path
      → (items : List (List ℕ)) × Cut (rule given) (width given) (bytes given) items × (length items ≡ path.segments) × (length (asns (width given) items) ≡ path.numbers) × (length (bytes given) ≤ list_limit)
  path_counted path said = Laws.counted_cut (rule_of (rule given)) (Allowed (rule given)) (ruled (rule given)) (width_of (width given)) (bytes given) path (sym call ∙ said)

  pub path_cut_counted : (items : List (List ℕ)) → Cut (rule given) (width given) (bytes given) items → length (bytes given) ≤ list_limit
      → answer ≡ Ok (told_of (width given) items)
  path_cut_counted items cut short = call ∙ Laws.cut_counted (rule_of (rule given)) (Allowed (rule given)) (ruled (rule given)) (width_of (width given)) (bytes given) items cut short

-- ---- 2. There is one cutting.

pub one_cutting : (path_rule : PathRule) (asn_length : AsnLength) (s : List ℕ) (items items' : List (List ℕ)) → Cut path_rule asn_length s items → Cut path_rule asn_length s items' → items ≡ items'
one_cutting path_rule asn_length = Laws.one_cutting (rule_of path_rule) (Allowed path_rule) (ruled path_rule) (width_of asn_length)

-- ---- 3. What is read are its items: as many segments and numbers, and the stores at exit hold them from their fronts.

module _ (κs : _) (given : _) (answer : _) (exit : _) (call : parse_as_path.Learnt κs given answer exit) where
  pub path_rows : (path : Path) → answer ≡ Ok path → (items : List (List ℕ)) → Cut (rule given) (width given) (bytes given) items
      → (path ≡ told_of (width given) items)
      × (pairs exit ≡ laid (pairs given) 0 (heads items)) × (numbers exit ≡ laid (numbers given) 0 (asns (width given) items))
  path_rows path said items cut =
      let r = Laws.cut_stores (rule_of (rule given)) (Allowed (rule given)) (ruled (rule given)) (width_of (width given)) (bytes given) items cut (pairs given) (numbers given) path (sym call.0 ∙ said) in
      (r.0, call.1.0 ∙ r.1, call.1.1 ∙ r.2)

-- ---- 4. Writing what was read, by the same rule, gives the bytes, at the front of any output that has room for them.

module _ (κs : _) (given : _) (answer : _) (exit : _) (call : parse_as_path.Learnt κs given answer exit)
    (κs' : _) (given' : _) (answer' : _) (exit' : _) (call' : encode_as_path.Learnt κs' given' answer' exit') where
  pub written_back : (path : Path) → answer ≡ Ok path → width given ≡ width_asked given' → rule given ≡ rule_asked given'
      → pairs_lent given' ≡ take (2 * path.segments) (pairs exit) → numbers_lent given' ≡ take path.numbers (numbers exit) → Bytes (bytes given) → length (bytes given) ≤ length (output given')
      → (answer' ≡ Ok (length (bytes given))) × (output exit' ≡ laid (output given') 0 (bytes given))
  written_back path said alike by back after each room =
      let r = Laws.read_written (rule_of (rule given)) (Allowed (rule given)) (ruled (rule given)) (width_of (width given)) (bytes given) each (pairs given) (numbers given) path (sym call.0 ∙ said) (output given') room in
      let p = back ∙ ap (take (2 * path.segments)) call.1.0 in
      let q = after ∙ ap (take path.numbers) call.1.1 in (
        call'.0
            ∙ ap₂ (λ (u : PathRule) (v : AsnLength). encode_answer (rule_of u) (width_of v) (pairs_lent given') (numbers_lent given') (length (output given'))) (sym by) (sym alike)
            ∙ ap₂ (λ (x y : List ℕ). encode_answer (rule_of (rule given)) (width_of (width given)) x y (length (output given'))) p q
            ∙ r.0,
        call'.1
            ∙ ap₂ (λ (u : PathRule) (v : AsnLength). encode_left (rule_of u) (width_of v) (pairs_lent given') (numbers_lent given') (output given')) (sym by) (sym alike)
            ∙ ap₂ (λ (x y : List ℕ). encode_left (rule_of (rule given)) (width_of (width given)) x y (output given')) p q
            ∙ r.1,
      )

-- ---- 5. Two paths that the writer accepts, by whichever rules, and whose bytes are the same are equal.

module _ (κs : _) (given : _) (answer : _) (exit : _) (call : encode_as_path.Learnt κs given answer exit) where
  -- by the crate's rule they are written the same
  by_crate_lem : (n : ℕ) → answer ≡ Ok n
      → (encode_answer known_type (width_of (width_asked given)) (pairs_lent given) (numbers_lent given) (length (output given)) ≡ Ok n)
      × (encode_left known_type (width_of (width_asked given)) (pairs_lent given) (numbers_lent given) (output given) ≡ output exit)
  by_crate_lem n said =
      let c = encode_alike (rule_asked given) (width_of (width_asked given)) (pairs_lent given) (numbers_lent given) (output given) n (sym call.0 ∙ said) in
      (c.0 ∙ sym call.0 ∙ said, c.1 ∙ sym call.1)

module _ (κs : _) (given : _) (answer : _) (exit : _) (call : encode_as_path.Learnt κs given answer exit)
    (κs' : _) (given' : _) (answer' : _) (exit' : _) (call' : encode_as_path.Learnt κs' given' answer' exit') where
  pub paths_equal : width_asked given ≡ width_asked given' → (n n' : ℕ) → answer ≡ Ok n → answer' ≡ Ok n' → take n (output exit) ≡ take n' (output exit')
      → (pairs_lent given ≡ pairs_lent given') × (numbers_lent given ≡ numbers_lent given')
  paths_equal alike n n' said said' same =
      let c = by_crate_lem κs given answer exit call n said in
      let c' = by_crate_lem κs' given' answer' exit' call' n' said' in
      Laws.written_once known_type Known (ruled Crate) (width_of (width_asked given)) (pairs_lent given) (numbers_lent given) (output given) n (pairs_lent given') (numbers_lent given') (output given') n'
      c.0
      (ap (λ (v : AsnLength). encode_answer known_type (width_of v) (pairs_lent given') (numbers_lent given') (length (output given'))) alike ∙ c'.0)
      (ap (take n) c.1
      ∙ same
      ∙ ap (take n') (sym c'.1 ∙ ap (λ (v : AsnLength). encode_left known_type (width_of v) (pairs_lent given') (numbers_lent given') (output given')) (sym alike)))

-- ---- 6. The two rules, of two calls that are given the same but for the rule: what is accepted by the strict one is accepted the same by the crate's;
-- and of what is accepted by the crate's, the strict one refuses exactly what has an empty segment, with 16.

-- reading into stores
module _ (value : _) (asn_length : _) (stores : _) (κs : _) (answer : _) (exit : _) (strict : parse_as_path.Learnt κs (value, (asn_length, (Strict, stores))) answer exit)
    (κs' : _) (answer' : _) (exit' : _) (lax : parse_as_path.Learnt κs' (value, (asn_length, (Crate, stores))) answer' exit') where
  pub strict_is_crate : (path : Path) → answer ≡ Ok path → (answer' ≡ Ok path) × (pairs exit' ≡ pairs exit) × (numbers exit' ≡ numbers exit)
  strict_is_crate path said =
      let s : List ℕ = value.now in
      let p : List ℕ = stores.0.now in
      let q : List ℕ = stores.1.0.now in
      let same = read_alike Strict (width_of asn_length) s path (length p) (length q) (sym strict.0 ∙ said) in (
        lax.0 ∙ ap (λ (r : Reading Segment). read_answer s r (length p) (length q)) same ∙ sym strict.0 ∙ said,
        lax.1.0 ∙ ap (λ (r : Reading Segment). pairs_after s r p (length q)) same ∙ sym strict.1.0,
        lax.1.1 ∙ ap (λ (r : Reading Segment). numbers_after s r (length p) q) same ∙ sym strict.1.1,
      )

  module _ (path : Path) (accepted : answer' ≡ Ok path) (items : List (List ℕ)) (cut : Cut Crate asn_length value.now items) where
    read_short : length value.now ≤ list_limit
    read_short = (read_path value.now _ path _ _ (sym lax.0 ∙ accepted)).0

    pub empty_is_refused : Some Empty items → answer ≡ Err EmptySegment
    empty_is_refused some = strict.0 ∙ empty_read (width_of asn_length) value.now read_short items cut _ _ some

    pub refused_is_empty : (k : Refusal) → answer ≡ Err k → Some Empty items × (k ≡ EmptySegment)
    refused_is_empty k said = read_empty (width_of asn_length) value.now read_short items cut _ _ path k (sym lax.0 ∙ accepted) (sym strict.0 ∙ said)

-- counting
module _ (value : _) (asn_length : _) (κs : _) (answer : _) (exit : _) (strict : count_as_path.Learnt κs (value, (asn_length, (Strict, tt))) answer exit)
    (κs' : _) (answer' : _) (exit' : _) (lax : count_as_path.Learnt κs' (value, (asn_length, (Crate, tt))) answer' exit') where
  pub strict_count_is_crate : (path : Path) → answer ≡ Ok path → answer' ≡ Ok path
  strict_count_is_crate path said =
      lax ∙ ap (count_answer value.now) (counted_alike Strict (width_of asn_length) value.now path (sym strict ∙ said)) ∙ sym strict ∙ said

  module _ (path : Path) (accepted : answer' ≡ Ok path) (items : List (List ℕ)) (cut : Cut Crate asn_length value.now items) where
    count_short : length value.now ≤ list_limit
    count_short = (count_path value.now _ path (sym lax ∙ accepted)).0

    pub empty_is_not_counted : Some Empty items → answer ≡ Err EmptySegment
    empty_is_not_counted some = strict ∙ empty_counted (width_of asn_length) value.now count_short items cut some

    pub not_counted_is_empty : (k : Refusal) → answer ≡ Err k → Some Empty items × (k ≡ EmptySegment)
    not_counted_is_empty k said = counted_empty (width_of asn_length) value.now count_short items cut path k (sym lax ∙ accepted) (sym strict ∙ said)

-- writing
module _ (lent_pairs : _) (lent_numbers : _) (asn_length : _) (out : _) (κs : _) (answer : _) (exit : _)
    (strict : encode_as_path.Learnt κs (lent_pairs, (lent_numbers, (asn_length, (Strict, out)))) answer exit)
    (κs' : _) (answer' : _) (exit' : _) (lax : encode_as_path.Learnt κs' (lent_pairs, (lent_numbers, (asn_length, (Crate, out)))) answer' exit') where
  pub strict_writes_as_crate : (n : ℕ) → answer ≡ Ok n → (answer' ≡ Ok n) × (output exit' ≡ output exit)
  strict_writes_as_crate n said =
      let c = by_crate_lem κs (lent_pairs, (lent_numbers, (asn_length, (Strict, out)))) answer exit strict n said in
      (lax.0 ∙ c.0, lax.1 ∙ c.1)

  module _ (n : ℕ) (accepted : answer' ≡ Ok n) where
    -- the segments that are lent
    abbrev segments : List Segment
    segments = (lent_path (rule_of Crate) (width_of asn_length) lent_pairs.now lent_numbers.now).rows

    pub empty_is_not_written : Some NoNumbers segments → answer ≡ Err EmptySegment
    empty_is_not_written some = strict.0 ∙ empty_written (width_of asn_length) lent_pairs.now lent_numbers.now (length out.0.now) n (sym lax.0 ∙ accepted) some

    pub not_written_is_empty : (k : Refusal) → answer ≡ Err k → Some NoNumbers segments × (k ≡ EmptySegment)
    not_written_is_empty k said = written_empty (width_of asn_length) lent_pairs.now lent_numbers.now (length out.0.now) n (sym lax.0 ∙ accepted) k (sym strict.0 ∙ said)
