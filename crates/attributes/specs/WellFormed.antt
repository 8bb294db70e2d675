-- The bytes of an attribute as RFC 4271 section 4.3 has them, over bytes alone and apart from any reader: `Cutting` of wire over `WellFormed` is
-- what it is to cut a section into attributes.
use Rattle.std.specs.Prelude.{ℕ, ◌+◌, ◌≤◌, ◌≡◌, List, [], ◌∷◌, ◌++◌, length, get_or, drop, eqb}
use Rattle.wire.specs.Answer.{flag}
use Rattle.wire.specs.Cutting.{Each, joined}
use Rattle.wire.specs.Number.{be}
use Rattle.wire.specs.Walk.{tally}
use Rattle.attributes.specs.Attribute.{mp_reach_nlri, mp_unreach_nlri, length_size, head_size}
use Rattle.attributes.specs.declared.Attribute.{Attribute}

-- flags, a type, a length of as many bytes as the flags say, and as many bytes of value as the length says
pub record WellFormed (item : List ℕ) : Type 0 where
  pub flags : ℕ
  pub kind : ℕ
  pub count : List ℕ
  pub value : List ℕ
  pub parts : item ≡ flags ∷ kind ∷ (count ++ value)
  pub wide : length count ≡ length_size flags
  pub long : length value ≡ be count

-- the type of an attribute's bytes, and its value
abbrev pub kind_of : List ℕ → ℕ
kind_of item = get_or item 1 0

abbrev pub value_of : List ℕ → List ℕ
value_of item = drop (head_size (get_or item 0 0)) item

-- what is told of an item that stands at a place, and of items one after another from a place on
unfoldable pub item_at : ℕ → List ℕ → Attribute
item_at place item = record {
  flags = get_or item 0 0;
  kind = kind_of item;
  start = place + head_size (get_or item 0 0);
  length = length (value_of item);
  next = place + length item;
}

unfoldable pub items_from : ℕ → List (List ℕ) → List Attribute
items_from place [] = []
items_from place (item ∷ items) = item_at place item ∷ items_from (place + length item) items

-- items of another type
abbrev pub Other : ℕ → List ℕ → Type 0
Other kind item = kind_of item ≡ kind → ⊥

-- how many items are of a type; and that MP_REACH_NLRI and MP_UNREACH_NLRI are there once at most each (RFC 7606 section 3)
unfoldable pub times : ℕ → List (List ℕ) → ℕ
times kind items = tally (λ item. flag (eqb (kind_of item) kind)) items

abbrev pub Once : List (List ℕ) → Type 0
Once items = (times mp_reach_nlri items ≤ 1) × (times mp_unreach_nlri items ≤ 1)

-- items at the front of a section, and what follows them
pub record Front (s : List ℕ) (items : List (List ℕ)) : Type 0 where
  pub each : Each WellFormed items
  pub rest : List ℕ
  pub whole : joined items ++ rest ≡ s
