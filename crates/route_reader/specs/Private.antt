-- What private functions ask of each other and put: the words of a row, in the two parts in which a reader puts them; no promise rests on it.
use Rattle.std.specs.Prelude.{ℕ, ◌+◌, ◌≤◌, ◌≡◌, List, [], ◌∷◌, ◌++◌, length, get_or, replicate}
use Rattle.wire.specs.Number.{be_at}
use Rattle.wire.specs.Verdict.{fine}
use Rattle.wire.specs.Walk.{Reading, flat}
use Rattle.families.specs.Family.{id_size, mark_of}
use Rattle.families.specs.declared.Form.{Form}
use Rattle.routes.specs.Prefix.{word_at, words}
use Rattle.routes.specs.declared.Row.{Row}

-- the first word, with a mark, and the id of the item at the front of s
abbrev pub head_words : ℕ → Form → List ℕ → List ℕ
head_words mark form s = (get_or s (id_size form) 0 + mark_of form + mark) ∷ be_at s 0 (id_size form) ∷ []

-- the four words of address octets
abbrev pub address_words : List ℕ → List ℕ
address_words o = word_at o 0 ∷ word_at o 4 ∷ word_at o 8 ∷ word_at o 12 ∷ []

-- n octets at the front of s, at most so many
pub record Octets (most n : ℕ) (s : List ℕ) : Type 0 where
  pub few : n ≤ most
  pub there : n ≤ length s

-- sixteen octets of ones and sixteen of zeros: the mask of the first n of sixteen octets stands from place 16 - n on
abbrev pub all_masks : List ℕ
all_masks = replicate 16 255 ++ replicate 16 0

-- a good reading whose rows fit a store: what filling asks
pub record Fitting (r : Reading Row) (store : List ℕ) : Type 0 where
  pub good : r.verdict ≡ fine
  pub room : length (flat words r.rows) ≤ length store
