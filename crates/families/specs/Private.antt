-- What private functions ask of each other: no promise rests on it.
use Rattle.std.specs.Prelude.{ℕ, ◌+◌, List, [], ◌∷◌, ◌++◌, get_or, set}

-- d with the entries of t at some places, put one after another
abbrev pub copied : List ℕ → List ℕ → List ℕ → List ℕ
copied t d [] = d
copied t d (i ∷ is) = copied t (set d i (get_or t i 0)) is

-- four places from `at` on and the four that stand 128 after them, by turns
abbrev pub eight : ℕ → List ℕ
eight at = at ∷ (at + 128) ∷ (at + 1) ∷ (at + 129) ∷ (at + 2) ∷ (at + 130) ∷ (at + 3) ∷ (at + 131) ∷ []

-- twice as many
abbrev pub sixteen : ℕ → List ℕ
sixteen at = eight at ++ eight (at + 4)

-- every place of a table
abbrev pub places : List ℕ
places = sixteen 0 ++ sixteen 8 ++ sixteen 16 ++ sixteen 24 ++ sixteen 32 ++ sixteen 40 ++ sixteen 48 ++ sixteen 56 ++ sixteen 64 ++ sixteen 72 ++ sixteen 80 ++ sixteen 88 ++ sixteen 96 ++ sixteen 104 ++ sixteen 112 ++ sixteen 120
