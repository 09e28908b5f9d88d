-- How lists are written.
use Rattle.std.specs.Prelude.{ℕ, List, [], ◌∷◌, ◌++◌}

-- Each item behind one space, the octet 32.
abbrev pub spaced : List (List ℕ) → List ℕ
spaced [] = []
spaced (item ∷ items) = 32 ∷ (item ++ spaced items)

-- A list: its name and its items between brackets, the octets 40 and 41, with one space before each item.
abbrev pub listed : List ℕ → List (List ℕ) → List ℕ
listed name items = 40 ∷ (name ++ (spaced items ++ (41 ∷ [])))

-- a list of one item
abbrev pub field : List ℕ → List ℕ → List ℕ
field name item = listed name (item ∷ [])
