-- The points of a part of a curve, by rounds of halving.
use Rattle.std.specs.Prelude.{ℕ, zero, suc, ◌/◌, ◌%◌, List, [], ◌∷◌, ◌++◌, length}
use Rattle.ordinate.specs.Kinds.{Kind}
use Rattle.distance.specs.Measures.{halfway, point}

module _ {P : Type 0} (K : Kind P) where
  -- The round after: the halvings of neighbours.
  abbrev pub between : P → List P → List P
  between p [] = []
  between p (q ∷ ps) = halfway K p q ∷ between q ps

  abbrev pub next_round : List P → List P
  next_round [] = []
  next_round (p ∷ ps) = between p ps

  -- Of k points: the first points of the rounds 0 to k - 1, and the last points of the rounds k - 1 to 0.
  abbrev pub firsts : ℕ → List P → List P
  firsts zero ps = []
  firsts (suc k) ps = point K ps 0 ∷ firsts k (next_round ps)

  abbrev pub lasts : ℕ → List P → List P
  lasts zero ps = []
  lasts (suc k) ps = lasts k (next_round ps) ++ (point K ps k ∷ [])

  abbrev pub left_half : List P → List P
  left_half ps = firsts (length ps) ps

  abbrev pub right_half : List P → List P
  right_half ps = lasts (length ps) ps

  -- the left half at 0, the right half at 1
  abbrev pub half_points : ℕ → List P → List P
  half_points zero ps = left_half ps
  half_points (suc _) ps = right_half ps

  -- The points of the cell (d, k) of the curve ps: the cell (d + 1, k) is a half of the cell (d, k / 2), the left one where k is even.
  abbrev pub cell_points : ℕ → ℕ → List P → List P
  cell_points zero k ps = ps
  cell_points (suc d) k ps = half_points (k % 2) (cell_points d (k / 2) ps)
