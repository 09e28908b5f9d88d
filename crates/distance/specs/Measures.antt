-- What a kind of ordinate adds to its points so that curves of them can be drawn: how vectors are measured, and how far points may lie from zero.
use Rattle.std.specs.Prelude.{◌≡◌, ℕ, ◌*◌, ◌<◌, ◌≤◌, Bool, ◌&&◌, T, ◌↔◌, List, length, ℤ, pos, negsuc, ◌+ℤ◌, neg_ℤ, int_le, slice_index_or}
use Rattle.ordinate.specs.Kinds.{Kind, Between}
pub use Rattle.ordinate.specs.Kinds.{blank}
use Rattle.distance.specs.Vectors.{◌·◌, Vector, origin, ◌⊕◌, opposite, ◌⊖◌, ◌⊙◌, half}

pub record Measure : Type 0 where
  pub limit : ℕ  -- C: the coordinates of a drawn curve lie from -C to C
  pub allowance : ℕ  -- A: what one rounding may cost, in halves
  pub within : Vector → ℤ → Bool  -- whether a vector is within r

-- |z| is at most r
abbrev pub bounded : ℤ → ℤ → Bool
bounded z r = int_le z r && int_le (neg_ℤ z) r

-- ---- the laws

-- What "within" has to satisfy.
pub record Distance (A : ℕ) (Within : Vector → ℤ → Type 0) : Type 0 where
  -- zero is within every r from 0 on, and nothing is within a negative r (negsuc r is -(r + 1))
  pub zero : (r : ℕ) → Within origin (pos r)
  pub none : (x : Vector) (r : ℕ) → ¬ (Within x (negsuc r))
  pub added : (x y : Vector) (r s : ℤ) → Within x r → Within y s → Within (x ⊕ y) (r +ℤ s)
  pub scaled : (k : ℕ) (x : Vector) (r : ℤ) → 1 ≤ k → Within x r ↔ Within (k ⊙ x) (k · r)
  pub turned : (x : Vector) (r : ℤ) → Within x r ↔ Within (opposite x) r
  -- twice what a halving is off by is within the allowance
  pub halved : (x y : Vector) → Within (x ⊕ y ⊖ 2 ⊙ half x y) (pos A)

-- What every measured kind owes.
pub record LawfulMeasure {P : Type 0} (K : Kind P) (M : Measure) : Type 0 where
  pub distance : Distance M.allowance (λ x r. T (M.within x r))
  pub limit_low : 1 ≤ M.limit
  pub limit_high : M.limit ≤ 2147483648
  pub allowance_high : M.allowance ≤ 8
  -- legs may reach four times as far as drawn curves
  pub least : K.least ≡ neg_ℤ (pos (4 * M.limit))
  pub greatest : K.greatest ≡ pos (4 * M.limit)

-- ---- points
module _ {P : Type 0} (K : Kind P) where
  -- the halving of two points
  abbrev pub halfway : P → P → P
  halfway a b = K.made (half (K.coordinate a) (K.coordinate b))

  abbrev pub point : List P → ℕ → P
  point ps j = slice_index_or ps j (blank K)

  -- Every coordinate lies from -c to c.
  abbrev pub Reaches : ℕ → P → Type 0
  Reaches c p = (i : ℕ) → i < K.dimension → Between (neg_ℤ (pos c)) (pos c) (K.coordinate p i)

  -- So it is of every point of the list.
  abbrev pub Inside : ℕ → List P → Type 0
  Inside c ps = (j : ℕ) → j < length ps → Reaches c (point ps j)

  -- The first point of the list that reaches beyond c.
  pub record Beyond (c : ℕ) (ps : List P) (j : ℕ) : Type 0 where
    pub there : j < length ps
    pub beyond : ¬ (Reaches c (point ps j))
    pub first : (i : ℕ) → i < j → Reaches c (point ps i)
