-- What a leg that passes the test promises: at every moment it is within the tolerance of the drawn curve, every rounding counted.
use Rattle.std.specs.Prelude.{◌≡◌, ℕ, ◌+◌, ◌-◌, ◌*◌, ◌^◌, ◌<◌, ◌≤◌, true, T, List, length, pos}
use Rattle.ordinate.specs.Kinds.{Kind}
use Rattle.distance.specs.Measures.{Measure, point}
use Rattle.distance.specs.Vectors.{◌·◌, Vector, ◌⊕◌, ◌⊖◌, ◌⊙◌}
use Rattle.bezier.specs.Bernstein.{degree_of, drawn}
use Rattle.bezier.specs.Rounds.{cell_points}
use Rattle.bezier.specs.Reductions.{Rule, number}
use Rattle.bezier.specs.Tests.{passes}
use Rattle.bezier.specs.declared.degree.Degree.{Degree}
use Rattle.bezier.specs.declared.degree.Degree.TheVariants.{One, Two}

-- G(s, v): v^m times the leg from p by q to z, at its local moment s / v
abbrev pub leg_at : Degree → Vector → Vector → Vector → ℕ → ℕ → Vector
leg_at One p q z s v = (v - s) ⊙ p ⊕ s ⊙ z
leg_at Two p q z s v = ((v - s) * (v - s)) ⊙ p ⊕ (2 * s * (v - s)) ⊙ q ⊕ (s * s) ⊙ z

module _ {P : Type 0} (K : Kind P) (M : Measure) where
  -- The leg from p by q to z, of degree m, over the cell (d, k) of the curve ps: at every moment u / v of the cell it is within t of the curve.
  abbrev pub Near : Degree → ℕ → List P → ℕ → ℕ → P → P → P → Type 0
  Near m t ps d k p q z =
      let n = degree_of K ps in
      let x = K.coordinate in
      (u v : ℕ) → 1 ≤ v → k * v ≤ 2 ^ d * u → 2 ^ d * u ≤ (k + 1) * v
      → T (M.within (drawn K ps u v ⊖ (v ^ (n - number m)) ⊙ leg_at m (x p) (x q) (x z) (2 ^ d * u - k * v) v) (v ^ n · pos t))

  -- The leg of the cell (d, k) is near.
  abbrev pub CellNear : Rule P → ℕ → List P → ℕ → ℕ → Type 0
  CellNear R t ps d k = let qs = cell_points K d k ps in Near R.degree t ps d k (point K qs 0) (R.middle qs) (point K qs (degree_of K qs))

  -- The leg of every cell that passes the test is near.
  abbrev pub PassingIsNear : Rule P → Type 0
  PassingIsNear R = (t d k : ℕ) (ps : List P) → R.lowest < length ps → k < 2 ^ d → passes K M R t d (cell_points K d k ps) ≡ true → CellNear R t ps d k
