-- The Bernstein form of a curve.
use Rattle.std.specs.Prelude.{ℕ, zero, suc, ◌+◌, ◌-◌, ◌*◌, ◌^◌, List, length}
use Rattle.ordinate.specs.Kinds.{Kind}
use Rattle.distance.specs.Measures.{point}
use Rattle.distance.specs.Vectors.{Vector, ◌⊕◌, ◌⊙◌}

-- The binomials, by the sum rule of neighbours.
abbrev pub choose : ℕ → ℕ → ℕ
choose zero zero = 1
choose zero (suc j) = 0
choose (suc n) zero = 1
choose (suc n) (suc j) = choose n j + choose n (suc j)

-- f 0 + .. + f n
abbrev pub total : ℕ → (ℕ → Vector) → Vector
total zero f = f 0
total (suc n) f = total n f ⊕ f (suc n)

-- The sum of C(n, i) (v - u)^(n - i) u^i p i over i from 0 to n: v^n times the curve of the points p, at the moment u / v.
abbrev pub bernstein : ℕ → (ℕ → Vector) → ℕ → ℕ → Vector
bernstein n p u v = total n (λ i. (choose n i * (v - u) ^ (n - i) * u ^ i) ⊙ p i)

module _ {P : Type 0} (K : Kind P) where
  -- n, of n + 1 points
  abbrev pub degree_of : List P → ℕ
  degree_of ps = length ps - 1

  -- F(u, v) of the drawn points
  abbrev pub drawn : List P → ℕ → ℕ → Vector
  drawn ps u v = bernstein (degree_of ps) (λ i. K.coordinate (point K ps i)) u v
