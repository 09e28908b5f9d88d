-- How the program computes the control-point test: by the weights that the points of a leg have in its raised points.
use Rattle.std.specs.Prelude.{ℕ, ◌-◌, ◌*◌, Bool, List, ℤ, ◌+ℤ◌, ◌-ℤ◌}
use Rattle.std.specs.Int.{int_wrap, w64}
use Rattle.ordinate.specs.Kinds.{Kind}
use Rattle.distance.specs.Measures.{Measure, point}
use Rattle.distance.specs.Vectors.{◌·◌, Vector}
use Rattle.bezier.specs.Bernstein.{degree_of}
use Rattle.bezier.specs.Tests.{every, scale}
use Rattle.bezier.specs.declared.degree.Degree.{Degree}
use Rattle.bezier.specs.declared.degree.Degree.TheVariants.{One, Two}
use Rattle.bezier.specs.declared.shares.Shares.{Shares}

abbrev pub shares_of : Degree → ℕ → ℕ → Shares
shares_of One n j = record { scale = scale One n; start = n - j; middle = 0; end = j }
shares_of Two n j = record { scale = scale Two n; start = (n - j) * (n - j - 1); middle = 2 * j * (n - j); end = j * (j - 1) }

-- twice M x, less the raised coordinate
abbrev pub gap_of : Shares → ℤ → ℤ → ℤ → ℤ → ℤ
gap_of s x p q z = 2 · ((s.scale · x) -ℤ (((s.start · p) +ℤ (s.middle · q)) +ℤ (s.end · z)))

module _ {P : Type 0} (K : Kind P) (M : Measure) where
  -- the same of points, modulo 2^64
  abbrev pub gap_vector : Shares → P → P → P → P → Vector
  gap_vector s x p q z i = int_wrap w64 (gap_of s (K.coordinate x i) (K.coordinate p i) (K.coordinate q i) (K.coordinate z i))

  abbrev pub near_at : Degree → List P → P → ℤ → ℕ → Bool
  near_at m ps q r j = let n = degree_of K ps in M.within (gap_vector (shares_of m n j) (point K ps j) (point K ps 0) q (point K ps n)) r

  abbrev pub all_near : Degree → List P → P → ℤ → Bool
  all_near m ps q r = every (degree_of K ps) (near_at m ps q r)
