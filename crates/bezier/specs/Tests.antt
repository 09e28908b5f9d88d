-- The control-point test: a leg, raised to the degree of the curve, beside the curve's own points.
use Rattle.std.specs.Prelude.{ℕ, zero, suc, ◌-◌, ◌*◌, Bool, ◌&&◌, List, ℤ, pos, ◌-ℤ◌}
use Rattle.ordinate.specs.Kinds.{Kind}
use Rattle.distance.specs.Measures.{Measure, point}
use Rattle.distance.specs.Vectors.{◌·◌, Vector, ◌⊕◌, ◌⊖◌, ◌⊙◌}
use Rattle.bezier.specs.Bernstein.{degree_of}
use Rattle.bezier.specs.Reductions.{Rule}
use Rattle.bezier.specs.declared.degree.Degree.{Degree}
use Rattle.bezier.specs.declared.degree.Degree.TheVariants.{One, Two}

-- M: raised to degree n, the points of a leg are taken M times over, so that they are whole.
abbrev pub scale : Degree → ℕ → ℕ
scale One n = n
scale Two n = n * (n - 1)

-- Ej: M times point j of the leg from p by q to z, raised to degree n
abbrev pub raised : Degree → ℕ → Vector → Vector → Vector → ℕ → Vector
raised One n p q z j = (n - j) ⊙ p ⊕ j ⊙ z
raised Two n p q z j = ((n - j) * (n - j - 1)) ⊙ p ⊕ (2 * j * (n - j)) ⊙ q ⊕ (j * (j - 1)) ⊙ z

-- f 0 and .. and f n
abbrev pub every : ℕ → (ℕ → Bool) → Bool
every zero f = f 0
every (suc n) f = every n f && f (suc n)

module _ {P : Type 0} (K : Kind P) (M : Measure) where
  -- 2 t - A n d: twice the tolerance, less what d halvings of a curve of degree n may have cost
  abbrev pub left_over : ℕ → ℕ → ℕ → ℤ
  left_over t n d = pos (2 * t) -ℤ pos (M.allowance * n * d)

  -- Point j of a cell of depth d beside the leg that has the middle q.
  abbrev pub passes_at : Degree → ℕ → ℕ → List P → P → ℕ → Bool
  passes_at m t d ps q j =
      let n = degree_of K ps in
      let x = K.coordinate in
      M.within (2 ⊙ (scale m n ⊙ x (point K ps j) ⊖ raised m n (x (point K ps 0)) (x q) (x (point K ps n)) j)) (scale m n · left_over t n d)

  -- The leg of the cell's points stays within the tolerance t.
  abbrev pub passes : Rule P → ℕ → ℕ → List P → Bool
  passes R t d ps = every (degree_of K ps) (passes_at R.degree t d ps (R.middle ps))
