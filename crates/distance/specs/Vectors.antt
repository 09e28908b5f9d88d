-- Vectors of whole numbers.
use Rattle.std.specs.Prelude.{ℕ, ℤ, pos, ◌+ℤ◌, ◌-ℤ◌, ◌*ℤ◌, neg_ℤ}
-- shr_z z n is z / n, rounded towards minus infinity
use Rattle.std.specs.Int.Signed.{shr_z}

infixr 8 ◌·◌
-- k times z
unfoldable pub ◌·◌ : ℕ → ℤ → ℤ
k · z = pos k *ℤ z

-- A value for each coordinate, from 0.
abbrev pub Vector : Type 0
Vector = ℕ → ℤ

infixl 6 ◌⊕◌ ◌⊖◌
infixr 8 ◌⊙◌
abbrev pub origin : Vector
origin i = pos 0

abbrev pub ◌⊕◌ : Vector → Vector → Vector
(x ⊕ y) i = x i +ℤ y i

abbrev pub opposite : Vector → Vector
opposite x i = neg_ℤ (x i)

abbrev pub ◌⊖◌ : Vector → Vector → Vector
(x ⊖ y) i = x i -ℤ y i

abbrev pub ◌⊙◌ : ℕ → Vector → Vector
(k ⊙ x) i = k · x i

-- Half way between two vectors, each coordinate rounded towards minus infinity.
abbrev pub half : Vector → Vector → Vector
half x y i = shr_z (x i +ℤ y i) 2
