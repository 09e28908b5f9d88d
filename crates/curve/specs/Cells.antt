-- Cells of a curve, what it is for a list of them to divide it, and the halving that finds such a list.
use Rattle.std.specs.Prelude.{◌≡◌, ℕ, zero, suc, ◌+◌, ◌-◌, ◌*◌, ◌^◌, ◌<◌, ◌≤◌, Bool, true, false, cond, List, [], ◌∷◌, ◌++◌, Some, None, Option}
use Rattle.leg.specs.Chains.{Each}
use Rattle.leg.specs.declared.leg.Cell.{Cell}

-- The cell of depth d and index k: the moments from k / 2^d to (k + 1) / 2^d of the curve.
abbrev pub cell : ℕ → ℕ → Cell
cell d k = record { depth = d; index = k }

abbrev pub whole : Cell
whole = cell 0 0

abbrev pub left : Cell → Cell
left c = cell (c.depth + 1) (2 * c.index)

abbrev pub right : Cell → Cell
right c = cell (c.depth + 1) (2 * c.index + 1)

-- ---- divisions

-- Moments in units of 1 / 2^D of the curve, where D is the largest depth: how long a cell is, and where it begins and ends.
abbrev pub span : ℕ → Cell → ℕ
span D c = 2 ^ (D - c.depth)

abbrev pub begin : ℕ → Cell → ℕ
begin D c = c.index * span D c

abbrev pub end : ℕ → Cell → ℕ
end D c = (c.index + 1) * span D c

-- The cells stand one behind the other from the moment a to the moment b: the first begins at a, each other one where the one before ends, and the last ends at b.
abbrev pub Covers : ℕ → ℕ → List Cell → ℕ → Type 0
Covers D a [] b = a ≡ b
Covers D a (c ∷ cs) b = (begin D c ≡ a) × Covers D (end D c) cs b

-- A cell that a division may have: it is a cell of the curve, no deeper than D, and it passes the test.
pub record Allowed (D : ℕ) (passes : Cell → Bool) (c : Cell) : Type 0 where
  pub inside : c.index < 2 ^ c.depth
  pub shallow : c.depth ≤ D
  pub passed : passes c ≡ true

-- The list cs divides the cell c.
pub record Division (D : ℕ) (passes : Cell → Bool) (c : Cell) (cs : List Cell) : Type 0 where
  pub allowed : Each (Allowed D passes) cs
  pub covers : Covers D (begin D c) cs (end D c)

-- ---- the halving: a cell that passes stands alone, one that fails is halved, and one that fails and may not be halved any more gives nothing

abbrev pub both : {X : Type 0} → Option (List X) → Option (List X) → Option (List X)
both None o = None
both (Some xs) None = None
both (Some xs) (Some ys) = Some (xs ++ ys)

abbrev pub alone_or : {X : Type 0} → Bool → X → Option (List X) → Option (List X)
alone_or true c o = Some (c ∷ [])
alone_or false c o = o

-- Over anything that is tested and has halves; `more` is how many more times it may be halved.
module _ {X : Type 0} (passes : X → Bool) (left_of right_of : X → X) where
  abbrev pub halve : ℕ → X → Option (List X)
  halve zero c = alone_or (passes c) c None
  halve (suc more) c = alone_or (passes c) c (both (halve more (left_of c)) (halve more (right_of c)))

  -- how many are tested in all, where the halving gives a list
  abbrev pub tested : ℕ → X → ℕ
  tested zero c = 1
  tested (suc more) c = cond (passes c) 1 (1 + tested more (left_of c) + tested more (right_of c))

-- The halving of a curve.
abbrev pub halving : ℕ → (Cell → Bool) → Option (List Cell)
halving D passes = halve passes left right D whole
