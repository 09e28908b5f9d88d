-- The halving finds a division with the fewest cells, and finds none only where there is none.
use Rattle.std.specs.Prelude.{◌≡◌, ℕ, ◌+◌, ◌-◌, ◌*◌, ◌^◌, ◌≤◌, Bool, ◌↔◌, List, length, Some, None}
use Rattle.leg.specs.declared.leg.Cell.{Cell}
use Rattle.curve.specs.Cells.{Division, halving, left, right, tested, whole}

-- The curve has a division.
abbrev pub Divisible : ℕ → (Cell → Bool) → Type 0
Divisible D passes = (ds : List Cell) × Division D passes whole ds

-- The list cs is a division, and no other has fewer cells.
pub record Fewest (D : ℕ) (passes : Cell → Bool) (cs : List Cell) : Type 0 where
  pub division : Division D passes whole cs
  pub fewest : (ds : List Cell) → Division D passes whole ds → length cs ≤ length ds

pub record HalvingIsFewest : Type 0 where
  pub nothing : (D : ℕ) (passes : Cell → Bool) → (halving D passes ≡ None) ↔ (¬ (Divisible D passes))
  pub found : (D : ℕ) (passes : Cell → Bool) (cs : List Cell) → halving D passes ≡ Some cs → Fewest D passes cs
  pub tries : (D : ℕ) (passes : Cell → Bool) (cs : List Cell) → halving D passes ≡ Some cs → tested passes left right D whole + 1 ≡ 2 * length cs
  -- Why divisions may be measured in units of 1 / 2^D: down to the depth D, a / 2^d and b / 2^e are as many units exactly where they are the same fraction.
  pub units : (D a d b e : ℕ) → d ≤ D → e ≤ D → (a * 2 ^ (D - d) ≡ b * 2 ^ (D - e)) ↔ (a * 2 ^ e ≡ b * 2 ^ d)
