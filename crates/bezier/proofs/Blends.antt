-- Sums of points, one after another.
use Rattle.std.proofs.Common.{◌≡◌, ℕ, zero, suc, ◌+◌, ℤ, pos, ◌+ℤ◌, refl, ap, add-one, arith}
use borrow.Author.Differences.{ints, same_in}
use Rattle.distance.specs.Vectors.{Vector}
use Rattle.bezier.specs.Bernstein.{total}

-- the sum of the first k values of f
abbrev pub summed : ℕ → (ℕ → ℤ) → ℤ
summed zero f = pos 0
summed (suc k) f = summed k f +ℤ f k

pub summed_more : (k : ℕ) (f : ℕ → ℤ) → summed k f +ℤ f k ≡ summed (k + 1) f
summed_more k f = rw add-one refl

zero_first : (x : ℤ) → x ≡ pos 0 +ℤ x
zero_first x = same_in x (pos 0 +ℤ x) (omega (arith, ints))

pub total_summed : (n : ℕ) (f : ℕ → Vector) (i : ℕ) → total n f i ≡ summed (suc n) (λ j. f j i)
total_summed zero f i = zero_first (f 0 i)
total_summed (suc n) f i = ap (λ (x : ℤ). x +ℤ f (suc n) i) (total_summed n f i)
