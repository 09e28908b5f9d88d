-- De Casteljau's recursion computes the Bernstein form.
use Rattle.std.proofs.Common.{◌≡◌, ℕ, zero, suc, ◌+◌, ◌-◌, ◌*◌, ◌^◌, ◌<◌, ◌≤◌, refl, ap, ◌∙◌, ap₂, pow-suc, arith}
use mathlib.Core.Path.{fun_ext}
use native.Mathlib.Decide.{dec_le}
use native.Mathlib.Nat.{pow-zero}
use Rattle.distance.specs.Vectors.{Vector, ◌⊕◌, ◌⊙◌}
use Rattle.distance.specs.Laws.Ring.{as_diff, same_diff, diffs}
use Rattle.bezier.specs.Bernstein.{bernstein, choose, total}
use Rattle.bezier.proofs.Casteljau.{mix, tail, cast, once}

-- ---- the weights of degree n + 1 from those of degree n
abbrev weight : ℕ → ℕ → ℕ → ℕ → ℕ
weight a b n j = choose n j * a ^ (n - j) * b ^ j

-- past the end of its row every binomial is 0
pub choose_over : (n j : ℕ) → n < j → choose n j ≡ 0
choose_over zero zero h = absurd (omega arith)
choose_over zero (suc j) h = refl
choose_over (suc n) zero h = absurd (omega arith)
choose_over (suc n) (suc j) h = ap₂ ◌+◌ (choose_over n j (omega arith)) (choose_over n (suc j) (omega arith))

choose_first : (n : ℕ) → choose n 0 ≡ 1
choose_first zero = refl
choose_first (suc n) = refl

weight_first : (a b n : ℕ) → weight a b (suc n) 0 ≡ a * weight a b n 0
weight_first a b n =
    let e : suc n - 0 ≡ suc n = omega arith in
    let f : n - 0 ≡ n = omega arith in
    rw (e, f, pow-suc a n, choose_first n) (omega arith)

lower : (a n j : ℕ) → choose n (suc j) * a ^ (n - j) ≡ choose n (suc j) * (a ^ (n - suc j) * a)
lower a n j = go (dec_le (suc j) n)
  where
    go : Dec (suc j ≤ n) → choose n (suc j) * a ^ (n - j) ≡ choose n (suc j) * (a ^ (n - suc j) * a)
    go (yes h) = let e : n - j ≡ suc (n - suc j) = omega arith in ap (λ (x : ℕ). choose n (suc j) * x) (ap (λ (k : ℕ). a ^ k) e ∙ pow-suc a (n - suc j))
    go (no h) = rw (choose_over n (suc j) (omega arith)) (omega arith)

combine : (c d p q a b w : ℕ) → d * p ≡ d * (q * a) → (c + d) * p * (w * b) ≡ a * (d * q * (w * b)) + b * (c * p * w)
combine c d p q a b w h = omega (arith, ap (λ (x : ℕ). x * (w * b)) h)

weight_next : (a b n j : ℕ) → weight a b (suc n) (suc j) ≡ a * weight a b n (suc j) + b * weight a b n j
weight_next a b n j =
    let e : suc n - suc j ≡ n - j = omega arith in
    rw (e, pow-suc b j) (combine (choose n j) (choose n (suc j)) (a ^ (n - j)) (a ^ (n - suc j)) a b (b ^ j) (lower a n j))

weight_over : (a b n : ℕ) → weight a b n (suc n) ≡ 0
weight_over a b n = rw (choose_over n (suc n) (omega arith)) (omega arith)

-- ---- sums whose weights follow that rule
first_step : (a b w w' : ℕ) (x y : Vector) → (a * w) ⊙ x ⊕ (a * w' + b * w) ⊙ y ≡ mix a b (w ⊙ x ⊕ w' ⊙ y) (w ⊙ y)
first_step a b w w' x y = fun_ext (λ i. rw (as_diff (x i), as_diff (y i)) (simp diffs (same_diff _ _ _ _ (omega arith))))

next_step : (a b w w' : ℕ) (x y z : Vector) → mix a b x y ⊕ (a * w' + b * w) ⊙ z ≡ mix a b (x ⊕ w' ⊙ z) (y ⊕ w ⊙ z)
next_step a b w w' x y z = fun_ext (λ i. rw (as_diff (x i), as_diff (y i), as_diff (z i)) (simp diffs (same_diff _ _ _ _ (omega arith))))

follow : (a b : ℕ) (w w' : ℕ → ℕ) → w' 0 ≡ a * w 0 → ((j : ℕ) → w' (suc j) ≡ a * w (suc j) + b * w j)
    → (n : ℕ) (p : ℕ → Vector) → total (suc n) (λ j. w' j ⊙ p j) ≡ mix a b (total (suc n) (λ j. w j ⊙ p j)) (total n (λ j. w j ⊙ p (suc j)))
follow a b w w' f g zero p = ap₂ (λ (k l : ℕ). k ⊙ p 0 ⊕ l ⊙ p 1) f (g 0) ∙ first_step a b (w 0) (w 1) (p 0) (p 1)
follow a b w w' f g (suc n) p =
    ap₂ (λ (x : Vector) (k : ℕ). x ⊕ k ⊙ p (suc (suc n))) (follow a b w w' f g n p) (g (suc n))
    ∙ next_step a b (w (suc n)) (w (suc (suc n))) (total (suc n) (λ j. w j ⊙ p j)) (total n (λ j. w j ⊙ p (suc j))) (p (suc (suc n)))

plus_none : (x y : Vector) (k : ℕ) → k ≡ 0 → x ⊕ k ⊙ y ≡ x
plus_none x y k e = fun_ext (λ i. rw (e, as_diff (x i), as_diff (y i)) (simp diffs (same_diff _ _ _ _ (omega arith))))

sum_cast : (a b n : ℕ) (p : ℕ → Vector) → total n (λ j. weight a b n j ⊙ p j) ≡ cast a b n p
sum_cast a b zero p = ap (λ (k : ℕ). k ⊙ p 0) one ∙ fun_ext (λ i. once (p 0 i))
  where
    one : weight a b 0 0 ≡ 1
    one = rw (pow-zero a, pow-zero b) refl
sum_cast a b (suc n) p =
    follow a b (weight a b n) (weight a b (suc n)) (weight_first a b n) (weight_next a b n) n p
    ∙ ap₂ (mix a b) (plus_none (total n (λ j. weight a b n j ⊙ p j)) (p (suc n)) (weight a b n (suc n)) (weight_over a b n) ∙ sum_cast a b n p) (sum_cast a b n (tail p))

pub bernstein_cast : (n : ℕ) (p : ℕ → Vector) (u v : ℕ) → bernstein n p u v ≡ cast (v - u) u n p
bernstein_cast n p u v = sum_cast (v - u) u n p
