-- Vectors within r, taken with whole weights: the curve of points within r is within r times the sum of its weights.
use Rattle.std.proofs.Common.{◌≡◌, ℕ, zero, suc, ◌+◌, ◌*◌, ◌^◌, ◌≤◌, ℤ, pos, ◌+ℤ◌, sym, subst, subst₂, pow-suc, arith}
use mathlib.Core.Path.{fun_ext}
use native.Mathlib.Nat.{pow-zero}
use Rattle.distance.specs.Vectors.{◌·◌, Vector, origin, ◌⊕◌, ◌⊙◌}
use Rattle.distance.specs.Measures.{Distance}
use Rattle.distance.specs.Laws.Ring.{as-diff, pos-diff, same-diff, diffs}
use Rattle.bezier.proofs.Casteljau.{tail, cast, once}

nought : (r : ℤ) → pos 0 ≡ 0 · r
nought r = rw (as-diff r, pos-diff 0) (simp diffs (same-diff _ _ _ _ (omega arith)))

plus-origin : (x : Vector) → x ⊕ origin ≡ x
plus-origin x = fun_ext (λ i. rw (as-diff (x i), pos-diff 0) (simp diffs (same-diff _ _ _ _ (omega arith))))

both : (a b w : ℕ) (r : ℤ) → a · w · r +ℤ b · w · r ≡ (w * (a + b)) · r
both a b w r = rw (as-diff r) (simp diffs (same-diff _ _ _ _ (omega arith)))

module _ {A : ℕ} {Within : Vector → ℤ → Type 0} (law : Distance A Within) where
  pub times : (k : ℕ) (x : Vector) (r : ℤ) → Within x r → Within (k ⊙ x) (k · r)
  times zero x r h = subst₂ Within (fun_ext (λ i. nought (x i))) (nought r) (law.zero 0)
  times (suc k) x r h = (law.scaled (suc k) x r (omega arith)).0 h

  pub loosened : (x : Vector) (r : ℤ) (k : ℕ) → Within x r → Within x (r +ℤ pos k)
  loosened x r k h = subst (λ y. Within y (r +ℤ pos k)) (plus-origin x) (law.added x origin r (pos k) h (law.zero k))

  pub cast-within : (a b n : ℕ) (p : ℕ → Vector) (r : ℤ) → ((j : ℕ) → j ≤ n → Within (p j) r) → Within (cast a b n p) ((a + b) ^ n · r)
  cast-within a b zero p r h = rw (pow-zero (a + b)) (subst (Within (p 0)) (sym (once r)) (h 0 (omega arith)))
  cast-within a b (suc n) p r h =
      rw (pow-suc (a + b) n, ← (both a b ((a + b) ^ n) r))
      (law.added _ _ _ _ (times a _ _ (cast-within a b n p r (λ j k. h j (omega arith)))) (times b _ _ (cast-within a b n (tail p) r (λ j k. h (suc j) (omega arith)))))
