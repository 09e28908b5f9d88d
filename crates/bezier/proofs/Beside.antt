-- The control-point test, as the program computes it.
use Rattle.std.proofs.Common.{◌≡◌, ℕ, zero, suc, ◌-◌, ◌≤◌, Bool, true, false, ◌&&◌, List, ℤ, pos, ◌+ℤ◌, ◌-ℤ◌, sym, refl, ap, ◌∙◌, ap₂, inl, inr, arith, w64, SFits}
use mathlib.Core.Path.{fun_ext}
use borrow.Author.Differences.{ints, same_in}
use Rattle.std.proofs.lemmas.Int.{int_wrap_fits}
use Rattle.std.proofs.lemmas.Bool.{cases_lt}
use Rattle.ordinate.specs.Kinds.{Kind, Lawful}
use Rattle.distance.specs.Measures.{Measure, point}
use Rattle.distance.specs.Vectors.{◌·◌, Vector, ◌⊖◌, ◌⊙◌}
use Rattle.distance.specs.Laws.Ring.{times_is}
use Rattle.bezier.specs.Bernstein.{degree_of}
use Rattle.bezier.specs.Reductions.{Rule}
use Rattle.bezier.specs.Tests.{every, left_over, passes, passes_at, raised, scale}
use Rattle.bezier.specs.Shares.{all_near, gap_of, gap_vector, near_at, shares_of}
use Rattle.bezier.specs.declared.degree.Degree.{Degree}
use Rattle.bezier.specs.declared.degree.Degree.TheVariants.{One, Two}
use Rattle.bezier.specs.declared.shares.Shares.{Shares}
use Rattle.bezier.proofs.Weights.{word}

-- ---- every
and_left : (a b : Bool) → false ≡ a → false ≡ (a && b)
and_left a b e = rw (sym e) refl

and_right : (a b : Bool) → b ≡ false → false ≡ (a && b)
and_right true b e = sym e
and_right false b e = refl

pub every_all : (n : ℕ) (f : ℕ → Bool) → ((k : ℕ) → k ≤ n → f k ≡ true) → true ≡ every n f
every_all zero f h = sym (h 0 (omega arith))
every_all (suc n) f h = rw (sym (every_all n f (λ k l. h k (omega arith))), h (suc n) (omega arith)) refl

pub every_not : (n : ℕ) (f : ℕ → Bool) (j : ℕ) → j ≤ n → f j ≡ false → false ≡ every n f
every_not zero f j l e = let z : 0 ≡ j = omega arith in sym (ap f z ∙ e)
every_not (suc n) f j l e =
    elim (cases_lt j (suc n)) [
      | inl a ↦ and_left (every n f) (f (suc n)) (every_not n f j (omega arith) e)
      | inr b ↦ let z : suc n ≡ j = omega arith in and_right (every n f) (f (suc n)) (ap f z ∙ e)
    ]

every_same : (n : ℕ) (f g : ℕ → Bool) → ((k : ℕ) → k ≤ n → f k ≡ g k) → every n f ≡ every n g
every_same zero f g h = h 0 (omega arith)
every_same (suc n) f g h = ap₂ ◌&&◌ (every_same n f g (λ k l. h k (omega arith))) (h (suc n) (omega arith))

-- ---- the gap
times_zero : (k : ℕ) → k · pos 0 ≡ pos 0
times_zero k = same_in (k · pos 0) (pos 0) (omega (arith, times_is k (pos 0)))

pub gap_same : (s : Shares) {x p q z x' p' q' z' : ℤ} → x ≡ x' → p ≡ p' → q ≡ q' → z ≡ z' → gap_of s x p q z ≡ gap_of s x' p' q' z'
gap_same s ex ep eq ez = rw (ex, ep, eq, ez) refl

gap_zero : (s : Shares) {x p q z : ℤ} → x ≡ pos 0 → p ≡ pos 0 → q ≡ pos 0 → z ≡ pos 0 → gap_of s x p q z ≡ pos 0
gap_zero s ex ep eq ez = gap_same s ex ep eq ez ∙ simp times_zero

none_between : (a c : ℕ) (p q z : ℤ) → ((a · p) +ℤ (0 · q)) +ℤ (c · z) ≡ (a · p) +ℤ (c · z)
none_between a c p q z = ap (λ (y : ℤ). y +ℤ (c · z)) (same_in ((a · p) +ℤ (0 · q)) (a · p) (omega (arith, ints, times_is 0 q)))

gap_is : (m : Degree) (n j : ℕ) (x p q z : Vector) (i : ℕ) → gap_of (shares_of m n j) (x i) (p i) (q i) (z i) ≡ (2 ⊙ (scale m n ⊙ x ⊖ raised m n p q z j)) i
gap_is One n j x p q z i = ap (λ (y : ℤ). 2 · ((n · x i) -ℤ y)) (none_between (n - j) j (p i) (q i) (z i))
gap_is Two n j x p q z i = refl

module _ {P : Type 0} (K : Kind P) (M : Measure) where
  -- past the last coordinate the gap is 0
  pub gap_rest : Lawful K → (s : Shares) (x p q z : P) (i : ℕ) → K.dimension ≤ i → gap_vector K M s x p q z i ≡ pos 0
  gap_rest law s x p q z i l =
      let f : SFits w64 (pos 0) = omega (arith, ints) in
      ap word (gap_zero s (law.rest x i l) (law.rest p i l) (law.rest q i l) (law.rest z i l)) ∙ int_wrap_fits w64 (pos 0) f

  -- one point's test, as the loop over the points makes it
  pub beside : (m : Degree) (ps : List P) (q : P) (r r' : ℤ) (j : ℕ) (b : Bool) (s : Shares) (x p z : P)
      → b ≡ M.within (gap_vector K M s x p q z) r → s ≡ shares_of m (degree_of K ps) j → x ≡ point K ps j → p ≡ point K ps 0 → z ≡ point K ps (degree_of K ps) → r ≡ r'
      → b ≡ near_at K M m ps q r' j
  beside m ps q r r' j b s x p z e es ex ep ez er =
      e
      ∙ ap (λ (v : Shares). M.within (gap_vector K M v x p q z) r) es
      ∙ ap₂ (λ (v : P) (w : P). M.within (gap_vector K M (shares_of m (degree_of K ps) j) v w q z) r) ex ep
      ∙ ap₂ (λ (v : P) (w : ℤ). M.within (gap_vector K M (shares_of m (degree_of K ps) j) (point K ps j) (point K ps 0) q v) w) ez er

  -- Where no gap wraps, the program computes the test.
  pub computed : (R : Rule P) (t d : ℕ) (ps : List P)
      → ((j : ℕ) → j ≤ degree_of K ps → (i : ℕ)
      → SFits w64 (gap_of (shares_of R.degree (degree_of K ps) j) (K.coordinate (point K ps j) i) (K.coordinate (point K ps 0) i) (K.coordinate (R.middle ps) i) (K.coordinate (point K ps (degree_of K ps)) i)))
      → all_near K M R.degree ps (R.middle ps) (scale R.degree (degree_of K ps) · left_over K M t (degree_of K ps) d) ≡ passes K M R t d ps
  computed R t d ps fits =
      let n = degree_of K ps in
      let m = R.degree in
      let x = K.coordinate in
      every_same n (near_at K M m ps (R.middle ps) (scale m n · left_over K M t n d)) (passes_at K M m t d ps (R.middle ps))
      (λ j l. ap (λ (v : Vector). M.within v (scale m n · left_over K M t n d))
      (fun_ext (λ i. int_wrap_fits w64 _ (fits j l i) ∙ gap_is m n j (x (point K ps j)) (x (point K ps 0)) (x (R.middle ps)) (x (point K ps n)) i)))
