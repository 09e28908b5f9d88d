-- What the program sums fits 64 bits, where the points lie from -C to C.
use Rattle.std.specs.Prelude.{ℕ, ◌+◌, ◌-◌, ◌*◌, ◌^◌, ◌<◌, ◌≤◌, List, length, ℤ, pos, ◌+ℤ◌, ◌-ℤ◌, neg_ℤ, FitsSigned}
use Rattle.std.proofs.Common.{mul-le-mul, mul-le-mul_right, arith, pow_mono}
use borrow.Author.Differences.{ints}
use Rattle.std.specs.Int.{w64}
use Rattle.ordinate.specs.Kinds.{Kind, Lawful}
use Rattle.distance.specs.Measures.{Inside}
use Rattle.distance.specs.Vectors.{◌·◌}
use Rattle.distance.specs.Laws.Bounds as Bound
use Rattle.distance.specs.Laws.Bounds.{In}
use Rattle.bezier.specs.Bernstein.{degree_of}
use Rattle.bezier.specs.Reductions.{matched_sum}
use Rattle.bezier.specs.Shares.{gap_of, shares_of}
use Rattle.bezier.specs.declared.degree.Degree.{Degree}
use Rattle.bezier.specs.declared.degree.Degree.TheVariants.{One, Two}
use Rattle.bezier.specs.declared.shares.Shares.{Shares}
use Rattle.bezier.specs.Laws.Reach.{widen, times_in, matched_sum_in}

pub in_fits : (z : ℤ) (b : ℕ) → b < 2 ^ 63 → In z (pos b) → FitsSigned w64 z
in_fits z b h k = let p = Bound.out z (pos b) k in omega (arith, ints, p.0, p.1)

-- ---- the gap of the control-point test
pub record Small (s : Shares) : Type 0 where
  pub scale_small : s.scale ≤ 64
  pub start_small : s.start ≤ 64
  pub middle_small : s.middle ≤ 128
  pub end_small : s.end ≤ 64

product_small : (a b : ℕ) → a ≤ 8 → b ≤ 8 → a * b ≤ 64
product_small a b h k = let l : a * b ≤ 8 * 8 = mul-le-mul h k in omega arith

pub shares_small : (m : Degree) (n j : ℕ) → n ≤ 8 → j ≤ n → Small (shares_of m n j)
shares_small One n j h k = record { scale_small = omega arith; start_small = omega arith; middle_small = omega arith; end_small = omega arith }
shares_small Two n j h k =
    record {
      scale_small = product_small n (n - 1) h (omega arith);
      start_small = product_small (n - j) (n - j - 1) (omega arith) (omega arith);
      middle_small = let l = product_small j (n - j) (omega arith) (omega arith) in omega arith;
      end_small = product_small j (j - 1) (omega arith) (omega arith);
    }

weighed : (k : ℕ) (x : ℤ) → k ≤ 128 → In x (pos (2 ^ 33)) → In (k · x) (pos (2 ^ 40))
weighed k x h f = let l : k * 2 ^ 33 ≤ 128 * 2 ^ 33 = mul-le-mul_right (2 ^ 33) h in widen (k · x) (k * 2 ^ 33) (2 ^ 40) (omega arith) (times_in k x (2 ^ 33) f)

pub gap_fits : (s : Shares) (x p q z : ℤ) → Small s → In x (pos (2 ^ 33)) → In p (pos (2 ^ 33)) → In q (pos (2 ^ 33)) → In z (pos (2 ^ 33)) → FitsSigned w64 (gap_of s x p q z)
gap_fits s x p q z small hx hp hq hz =
    let a = weighed s.scale x (omega arith) hx in
    let b = weighed s.start p (omega arith) hp in
    let c = weighed s.middle q (omega arith) hq in
    let d = weighed s.end z (omega arith) hz in
    let sum = Bound.added ((s.start · p) +ℤ (s.middle · q)) (s.end · z) (pos (2 ^ 40 + 2 ^ 40)) (pos (2 ^ 40)) (Bound.added (s.start · p) (s.middle · q) (pos (2 ^ 40)) (pos (2 ^ 40)) b c) d in
    let rest = (Bound.turned (((s.start · p) +ℤ (s.middle · q)) +ℤ (s.end · z)) (pos (2 ^ 40 + 2 ^ 40 + 2 ^ 40))).0 sum in
    let both = Bound.added (s.scale · x) (neg_ℤ (((s.start · p) +ℤ (s.middle · q)) +ℤ (s.end · z))) (pos (2 ^ 40)) (pos (2 ^ 40 + 2 ^ 40 + 2 ^ 40)) a rest in
    in_fits (gap_of s x p q z) (2 * (2 ^ 40 + (2 ^ 40 + 2 ^ 40 + 2 ^ 40))) (omega arith) (times_in 2 ((s.scale · x) -ℤ (((s.start · p) +ℤ (s.middle · q)) +ℤ (s.end · z))) (2 ^ 40 + (2 ^ 40 + 2 ^ 40 + 2 ^ 40)) both)

module _ {P : Type 0} (K : Kind P) (law : Lawful K) where
  pub matched_sum_fits : (c : ℕ) (ps : List P) → c ≤ 2147483648 → 1 ≤ length ps → length ps ≤ 9 → Inside K c ps → (i : ℕ) → FitsSigned w64 (matched_sum K ps i)
  matched_sum_fits c ps small h k inside i =
      let n = degree_of K ps in
      let l : n ≤ 8 = omega arith in
      let p : 2 ^ n ≤ 2 ^ 8 = pow_mono l in
      let q : 4 * c ≤ 4 * 2147483648 = omega arith in
      let b : 4 * c * 2 ^ n ≤ 4 * 2147483648 * 2 ^ 8 = mul-le-mul q p in
      in_fits (matched_sum K ps i) (4 * c * 2 ^ n) (omega arith) (matched_sum_in K law c ps h k inside i)
