-- Weighted coordinates of a leg, and their sums, fit 64 bits.
use Rattle.std.proofs.Common.{◌≡◌, ℤ, pos, ◌+ℤ◌, neg_ℤ, ap₂, arith, w64, SFits, to_z, of_z}
use Rattle.std.proofs.lemmas.Int.{ints}
use Rattle.ordinate.specs.Kinds.{Between}
use Rattle.ordinate.specs.Flows.{flow}
use Rattle.ordinate.specs.Laws.Octets.{between_fits}

-- a coordinate of a flow leg, and the same under a weight
abbrev pub Reached : ℤ → Type 0
Reached z = Between flow.least flow.greatest z

abbrev pub Weighted : ℤ → Type 0
Weighted z = Between (neg_ℤ (pos 288230376151711744)) (pos 288230376151711744) z

pub reached_fits : (z : ℤ) → Reached z → SFits w64 z
reached_fits z h = between_fits flow.least flow.greatest z (omega (arith, ints)) (omega (arith, ints)) h

pub two_sum : (x y : ℤ) → Weighted x → Weighted y → to_z w64 (of_z w64 (to_z w64 (of_z w64 x) +ℤ to_z w64 (of_z w64 y))) ≡ x +ℤ y
two_sum x y a b = omega (arith, ints)

pub three_sum : (x y z : ℤ) → Weighted x → Weighted y → Weighted z
    → to_z w64 (of_z w64 (to_z w64 (of_z w64 x) +ℤ to_z w64 (of_z w64 y))) +ℤ to_z w64 (of_z w64 z) ≡ x +ℤ y +ℤ z
three_sum x y z a b d =
    let q : to_z w64 (of_z w64 z) ≡ z = omega (arith, ints) in
    ap₂ (λ (s t : ℤ). s +ℤ t) (two_sum x y a b) q

pub three_fits : (x y z : ℤ) → Weighted x → Weighted y → Weighted z → SFits w64 (x +ℤ y +ℤ z)
three_fits x y z a b d =
    between_fits (neg_ℤ (pos 1152921504606846976)) (pos 1152921504606846976) (x +ℤ y +ℤ z) (omega (arith, ints)) (omega (arith, ints)) (omega (arith, ints), omega (arith, ints))
