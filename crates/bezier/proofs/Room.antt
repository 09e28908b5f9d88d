-- The room of the control-point test fits 64 bits.
use Rattle.std.proofs.Common.{◌≡◌, ℕ, ◌+◌, ◌-◌, ◌*◌, ◌^◌, ◌<◌, ◌≤◌, ℤ, pos, ◌-ℤ◌, ◌*ℤ◌, neg_ℤ, ◌≤ℤ◌, ap, refl, ◌∙◌, mul-le-mul, mul-le-mul_left, arith, w64, SFits, to_z, of_z}
use borrow.Author.Differences.{up, down, fits_in}
use Rattle.std.proofs.lemmas.Int.{ints, to_z-of_z}
use Rattle.distance.specs.Vectors.{◌·◌}
use Rattle.distance.specs.Laws.Ring.{times_is}
use Rattle.bezier.specs.Tests.{scale}
use Rattle.bezier.specs.Shares.{shares_of}
use Rattle.bezier.specs.declared.shares.Shares.{Shares}
use Rattle.bezier.specs.declared.degree.Degree.{Degree}
use Rattle.bezier.specs.declared.degree.Degree.TheVariants.{One, Two}

spent_once : (a n : ℕ) → a ≤ 8 → n ≤ 8 → a * n ≤ 64
spent_once a n h k = let l : a * n ≤ 8 * 8 = mul-le-mul h k in omega arith

pub spent_all : (a n d : ℕ) → a ≤ 8 → n ≤ 8 → d < 2 ^ 32 → a * n * d ≤ 2 ^ 38
spent_all a n d h k f = let s : d ≤ 2 ^ 32 = omega arith in let l : a * n * d ≤ 64 * 2 ^ 32 = mul-le-mul (spent_once a n h k) s in omega arith

pub scale_small : (m : Degree) (n : ℕ) → n ≤ 8 → scale m n ≤ 64
scale_small One n h = omega arith
scale_small Two n h = let k : n - 1 ≤ 8 = omega arith in let l : n * (n - 1) ≤ 8 * 8 = mul-le-mul h k in omega arith

-- a multiple of what lies from -2^38 to 2^33
pub scaled_fits : (k : ℕ) (z : ℤ) → k ≤ 64 → neg_ℤ (pos (2 ^ 38)) ≤ℤ z → z ≤ℤ pos (2 ^ 33) → SFits w64 (to_z w64 k *ℤ z)
unfolding ◌·◌
scaled_fits k z h low high =
    let ek : to_z w64 k ≡ pos k = omega (arith, ints) in
    let a : up z ≤ down z + 2 ^ 33 = omega (arith, ints) in
    let b : down z ≤ up z + 2 ^ 38 = omega (arith, ints) in
    let p : k * up z ≤ k * (down z + 2 ^ 33) = mul-le-mul_left k a in
    let q : k * down z ≤ k * (up z + 2 ^ 38) = mul-le-mul_left k b in
    let f : SFits w64 (k · z) = fits_in w64 (k · z) (omega (arith, times_is k z)) in
    rw ek f

abbrev long : ℤ → ℤ
long x = to_z w64 (of_z w64 x)

room_is : (s t : ℕ) → s ≤ 2 ^ 38 → t < 2 ^ 32 → long (long (pos 2 *ℤ to_z w64 t) -ℤ to_z w64 s) ≡ pos (2 * t) -ℤ pos s
room_is s t hs ht = omega (arith, ints)

pub product_value : (k s t : ℕ) → k ≤ 64 → s ≤ 2 ^ 38 → t < 2 ^ 32 → long (to_z w64 k *ℤ long (long (pos 2 *ℤ to_z w64 t) -ℤ to_z w64 s)) ≡ k · (pos (2 * t) -ℤ pos s)
unfolding ◌·◌
product_value k s t hk hs ht =
    let ek : to_z w64 k ≡ pos k = omega (arith, ints) in
    to_z-of_z w64 _ (scaled_fits k _ hk (omega (arith, ints)) (omega (arith, ints))) ∙ rw (ek, room_is s t hs ht) refl

pub shares_scale : (m : Degree) (n j : ℕ) → (shares_of m n j).scale ≡ scale m n
shares_scale One n j = refl
shares_scale Two n j = refl

-- the scale of the shares in a curve of degree n
pub scale_of : (m : Degree) (k n j : ℕ) (x : Shares) → x ≡ shares_of m k j → k ≡ n → n ≤ 8 → (x.scale ≡ scale m n) × (x.scale ≤ 64)
scale_of m k n j x e f h =
    let q : x.scale ≡ scale m n = ap (λ (y : Shares). y.scale) e ∙ shares_scale m k j ∙ ap (scale m) f in
    let r = scale_small m n h in
    (q, omega arith)
