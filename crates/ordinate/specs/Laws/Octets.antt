-- Numbers as octets: one octet more, their length, and that octets tell the number.
use Rattle.std.specs.Prelude.{◌≡◌, ℕ, zero, suc, ◌+◌, ◌*◌, ◌/◌, ◌%◌, ◌^◌, ◌<◌, ◌≤◌, List, [], ◌∷◌, ◌++◌, length, take, drop, ℤ, pos, negsuc, neg_ℤ, ◌≤ℤ◌, FitsSigned, slice_index, slice_index_or, refl}
use Rattle.std.proofs.Common.{sym, ap, subst, ◌∙◌, pow-suc, add-one, arith, length-append, drop-cons, of_z, to_z}
use Rattle.std.proofs.Math.Nat.{div-div-eq-div-mul}
use Rattle.std.specs.Int.{w64}
use Rattle.std.proofs.lemmas.Nat.{div-mul-add, mod-mul-add, div_below, div-add-mod'}
use Rattle.std.proofs.lemmas.List.{same_from_push, drop_all, take_all, take_more}
use Rattle.std.specs.Int.Digits.{number_from_digits}
use Rattle.std.proofs.lemmas.Int.Digits.{number_push, number_more}
use Rattle.std.proofs.lemmas.Int.{ints, to_z-of_z, of_z-to_z}
use Rattle.ordinate.specs.Octets.{be, twos, octets_of, coordinate_of}
use Rattle.ordinate.specs.Kinds.{Between}

pub be_zero : (x : ℕ) → be 0 x ≡ []
unfolding be
be_zero x = refl

pub be_suc : (n x : ℕ) → be (suc n) x ≡ be n (x / 256) ++ (x % 256 ∷ [])
unfolding be
be_suc n x = refl

pub be_push : (n x b : ℕ) → b < 256 → be (n + 1) (x * 256 + b) ≡ be n x ++ (b ∷ [])
unfolding be
be_push n x b h = rw (add-one, div-mul-add x 256 b h, mod-mul-add x 256 b h)

pub length_be : (n x : ℕ) → length (be n x) ≡ n
unfolding be
length_be zero x = refl
length_be (suc n) x = length-append (be n (x / 256)) (x % 256 ∷ []) ∙ rw (length_be n (x / 256)) (omega arith)

-- Octets tell a number that is not too large for them.
pub be_same : (n x y : ℕ) → x < 256 ^ n → y < 256 ^ n → be n x ≡ be n y → x ≡ y
unfolding be
be_same zero x y h k e = omega arith
be_same (suc n) x y h k e =
    let p = same_from_push (be n (x / 256)) (be n (y / 256)) (x % 256) (y % 256) e in
    let hx : x < 256 ^ n * 256 = rw (pow-suc 256 n) at h in
    let hy : y < 256 ^ n * 256 = rw (pow-suc 256 n) at k in
    let q = be_same n (x / 256) (y / 256) (div_below x 256 (256 ^ n) (omega arith) hx) (div_below y 256 (256 ^ n) (omega arith) hy) p.0 in
    omega (arith, p.1, q)

pub be_8 : (x : ℕ) → be 8 x ≡ (x / 72057594037927936 % 256) ∷ (x / 281474976710656 % 256) ∷ (x / 1099511627776 % 256) ∷ (x / 4294967296 % 256) ∷ (x / 16777216 % 256) ∷ (x / 65536 % 256) ∷ (x / 256 % 256) ∷ (x % 256) ∷ []
unfolding be
be_8 x = simp div-div-eq-div-mul

be_front : (xs : List ℕ) → ((i : ℕ) → slice_index xs i < 256) → (i : ℕ) → i ≤ length xs → be i (number_from_digits 256 (take i xs)) ≡ take i xs
be_front xs h zero l = be_zero 0
be_front xs h (suc i) l =
    let lt : i < length xs = omega arith in
    let more : number_from_digits 256 (take (suc i) xs) ≡ number_from_digits 256 (take i xs) * 256 + slice_index_or xs i 0 = rw (sym (add-one i)) (number_more 256 xs i lt) in
    let front : take (suc i) xs ≡ take i xs ++ (slice_index xs i ∷ []) = rw (sym (add-one i)) (take_more xs i 0 lt) in
    ap (be (suc i)) more ∙ rw (sym (add-one i)) (be_push i (number_from_digits 256 (take i xs)) (slice_index xs i) (h i)) ∙ ap (λ (ys : List ℕ). ys ++ (slice_index xs i ∷ [])) (be_front xs h i (omega arith)) ∙ sym front

front_small : (xs : List ℕ) → ((i : ℕ) → slice_index xs i < 256) → (i : ℕ) → i ≤ length xs → number_from_digits 256 (take i xs) < 256 ^ i
front_small xs h zero l = omega arith
front_small xs h (suc i) l =
    let lt : i < length xs = omega arith in
    let more : number_from_digits 256 (take (suc i) xs) ≡ number_from_digits 256 (take i xs) * 256 + slice_index_or xs i 0 = rw (sym (add-one i)) (number_more 256 xs i lt) in
    let before = front_small xs h i (omega arith) in
    let d = h i in
    rw (pow-suc 256 i) (omega arith)

number_under : (xs : List ℕ) → ((i : ℕ) → slice_index xs i < 256) → number_from_digits 256 xs < 256 ^ length xs
number_under xs h = subst (λ (ys : List ℕ). number_from_digits 256 ys < 256 ^ length xs) (take_all (length xs) xs (omega arith)) (front_small xs h (length xs) (omega arith))

-- Octets write their number.
pub be_number : (xs : List ℕ) → ((i : ℕ) → slice_index xs i < 256) → be (length xs) (number_from_digits 256 xs) ≡ xs
be_number xs h =
    let step : (i : ℕ) → i ≤ length xs → be i (number_from_digits 256 (take i xs)) ≡ take i xs = be_front xs h in
    ap (λ (ys : List ℕ). be (length xs) (number_from_digits 256 ys)) (sym (take_all (length xs) xs (omega arith))) ∙ step (length xs) (omega arith) ∙ take_all (length xs) xs (omega arith)

pub number_be : (n x : ℕ) → x < 256 ^ n → number_from_digits 256 (be n x) ≡ x
unfolding be
number_be zero x h = omega arith
number_be (suc n) x h =
    let hx : x < 256 ^ n * 256 = rw (pow-suc 256 n) at h in
    number_push 256 (be n (x / 256)) (x % 256) ∙ ap (λ (k : ℕ). k * 256 + x % 256) (number_be n (x / 256) (div_below x 256 (256 ^ n) (omega arith) hx)) ∙ div-add-mod' x 256

-- eight octets written out
as_8 : (xs : List ℕ) → length xs ≡ 8
    → xs ≡ slice_index xs 0 ∷ slice_index xs 1 ∷ slice_index xs 2 ∷ slice_index xs 3 ∷ slice_index xs 4 ∷ slice_index xs 5 ∷ slice_index xs 6 ∷ slice_index xs 7 ∷ []
as_8 xs l =
    let at : (i : ℕ) → i < 8 → drop i xs ≡ slice_index xs i ∷ drop (suc i) xs = (λ i h. drop-cons xs i 0 (omega arith)) in
    at 0 (omega arith)
    ∙ ap (λ (t : List ℕ). slice_index xs 0 ∷ t) (at 1 (omega arith)
    ∙ ap (λ (t : List ℕ). slice_index xs 1 ∷ t) (at 2 (omega arith)
    ∙ ap (λ (t : List ℕ). slice_index xs 2 ∷ t) (at 3 (omega arith)
    ∙ ap (λ (t : List ℕ). slice_index xs 3 ∷ t) (at 4 (omega arith)
    ∙ ap (λ (t : List ℕ). slice_index xs 4 ∷ t) (at 5 (omega arith)
    ∙ ap (λ (t : List ℕ). slice_index xs 5 ∷ t) (at 6 (omega arith)
    ∙ ap (λ (t : List ℕ). slice_index xs 6 ∷ t) (at 7 (omega arith)
    ∙ ap (λ (t : List ℕ). slice_index xs 7 ∷ t) (drop_all 8 xs (omega arith)))))))))

eight_number : (a b c d e f g h : ℕ)
    → number_from_digits 256 (a ∷ b ∷ c ∷ d ∷ e ∷ f ∷ g ∷ h ∷ []) ≡ a * 72057594037927936 + b * 281474976710656 + c * 1099511627776 + d * 4294967296 + e * 16777216 + f * 65536 + g * 256 + h
eight_number a b c d e f g h = omega arith

pub number_8 : (xs : List ℕ) → length xs ≡ 8
    → number_from_digits 256 xs ≡ slice_index xs 0 * 72057594037927936 + slice_index xs 1 * 281474976710656 + slice_index xs 2 * 1099511627776 + slice_index xs 3 * 4294967296 + slice_index xs 4 * 16777216 + slice_index xs 5 * 65536 + slice_index xs 6 * 256 + slice_index xs 7
number_8 xs l = ap (number_from_digits 256) (as_8 xs l) ∙ eight_number (slice_index xs 0) (slice_index xs 1) (slice_index xs 2) (slice_index xs 3) (slice_index xs 4) (slice_index xs 5) (slice_index xs 6) (slice_index xs 7)

-- ---- coordinates
pub twos_is : (z : ℤ) → twos z ≡ of_z w64 z
twos_is (pos n) = refl
twos_is (negsuc n) = refl

pub between_fits : (low high z : ℤ) → neg_ℤ (pos (2 ^ 63)) ≤ℤ low → high ≤ℤ pos 9223372036854775807 → Between low high z → FitsSigned w64 z
between_fits low high (pos n) a b w = record { sfits = omega (arith, ints) }
between_fits low high (negsuc n) a b w = record { sfits = omega (arith, ints) }

twos_small : (z : ℤ) → FitsSigned w64 z → twos z < 18446744073709551616
twos_small (pos n) h = let s = h.sfits in omega (arith, ints)
twos_small (negsuc n) h = omega (arith, ints)

pub octets_same : (y z : ℤ) → FitsSigned w64 y → FitsSigned w64 z → octets_of y ≡ octets_of z → y ≡ z
octets_same y z h k e =
    let back : (x : ℤ) → FitsSigned w64 x → to_z w64 (twos x) ≡ x = (λ x f. ap (to_z w64) (twos_is x) ∙ to_z-of_z w64 x f) in
    sym (back y h) ∙ ap (to_z w64) (be_same 8 (twos y) (twos z) (twos_small y h) (twos_small z k) e) ∙ back z k

pub number_small : (xs : List ℕ) → ((i : ℕ) → slice_index xs i < 256) → (n : ℕ) → length xs ≡ n → number_from_digits 256 xs < 256 ^ n
number_small xs h n l = subst (λ (k : ℕ). number_from_digits 256 xs < 256 ^ k) l (number_under xs h)

-- Eight octets are those of the coordinate that they write, and a coordinate of 64 bits is the one that its octets write.
pub octets_written : (xs : List ℕ) → length xs ≡ 8 → ((i : ℕ) → slice_index xs i < 256) → octets_of (coordinate_of xs) ≡ xs
octets_written xs l h =
    ap (be 8) (twos_is (coordinate_of xs) ∙ of_z-to_z w64 (number_from_digits 256 xs) (number_small xs h 8 l)) ∙ ap (λ (k : ℕ). be k (number_from_digits 256 xs)) (sym l) ∙ be_number xs h

pub coordinate_written : (z : ℤ) → FitsSigned w64 z → coordinate_of (octets_of z) ≡ z
coordinate_written z f = ap (to_z w64) (number_be 8 (twos z) (twos_small z f) ∙ twos_is z) ∙ to_z-of_z w64 z f
