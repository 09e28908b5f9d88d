-- Numbers with a minus and without.
use Rattle.std.proofs.Common.{◌≡◌, ◌≢◌, ℕ, zero, suc, ◌+◌, true, false, Option, MatchOption, ◌^◌, ◌<◌, List, [], ◌∷◌, length, get_or, take, drop, ℤ, pos, negsuc, ◌-ℤ◌, decimal, sym, refl, ap, ◌∙◌, subst, inl, inr, arith, w64, SFits, to_z, of_z, rules}
use Rattle.std.proofs.lemmas.Int.{ints, to_z-of_z}
use Rattle.std.proofs.lemmas.Slice.Eq.{strip_prefix_is}
use Rattle.std.specs.Borrow.{Bor}
use Rattle.std.specs.Cmp.{unsigned_Decides}
use Rattle.std.specs.Str.{bytes_eq}
use Rattle.std.proofs.lemmas.Fmt.{decimal_digit}
use Rattle.std.specs.Str.Parse.{digits_value}
use Rattle.decimal.specs.Numbers.{text_of, HasFewDigits, IsNatural, IsNumber}
use Rattle.decimal.proofs.Digits.{natural_text, shape_number}

-- what `strip_prefix` tells of a minus
pub stripped : (text : List ℕ) (r : Option (Bor (List ℕ)))
    → MatchOption r (bytes_eq (take 1 text) (45 ∷ []) ≡ false) (λ x. (bytes_eq (take 1 text) (45 ∷ []) ≡ true) × (x.now ≡ drop 1 text) × (length x.now + 1 ≡ length text))
    → MatchOption r ((rest : List ℕ) → text ≢ 45 ∷ rest) (λ x. text ≡ 45 ∷ x.now)
stripped text r told = strip_prefix_is unsigned_Decides text (45 ∷ []) r told

pub tail_same : (b c : ℕ) (x y : List ℕ) → b ∷ x ≡ c ∷ y → x ≡ y
tail_same b c x y e = cc

-- what may not be typed for a number is the text of none
pub no_text : (text : List ℕ) → (IsNumber text → ⊥) → (z : ℤ) → HasFewDigits z → text ≢ text_of z
no_text text none z few e = none (subst IsNumber (sym e) (shape_number z few))

pub bare_none : (text : List ℕ) → ((rest : List ℕ) → text ≢ 45 ∷ rest) → (IsNatural text → ⊥) → IsNumber text → ⊥
bare_none text bare none (inl h) = none h
bare_none text bare none (inr (ds, e, h, nonzero)) = bare ds e

not_bare : (text rest : List ℕ) → text ≡ 45 ∷ rest → IsNatural text → ⊥
not_bare text rest e h = let first = h.each 0 0 (omega (arith, ap length e)) in omega (arith, first.0, ap (λ l. get_or l 0 0) e)

pub minus_none : (text rest : List ℕ) → text ≡ 45 ∷ rest → (IsNatural rest → ⊥) → IsNumber text → ⊥
minus_none text rest is none (inl h) = not_bare text rest is h
minus_none text rest is none (inr (ds, e, h, nonzero)) = none (subst IsNatural (tail_same 45 45 ds rest (sym e ∙ is)) h)

pub minus_zero : (text rest : List ℕ) → text ≡ 45 ∷ rest → IsNatural rest → digits_value 10 rest ≡ 0 → IsNumber text → ⊥
minus_zero text rest is h zero_is (inl b) = not_bare text rest is b
minus_zero text rest is h zero_is (inr (ds, e, g, nonzero)) =
    nonzero (tail_same 45 45 ds rest (sym e ∙ is) ∙ (natural_text rest h).0 ∙ ap decimal zero_is ∙ decimal_digit 0 (omega arith))

-- what `as i64` leaves of a natural number of few digits, and its negation
pub natural_fits : (n : ℕ) → n < 10 ^ 10 → SFits w64 (pos n)
natural_fits n h = search rules

pub bare_number : (text : List ℕ) (n : ℕ) → IsNatural text → n ≡ digits_value 10 text → HasFewDigits (to_z w64 n) × (text ≡ text_of (to_z w64 n))
bare_number text n h e =
    let t = natural_text text h in
    let small : n < 10 ^ 10 = omega (arith, t.1) in
    let same : to_z w64 n ≡ pos n = to_z-of_z w64 (pos n) (natural_fits n small) in
    subst (λ z. HasFewDigits z × (text ≡ text_of z)) (sym same) (small, t.0 ∙ ap decimal (sym e))

pub minus_number : (text rest : List ℕ) (n : ℕ) → text ≡ 45 ∷ rest → IsNatural rest → n ≡ digits_value 10 rest → n ≢ 0
    → HasFewDigits (to_z w64 (of_z w64 (pos 0 -ℤ to_z w64 n))) × (text ≡ text_of (to_z w64 (of_z w64 (pos 0 -ℤ to_z w64 n))))
minus_number text rest zero is h e some = absurd (some refl)
minus_number text rest (suc m) is h e some =
    let t = natural_text rest h in
    let small : suc m < 10 ^ 10 = omega (arith, t.1) in
    let same : pos 0 -ℤ to_z w64 (suc m) ≡ negsuc m = ap (λ z. pos 0 -ℤ z) (to_z-of_z w64 (pos (suc m)) (natural_fits (suc m) small)) ∙ omega (arith, ints) in
    let fits : SFits w64 (negsuc m) = search rules in
    let whole : to_z w64 (of_z w64 (pos 0 -ℤ to_z w64 (suc m))) ≡ negsuc m = ap (λ z. to_z w64 (of_z w64 z)) same ∙ to_z-of_z w64 (negsuc m) fits in
    subst (λ z. HasFewDigits z × (text ≡ text_of z)) (sym whole) (small, is ∙ ap (λ l. 45 ∷ l) (t.0 ∙ ap decimal (sym e)))
