-- Decimals of at most ten digits, digit by digit.
use Rattle.std.proofs.Common.{◌≡◌, ℕ, zero, suc, ◌+◌, ◌-◌, ◌*◌, ◌^◌, ◌<◌, ◌≤◌, List, length, get_or, take, ℤ, pos, negsuc, decimal, sym, refl, ap, ◌∙◌, subst, inl, inr, le_trans, arith, length-take-le, rules}
use lib.Seq.{take-length}
use native.Mathlib.Nat.{pow-le-pow_right}
use Rattle.std.specs.Int.{IsInRange}
use Rattle.std.specs.Char.{digit_value}
use Rattle.std.specs.Str.Parse.{AllDigits, digits_value}
use Rattle.std.proofs.lemmas.Str.Parse.{IsNumeralModel, digit_at, numerals_by_value, tells_digits, tells_by_index}
use Rattle.std.proofs.lemmas.List.{get_or_default}
use Rattle.std.proofs.lemmas.Int.Digits.{digits_value-lt, digits_value_more, digits_more}
use Rattle.std.proofs.lemmas.Fmt.{decimal_is_IsNumeral, decimal_nonempty, length-decimal-le, first_decimal, decimal_digit, decimal-digits_value}
use Rattle.decimal.specs.Numbers.{text_of, HasFewDigits, IsNatural, IsNumber}

value_of_digit : (c : ℕ) → 48 ≤ c → c ≤ 57 → digit_value c ≡ c - 48
value_of_digit c l h = search rules

-- the digits so far, and the number that they write
pub record SoFar (text : List ℕ) (i n : ℕ) : Type 0 where
  pub digits : AllDigits 10 (take i text)
  pub value : n ≡ digits_value 10 (take i text)

bounded : (text : List ℕ) (i n : ℕ) → SoFar text i n → i ≤ length text → n < 10 ^ i
bounded text i n s within =
    subst (λ k. n < 10 ^ k) (length-take-le i text within)
    (subst (λ v. v < 10 ^ length (take i text)) (sym s.value) (digits_value-lt 10 (take i text) s.digits))

pub room : (text : List ℕ) (i n : ℕ) → SoFar text i n → i ≤ 10 → i ≤ length text → n < 10 ^ 10
room text i n s small within = le_trans (bounded text i n s within) (pow-le-pow_right (omega arith) small)

pub one_more : (text : List ℕ) (i n : ℕ) → SoFar text i n → i < length text → IsInRange 48 57 (get_or text i 0) → SoFar text (i + 1) (n * 10 + (get_or text i 0 - 48))
one_more text i n s lt h =
    let d : digit_value (get_or text i 0) ≡ get_or text i 0 - 48 = value_of_digit _ h.0 h.1 in
    record {
      digits = digits_more 10 text i lt s.digits (omega (arith, d));
      value = (λ j. s.value j * 10 + sym d j) ∙ sym (digits_value_more 10 text i lt);
    }

pub all_read : (text : List ℕ) (n : ℕ) → SoFar text (length text) n → AllDigits 10 text × (n ≡ digits_value 10 text)
all_read text n s =
    let all : take (length text) text ≡ text = take-length text in
    (subst (AllDigits 10) all s.digits, s.value ∙ ap (digits_value 10) all)

pub is_natural : (ds : List ℕ) → 1 ≤ length ds → length ds ≤ 10 → AllDigits 10 ds → (get_or ds 0 0 ≡ 48 → length ds ≡ 1) → IsNatural ds
is_natural ds some few digits plain = record { some = some; few = few; each = each; plain = plain }
  where
    each : (k d : ℕ) → k < length ds → IsInRange 48 57 (get_or ds k d)
    each k d h = rw (get_or_default ds k d 0 h) (digit_at ds k digits h)

digits_of : (ds : List ℕ) → IsNatural ds → AllDigits 10 ds
digits_of ds h = (numerals_by_index).to ds (λ i l. h.each i 0 l)
  where
    numerals_by_index : IsNumeralModel (λ ds. (i : ℕ) → i < length ds → IsInRange 48 57 (get_or ds i 0)) (digits_value 10)
    numerals_by_index = numerals_by_value _ tells_by_index

-- a natural number's digits are its text
pub natural_text : (ds : List ℕ) → IsNatural ds → (ds ≡ decimal (digits_value 10 ds)) × (digits_value 10 ds < 10 ^ 10)
natural_text ds h =
    let small : digits_value 10 ds < 10 ^ 10 = le_trans (digits_value-lt 10 ds (digits_of ds h)) (pow-le-pow_right (omega arith) h.few) in
    (sym (decimal-digits_value (numerals_by_value (AllDigits 10) tells_digits) ds (digits_of ds h) h.some h.plain (omega arith)), small)

pub text_natural : (n : ℕ) → n < 10 ^ 10 → IsNatural (decimal n)
text_natural n h =
    is_natural (decimal n) (decimal_nonempty n (omega arith)) (length-decimal-le 10 n (omega arith) h (omega arith)) (decimal_is_IsNumeral n (omega arith)).0.1 (plain n h)
  where
    plain : (n : ℕ) → n < 10 ^ 10 → get_or (decimal n) 0 0 ≡ 48 → length (decimal n) ≡ 1
    plain zero h e = ap length (decimal_digit 0 (omega arith))
    plain (suc m) h e = absurd (omega (arith, first_decimal (suc m) (omega arith) (omega arith)))

-- the text of each number of few digits may be typed
pub shape_number : (z : ℤ) → HasFewDigits z → IsNumber (text_of z)
shape_number (pos n) h = inl (text_natural n h)
shape_number (negsuc n) h = inr (decimal (suc n), refl, text_natural (suc n) h, λ e. absurd (omega (arith, first_decimal (suc n) (omega arith) (omega arith), ap (λ l. get_or l 0 0) e)))
