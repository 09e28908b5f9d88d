-- Whole numbers as text.
use Rattle.std.specs.Prelude.{◌≡◌, ◌≢◌, ℕ, suc, ◌^◌, ◌<◌, ◌≤◌, ◌⊎◌, List, [], ◌∷◌, length, ℤ, pos, negsuc, slice_index, All}
use Rattle.std.specs.Int.{IsInRange}
use Rattle.std.specs.Fmt.{signed_decimal}

-- The text of a whole number, as `{}` prints it.
abbrev pub text_of : ℤ → List ℕ
text_of z = signed_decimal z

-- A whole number of at most ten digits. (`negsuc n` is the number -(n + 1).)
abbrev pub HasFewDigits : ℤ → Type 0
HasFewDigits (pos n) = n < 10 ^ 10
HasFewDigits (negsuc n) = suc n < 10 ^ 10

-- One to ten digits, the first of them no 0 unless it stands alone. (48 is the octet of 0, and 57 that of 9.)
pub record IsNatural (digits : List ℕ) : Type 0 where
  pub some : 1 ≤ length digits
  pub few : length digits ≤ 10
  pub each : All (IsInRange 48 57) digits
  pub plain : slice_index digits 0 ≡ 48 → length digits ≡ 1

-- The same behind an optional minus, which is the octet 45; but minus zero is none.
abbrev pub IsNumber : List ℕ → Type 0
IsNumber text = IsNatural text ⊎ ((digits : List ℕ) × (text ≡ 45 ∷ digits) × IsNatural digits × (digits ≢ 48 ∷ []))
