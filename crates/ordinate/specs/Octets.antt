-- Whole numbers as octets.
use Rattle.std.specs.Prelude.{ℕ, zero, suc, ◌-◌, ◌/◌, ◌%◌, ◌^◌, List, [], ◌∷◌, ◌++◌, ℤ, pos, negsuc}
use Rattle.std.proofs.Common.{to_z}
use Rattle.std.specs.Int.{w64}
use Rattle.std.specs.Int.Digits.{number_from_digits}

-- The n lowest octets of x, the most significant first.
unfoldable pub be : ℕ → ℕ → List ℕ
be zero x = []
be (suc n) x = be n (x / 256) ++ (x % 256 ∷ [])

-- A whole number in 64 bits, two's complement. (`negsuc n` is the number -(n + 1).)
abbrev pub twos : ℤ → ℕ
twos (pos n) = n
twos (negsuc n) = 2 ^ 64 - suc n

-- The eight octets of a coordinate.
abbrev pub octets_of : ℤ → List ℕ
octets_of z = be 8 (twos z)

-- The other way round: the coordinate that eight octets write. (`to_z w64` reads a number of 64 bits in two's complement.)
abbrev pub coordinate_of : List ℕ → ℤ
coordinate_of octets = to_z w64 (number_from_digits 256 octets)
