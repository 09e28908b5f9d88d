-- What a kind of ordinate is: as much of it as a leg and a card need.
use Rattle.std.specs.Prelude.{◌≡◌, ℕ, zero, suc, ◌+◌, ◌*◌, ◌^◌, ◌<◌, ◌≤◌, List, [], ◌++◌, ℤ, pos, neg_ℤ, ◌≤ℤ◌, ◌≢◌}
use Rattle.ordinate.specs.Octets.{octets_of, coordinate_of}

-- A kind of ordinate, over the points P of the program.
pub record Kind (P : Type 0) : Type 0 where
  pub code : ℕ  -- the octet that names it on a card
  pub dimension : ℕ  -- how many coordinates a point has
  pub least : ℤ  -- the least coordinate that a leg may have
  pub greatest : ℤ  -- and the greatest
  pub coordinate : P → ℕ → ℤ  -- coordinate i, from 0; past the last it is 0
  pub made : (ℕ → ℤ) → P  -- the point with these coordinates

abbrev pub Between : ℤ → ℤ → ℤ → Type 0
Between low high z = (low ≤ℤ z) × (z ≤ℤ high)

-- What every kind owes.
pub record Lawful {P : Type 0} (K : Kind P) : Type 0 where
  pub octet : K.code < 256
  pub some : 1 ≤ K.dimension
  -- the length of a record, with three points, fits the two octets that a card has for it
  pub few : 12 + 24 * K.dimension < 65536
  -- zero is in the range, and the range in 64 bits
  pub range_low : Between (neg_ℤ (pos (2 ^ 63))) (pos 0) K.least
  pub range_high : (pos 0 ≤ℤ K.greatest) × (K.greatest ≤ℤ pos 9223372036854775807)
  pub rest : (p : P) (i : ℕ) → K.dimension ≤ i → K.coordinate p i ≡ pos 0
  pub remade : (f : ℕ → ℤ) (i : ℕ) → i < K.dimension → K.coordinate (K.made f) i ≡ f i
  -- a point is its coordinates
  pub same : (p q : P) → ((i : ℕ) → i < K.dimension → K.coordinate p i ≡ K.coordinate q i) → p ≡ q

-- The octets of the first n coordinates, one after another.
unfoldable pub coordinates : ℕ → (ℕ → ℤ) → List ℕ
coordinates zero f = []
coordinates (suc n) f = coordinates n f ++ octets_of (f n)

module _ {P : Type 0} (K : Kind P) where
  abbrev pub point_octets : P → List ℕ
  point_octets p = coordinates K.dimension (K.coordinate p)

  -- the point whose coordinates are all 0
  abbrev pub blank : P
  blank = K.made (λ i. pos 0)

  -- A coordinate that a leg may have.
  abbrev pub Admitted : ℤ → Type 0
  Admitted z = Between K.least K.greatest z

  abbrev pub InRange : P → Type 0
  InRange p = (i : ℕ) → i < K.dimension → Admitted (K.coordinate p i)

  -- q is p with its coordinate i, if it has one, as these octets write it.
  pub record Set (p : P) (i : ℕ) (octets : List ℕ) (q : P) : Type 0 where
    pub here : i < K.dimension → K.coordinate q i ≡ coordinate_of octets
    pub others : (j : ℕ) → (j ≢ i) → K.coordinate q j ≡ K.coordinate p j

-- how far from zero a leg's flows may lie
abbrev pub reach : ℕ
reach = 8589934592

-- the coordinates of points that have one or two
abbrev pub one : ℤ → ℕ → ℤ
one a zero = a
one a (suc _) = pos 0

abbrev pub two : ℤ → ℤ → ℕ → ℤ
two a b zero = a
two a b (suc i) = one b i
