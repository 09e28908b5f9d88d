-- The octets of one record.
use Rattle.std.specs.Prelude.{ℕ, ◌+◌, ◌*◌, List, [], ◌∷◌, ◌++◌, take, drop}
use Rattle.std.specs.Int.Digits.{number_from_digits}
use Rattle.ordinate.specs.Octets.{be, coordinate_of}
use Rattle.ordinate.specs.Kinds.{Kind, point_octets}
use Rattle.leg.specs.declared.leg.Leg.{Leg}
use Rattle.leg.specs.declared.leg.Stretch.{Stretch}

-- one after another
abbrev pub parts : List (List ℕ) → List ℕ
parts [] = []
parts (xs ∷ xss) = xs ++ parts xss

-- S in four octets, L in two, d and the degree in one each, k in two, and two that are zero
abbrev pub head_octets : Stretch → ℕ → List ℕ
head_octets h m = parts (be 4 h.from ∷ be 2 h.ticks ∷ be 1 h.cell.depth ∷ be 1 m ∷ be 2 h.cell.index ∷ be 2 0 ∷ [])

-- the number that the n octets from `at` on write
abbrev pub field : ℕ → ℕ → List ℕ → ℕ
field at n octets = number_from_digits 256 (take n (drop at octets))

module _ {P : Type 0} (K : Kind P) where
  -- then start, middle and end
  abbrev pub record_octets : Leg P → List ℕ
  record_octets l = parts (head_octets l.stretch l.degree ∷ point_octets K l.start ∷ point_octets K l.middle ∷ point_octets K l.end ∷ [])

  abbrev pub record_length : ℕ
  record_length = 12 + 24 * K.dimension

  -- The point that the octets from `at` on write.
  abbrev pub point_at : ℕ → List ℕ → P
  point_at at octets = K.made (λ i. coordinate_of (take 8 (drop (at + 8 * i) octets)))

  -- The data that stands in a record, whatever its spare octets are; it may be no leg's.
  abbrev pub leg_of : List ℕ → Leg P
  leg_of octets =
      record {
        stretch = record { from = field 0 4 octets; ticks = field 4 2 octets; cell = record { depth = field 6 1 octets; index = field 8 2 octets } };
        degree = field 7 1 octets;
        start = point_at 12 octets;
        middle = point_at (12 + 8 * K.dimension) octets;
        end = point_at (12 + 2 * (8 * K.dimension)) octets;
      }
