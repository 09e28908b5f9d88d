-- How the program goes through a curve: a row of work points holds the points of one cell.
use Rattle.std.specs.Prelude.{ℕ, ◌≤◌, Bool, List, map, length, Some, None, Option}
use Rattle.ordinate.specs.Kinds.{Kind}
use Rattle.distance.specs.Measures.{Measure, point}
use Rattle.bezier.specs.Bernstein.{degree_of}
use Rattle.bezier.specs.Reductions.{Rule, number}
use Rattle.bezier.specs.Rounds.{left_half, right_half}
use Rattle.bezier.specs.Tests.{passes}
use Rattle.leg.specs.Chains.{Each}
use Rattle.leg.specs.Legs.{IsLeg}
use Rattle.leg.specs.declared.leg.Cell.{Cell}
use Rattle.leg.specs.declared.leg.Leg.{Leg}
use Rattle.outlet.specs.Outlets.{Contents, room, with_legs}
use Rattle.curve.specs.Cells.{halve, left, right, tested}
use Rattle.curve.specs.declared.tally.Tally.{Tally}

-- A cell with its points.
pub record Piece (P : Type 0) : Type 0 where
  pub cell : Cell
  pub points : List P

abbrev pub piece : {P : Type 0} → Cell → List P → Piece P
piece c ps = record { cell = c; points = ps }

module _ {P : Type 0} (K : Kind P) (M : Measure) (R : Rule P) (t : ℕ) where
  abbrev pub piece_passes : Piece P → Bool
  piece_passes x = passes K M R t x.cell.depth x.points

  abbrev pub left_piece : Piece P → Piece P
  left_piece x = piece (left x.cell) (left_half K x.points)

  abbrev pub right_piece : Piece P → Piece P
  right_piece x = piece (right x.cell) (right_half K x.points)

  -- the pieces that a piece comes to, with so many more halvings, and how many are tested
  abbrev pub pieces : ℕ → Piece P → Option (List (Piece P))
  pieces more x = halve piece_passes left_piece right_piece more x

  abbrev pub pieces_tested : ℕ → Piece P → ℕ
  pieces_tested more x = tested piece_passes left_piece right_piece more x

-- The leg of a piece, in a span of L ticks that begins at the tick S.
abbrev pub piece_leg : {P : Type 0} → Kind P → Rule P → ℕ → ℕ → Piece P → Leg P
piece_leg K R S L x =
    record {
      stretch = record { from = S; ticks = L; cell = x.cell };
      degree = number R.degree;
      start = point K x.points 0;
      middle = R.middle x.points;
      end = point K x.points (degree_of K x.points);
    }

-- What counting them answers.
abbrev pub tally : {X : Type 0} → Option (List X) → ℕ → Option Tally
tally None n = None
tally (Some xs) n = Some (record { legs = length xs; cells = n })

module _ {P X : Type 0} (K : Kind P) (leg : X → Leg P) where
  -- There is a list, room for it, and its legs are legs.
  abbrev pub Ready : Option (List X) → Contents P → Type 0
  Ready None c = ⊥
  Ready (Some xs) c = (length xs ≤ room c) × Each (λ x. IsLeg K (leg x)) xs

-- The outlet with the legs of the list.
abbrev pub handed : {P X : Type 0} → (X → Leg P) → Option (List X) → Contents P → Contents P
handed leg None c = c
handed leg (Some xs) c = with_legs c (map leg xs)
