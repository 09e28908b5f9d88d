-- The legs of a curve: those of the cells that the halving finds.
use Rattle.std.specs.Prelude.{◌≡◌, ℕ, Bool, List, Some}
use Rattle.ordinate.specs.Kinds.{Kind}
use Rattle.distance.specs.Measures.{Measure, point}
use Rattle.bezier.specs.Bernstein.{degree_of}
use Rattle.bezier.specs.Near.{CellNear}
use Rattle.bezier.specs.Reductions.{Rule, number}
use Rattle.bezier.specs.Rounds.{cell_points}
use Rattle.bezier.specs.Tests.{passes}
use Rattle.leg.specs.Chains.{Each}
use Rattle.leg.specs.declared.leg.Cell.{Cell}
use Rattle.leg.specs.declared.leg.Leg.{Leg}
use Rattle.curve.specs.Cells.{halving}
use Rattle.curve.specs.Fewest.{Fewest}

module _ {P : Type 0} (K : Kind P) (M : Measure) (R : Rule P) where
  -- The control-point test of a cell of the curve ps, with the tolerance t.
  abbrev pub passing : ℕ → List P → Cell → Bool
  passing t ps c = passes K M R t c.depth (cell_points K c.depth c.index ps)

  -- The leg of a cell, in a span of L ticks that begins at the tick S.
  abbrev pub leg_of : ℕ → ℕ → List P → Cell → Leg P
  leg_of S L ps c =
      let qs = cell_points K c.depth c.index ps in
      record { stretch = record { from = S; ticks = L; cell = c }; degree = number R.degree; start = point K qs 0; middle = R.middle qs; end = point K qs (degree_of K qs) }

  -- What is promised of the cells of an accepted curve: they divide it, no division has fewer, and at every moment each one's leg is within the tolerance of the curve.
  pub record Fitted (t D : ℕ) (ps : List P) (cs : List Cell) : Type 0 where
    pub fewest : Fewest D (passing t ps) cs
    pub near : Each (λ c. CellNear K M R t ps c.depth c.index) cs
    -- they are the cells of the halving, so there is one answer alone
    pub found : halving D (passing t ps) ≡ Some cs
