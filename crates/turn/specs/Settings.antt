-- What is agreed for a turn, and when a turn is full.
use Rattle.std.specs.Prelude.{ℕ, ◌≤◌}
use Rattle.ordinate.specs.Kinds.{Kind, Lawful}
use Rattle.distance.specs.Measures.{LawfulMeasure, Measure}
use Rattle.bezier.specs.Reductions.{LawfulReduction, Rule}

-- Over the points P of the program.
pub record Setting (P : Type 0) : Type 0 where
  pub kind : Kind P  -- what the points are
  pub measure : Measure  -- and how they are measured
  pub rule : Rule P  -- the reduction: how a part of a curve becomes one leg
  pub tolerance : ℕ  -- t: how far a leg may be from the drawn curve
  pub depth : ℕ  -- D: how often a curve may be halved
  pub end : ℕ  -- T: the last tick of the turn

-- What the kind, its measure and the reduction owe.
pub record LawfulSetting {P : Type 0} (A : Setting P) : Type 0 where
  pub kind : Lawful A.kind
  pub measure : LawfulMeasure A.kind A.measure
  pub rule : LawfulReduction A.kind A.measure A.rule

-- A turn whose spans stand from tick 0 up to this tick is full: they reach the agreed end.
abbrev pub Full : {P : Type 0} → Setting P → ℕ → Type 0
Full A reached = A.end ≤ reached
