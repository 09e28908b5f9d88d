-- What the steps of a lay hand on to one another; no public call speaks of it.
use Rattle.std.specs.Prelude.{◌≡◌, ◌+◌, ◌≤◌, List, length, None, Ok, Err, Result}
use Rattle.leg.specs.Reasons.{First}
use Rattle.leg.specs.declared.leg.Cell.{Cell}
use Rattle.outlet.specs.Outlets.{Contents, with_legs}
use Rattle.curve.specs.Legs.{Fitted}
use Rattle.curve.specs.Refusals.{point_reasons}
use Rattle.curve.specs.declared.span.Span.{Span}
use Rattle.turn.specs.Calls.{Progress}
use Rattle.turn.specs.Outcomes.{legs_for}
use Rattle.turn.specs.Settings.{Setting}
use Rattle.turn.specs.declared.refusal.Refusal.{Refusal}

module _ {P : Type 0} (A : Setting P) where
  -- Only where its curve starts, the work points and the legs of the curve may still refuse this span.
  pub record Fits (g : Progress P) (c : Contents P) (ps : List P) (s : Span) : Type 0 where
    pub ours : length c.legs ≡ g.count
    pub drawn : First (point_reasons A.kind A.measure A.rule ps) None
    pub from : s.from ≡ g.laid
    pub in_time : s.from + s.ticks ≤ A.end

  -- The legs of the curve are put over the span; where it is refused none is.
  abbrev pub Puts : List P → Span → Result (Unit {0}) Refusal → Contents P → Contents P → Type 0
  Puts ps s (Ok _) c c' =
      (cs : List Cell) × Fitted A.kind A.measure A.rule A.tolerance A.depth ps cs × (c' ≡ with_legs c (legs_for A s.from ps s.ticks cs))
  Puts ps s (Err f) c c' = c' ≡ c
