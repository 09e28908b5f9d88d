-- The main promise: what holds after every list of calls, where the draft and its one outlet both began empty and these calls alone alter them.
use Rattle.std.specs.Prelude.{◌≡◌, ℕ, ◌*◌, ◌≤◌, Bool, true, false, List, [], ◌∷◌, ◌++◌, length, Some, None, Option, ◌==◌}
use Rattle.bezier.specs.Near.{Near}
use Rattle.leg.specs.Chains.{Each, Joined, Seamless, last_or, stretches}
use Rattle.leg.specs.Reasons.{First, refusal}
use Rattle.leg.specs.Ticks.{cells as cells_of, ends_at}
use Rattle.leg.specs.declared.leg.Cell.{Cell}
use Rattle.leg.specs.declared.leg.Leg.{Leg}
use Rattle.leg.specs.declared.leg.Stretch.{Stretch}
use Rattle.outlet.specs.Outlets.{Contents}
use Rattle.curve.specs.Fewest.{Fewest}
use Rattle.turn.specs.Calls.{History, Progress, Seals, Span, end_of, end_tick, last_leg, standing}
use Rattle.turn.specs.Outcomes.{legs_for}
use Rattle.turn.specs.Reasons.{after, cell_passes, reasons}
use Rattle.turn.specs.Settings.{Full, Setting}

-- What ends with this stretch ends at the tick e; with none, it ends at tick 0.
abbrev pub EndsAt : Option Stretch → ℕ → Type 0
EndsAt None e = e ≡ 0
EndsAt (Some h) e = ends_at h ≡ cells_of h * e

module _ {P : Type 0} where
  abbrev pub leg_if : Bool → Leg P → List (Leg P) → List (Leg P)
  leg_if true l ls = l ∷ ls
  leg_if false l ls = ls

  -- The legs with the start tick S, in order: a span's legs are those of the outlet with its start.
  abbrev pub with_start : ℕ → List (Leg P) → List (Leg P)
  with_start S [] = []
  with_start S (l ∷ ls) = leg_if (l.stretch.from == S) l (with_start S ls)

  -- The legs of the spans, one span's after another's.
  abbrev pub legs_of : List (Span P) → List (Leg P) → List (Leg P)
  legs_of [] ls = []
  legs_of (s ∷ ss) ls = legs_of ss ls ++ with_start (end_tick ss) ls

  -- Q holds of each span and the tick at which it starts.
  abbrev pub EachSpan : (ℕ → Span P → Type 0) → List (Span P) → Type 0
  EachSpan Q [] = Unit {0}
  EachSpan Q (s ∷ ss) = Q (end_tick ss) s × EachSpan Q ss

module _ {P : Type 0} (A : Setting P) where
  -- At every moment of its cell the leg is within the tolerance of the curve that was drawn.
  abbrev pub LegNear : Span P → Leg P → Type 0
  LegNear s l = Near A.kind A.measure A.rule.degree A.tolerance s.points l.stretch.cell.depth l.stretch.cell.index l.start l.middle l.end

  -- What these legs are to a span that starts at the tick S.
  pub record SpanLegs (S : ℕ) (s : Span P) (ls : List (Leg P)) : Type 0 where
    -- They are the legs of cells that divide its curve, each of which passes the test and is not deeper than agreed; and no such division has fewer cells.
    pub cells : List Cell
    pub fewest : Fewest A.depth (cell_passes A s.points) cells
    pub made : ls ≡ legs_for A S s.points s.ticks cells
    -- At every moment they are within the tolerance.
    pub near : Each (LegNear s) ls

  -- Each call was refused exactly where a reason for it held of the spans that stood before it, and with the first that did.
  abbrev pub Answered : ℕ → History P → Type 0
  Answered capacity [] = Unit {0}
  Answered capacity (x ∷ h) = First (reasons A (after A capacity (standing h)) x.0) (refusal x.1) × Answered capacity h

  -- Whenever a seal was accepted, the turn was full.
  abbrev pub SealedFull : History P → Type 0
  SealedFull [] = Unit {0}
  SealedFull (x ∷ h) = (Seals x.0 x.1 → Full A (end_tick (standing h))) × SealedFull h

  -- The promise: what holds of the calls made so far, the draft and the outlet.
  pub record Whole (h : History P) (g : Progress P) (c : Contents P) : Type 0 where
    -- The legs run from tick 0 to the end of the standing spans, without gap or overlap.
    pub seamless : Seamless None (stretches c.legs)
    pub reaches : EndsAt (last_or None (stretches c.legs)) (end_tick (standing h))
    -- Each begins at the point that ended the one before.
    pub joined : Joined None c.legs
    -- The draft's count, laid ticks and end value are the number of those legs, the tick they reach and the point that ends the last.
    pub count : g.count ≡ length c.legs
    pub laid : g.laid ≡ end_tick (standing h)
    pub end_value : g.end_value ≡ end_of (last_leg c.legs)
    -- They do not pass the agreed end, and a turn is sealed only when they reach it.
    pub in_time : end_tick (standing h) ≤ A.end
    pub sealed : SealedFull h
    -- The legs of each standing span are those of a division of its curve into the fewest cells, and at every moment they are within the tolerance of it.
    pub spans : EachSpan (λ S s. SpanLegs S s (with_start S c.legs)) (standing h)
    -- There are no other legs, and they stand in the order of the spans.
    pub no_others : c.legs ≡ legs_of (standing h) c.legs
    -- Each call was answered by the first reason that held, and accepted where none did.
    pub answered : Answered c.capacity h
