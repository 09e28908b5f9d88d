-- Which leg a session prints.
use Rattle.std.specs.Prelude.{◌≡◌, ℕ, ◌≤◌, zero, ◌⊎◌, Bool, false, List, length, Some, None, Option, Ok, Err, Result}
use Rattle.ordinate.specs.Flows.{flow}
use Rattle.ordinate.specs.Boxes.{box}
use Rattle.plan_text.specs.Printing.{RefusesShort}
use Rattle.plan_text.specs.declared.refusal.TextRefusal.{TextRefusal}
use Rattle.plan_session.specs.Makings.{LegShown}
use Rattle.plan_session.specs.Sessions.{State, waiting, flow_turn, box_turn, flow_at, box_at}

-- Before a turn there is none.
abbrev pub NoLegShown : List ℕ → Result (Option ℕ) TextRefusal → List ℕ → Type 0
NoLegShown old (Ok (Some n)) new = ⊥
NoLegShown old (Ok None) new = (160 ≤ length old) × (new ≡ old)
NoLegShown old (Err f) new = RefusesShort old f new

-- Leg i of the sealed turn, if there is one.
abbrev pub ShowsLeg : State → ℕ → List ℕ → Result (Option ℕ) TextRefusal → List ℕ → Type 0
ShowsLeg waiting i old r new = NoLegShown old r new
ShowsLeg (flow_turn m) i old r new = LegShown flow flow_at m i old r new
ShowsLeg (box_turn m) i old r new = LegShown box box_at m i old r new

abbrev pub sealed_state : State → Bool
sealed_state waiting = false
sealed_state (flow_turn m) = m.sealed
sealed_state (box_turn m) = m.sealed

abbrev pub legs_in : State → ℕ
legs_in waiting = zero
legs_in (flow_turn m) = length m.contents.legs
legs_in (box_turn m) = length m.contents.legs

-- Where the promise holds, nothing is printed only where there is no such leg.
abbrev pub NoSuchLeg : State → ℕ → Option ℕ → Type 0
NoSuchLeg s i (Some n) = Unit {0}
NoSuchLeg s i None = (sealed_state s ≡ false) ⊎ (legs_in s ≤ i)
