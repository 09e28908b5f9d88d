use Rattle.std.proofs.Common.{◌≡◌, ℕ, ◌<◌, ◌≤◌}
use Rattle.leg.specs.Ticks.{Covers}
use Rattle.leg.specs.Values.{leg_value}
use Rattle.planner.specs.Telling.{coordinate_leg}
use Rattle.planner.proofs.value.value_at.Given as goal

abbrev pub invariant-loop-i : goal.invariant-loop-i
invariant-loop-i g l =
    ((j : ℕ) → j < l.i → g.P.Ordinate.kind.coordinate l.point j ≡ leg_value (coordinate_leg g.P.Ordinate.kind l.leg j) l.tick)
    × (1 ≤ l.i → Covers l.leg.stretch l.tick)
