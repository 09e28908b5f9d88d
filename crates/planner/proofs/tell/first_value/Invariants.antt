use Rattle.std.proofs.Common.{◌≡◌, None, pos, take}
use Rattle.planner.specs.Telling.{FirstTells}
use Rattle.planner.proofs.tell.first_value.Given as goal

abbrev pub invariant-loop-i : goal.invariant-loop-i
invariant-loop-i g l =
    (g.O.Outlet.contents l.outlet ≡ g.O.Outlet.contents l.initial.outlet)
    × FirstTells g.P.Ordinate.kind (take l.i (g.O.Outlet.contents l.initial.outlet).legs) (pos l.tick) None
