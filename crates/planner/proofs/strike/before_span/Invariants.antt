use Rattle.std.proofs.Common.{◌≡◌, drop}
use Rattle.leg.specs.Chains.{Each}
use Rattle.planner.specs.Drafts.{StartsAt}
use Rattle.planner.proofs.strike.before_span.Given as goal

abbrev pub invariant-loop-i : goal.invariant-loop-i
invariant-loop-i g l = (g.O.Outlet.contents l.outlet ≡ g.O.Outlet.contents l.initial.outlet) × Each (StartsAt l.start) (drop l.i (g.O.Outlet.contents l.initial.outlet).legs)
