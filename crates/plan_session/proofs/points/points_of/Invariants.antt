use Rattle.std.proofs.Common.{◌≡◌, map, take}
use Rattle.plan_session.proofs.points.points_of.Given as goal

abbrev pub invariant-loop-at : goal.invariant-loop-at
invariant-loop-at g l = map g.P.Notation.at l.points.items ≡ take l.at-index l.fn.numbers
