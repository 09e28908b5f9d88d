use Rattle.distance.proofs.Coordinates.{Written}
use Rattle.bezier.specs.Shares.{gap_vector}
use Rattle.bezier.proofs.test.is_near.Given as goal

abbrev pub invariant-loop-i : goal.invariant-loop-i
invariant-loop-i g l = Written g.P.Ordinate.kind g.met.P.Ordinate.lawful l.v l.i (gap_vector g.P.Ordinate.kind g.P.Distance.measure l.s l.x l.fn.leg.start l.fn.leg.middle l.fn.leg.end)
