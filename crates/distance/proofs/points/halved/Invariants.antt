use Rattle.distance.specs.Vectors.{half}
use Rattle.distance.proofs.Coordinates.{Written}
use Rattle.distance.proofs.points.halved.Given as goal

abbrev pub invariant-loop-i : goal.invariant-loop-i
invariant-loop-i g l = Written g.P.Ordinate.kind g.met.P.Ordinate.lawful l.middle l.i (half (g.P.Ordinate.kind.coordinate l.a) (g.P.Ordinate.kind.coordinate l.b))
