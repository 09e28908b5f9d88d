use Rattle.std.proofs.Common.{◌≡◌, take, replicate}
use Rattle.distance.specs.Measures.{blank}
use Rattle.curve.proofs.work.wipe.Given as goal

abbrev pub invariant-loop-i : goal.invariant-loop-i
invariant-loop-i g l = take l.i l.work ≡ replicate l.i (blank g.P.Ordinate.kind)
