use Rattle.std.proofs.Common.{◌≡◌, ◌*◌}
use Rattle.std.proofs.Math.Seq.{paste}
use Rattle.ordinate.specs.Kinds.{coordinates}
use Rattle.card.proofs.record.write_point.Given as goal

abbrev pub invariant-loop-i : goal.invariant-loop-i
invariant-loop-i g l = l.into ≡ paste l.initial.into l.at (coordinates l.i (g.P.Ordinate.kind.coordinate l.p)) (8 * l.i)
