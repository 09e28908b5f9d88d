use Rattle.std.proofs.Common.{ℕ, ◌<◌}
use Rattle.distance.specs.Measures.{Reaches, point}
use Rattle.distance.proofs.points.first_beyond.Given as goal

abbrev pub invariant-loop-j : goal.invariant-loop-j
invariant-loop-j g l = (k : ℕ) → k < l.j → Reaches g.P.Ordinate.kind g.P.Distance.measure.limit (point g.P.Ordinate.kind l.points k)
