use Rattle.std.proofs.Common.{◌≡◌, ◌-◌, length, w64}
use Rattle.std.specs.Int.{int_wrap}
use Rattle.distance.specs.Measures.{point}
use Rattle.distance.specs.Vectors.{◌·◌}
use Rattle.bezier.specs.Bernstein.{choose}
use Rattle.bezier.proofs.Blends.{summed}
use Rattle.bezier.proofs.matching.blend.Given as goal

abbrev pub invariant-loop-j : goal.invariant-loop-j
invariant-loop-j g l = l.sum ≡ int_wrap w64 (summed l.j (λ k. choose (length l.curve.points.now - 1) k · g.P.Ordinate.kind.coordinate (point g.P.Ordinate.kind l.curve.points.now k) l.i))
