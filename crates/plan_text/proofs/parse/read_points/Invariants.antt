use Rattle.std.proofs.Common.{length}
use Rattle.plan_text.specs.Lexing.{left}
use Rattle.plan_text.proofs.Points.{PointsSoFar}
use Rattle.plan_text.proofs.parse.read_points.Given as goal

abbrev pub invariant-loop-rest : goal.invariant-loop-rest
invariant-loop-rest l = PointsSoFar l.fn.lexer l.rest l.points.items

abbrev pub decreases-loop-rest : goal.decreases-loop-rest
decreases-loop-rest l = length (left l.rest)
