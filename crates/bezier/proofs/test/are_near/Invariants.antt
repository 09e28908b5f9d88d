use Rattle.std.proofs.Common.{◌≡◌, ℕ, ◌<◌, true}
use Rattle.bezier.specs.Shares.{near_at}
use Rattle.bezier.proofs.test.are_near.Given as goal

abbrev pub invariant-loop-j : goal.invariant-loop-j
invariant-loop-j g l = (k : ℕ) → k < l.j → near_at g.P.Ordinate.kind g.P.Distance.measure l.degree l.curve.points.now l.fn.middle l.r k ≡ true
