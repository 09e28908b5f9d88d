use Rattle.std.proofs.Common.{arith}
use Rattle.plan_session.proofs.Typed.{none_typed}
use Rattle.plan_session.proofs.points.points_of.Goals as goal

pub returns-in_default : goal.returns-in_default
returns-in_default g c = none_typed g.P.Notation.at c.args.numbers.now c.loop-at.at-index _ (omega (arith, c.loop-at-test.true, c.loop-at.auto.at-index-end)) c.in_default.ensures
