use Rattle.std.proofs.Common.{subst, sym}
use Rattle.std.proofs.lemmas.Bool.{false≢true}
use Rattle.plan_text.proofs.Points.{PointsSoFar, one_point_more, no_points}
use Rattle.plan_text.proofs.parse.read_points.Goals as goal

pub returns-in_default : goal.returns-in_default
returns-in_default c = no_points c.args.lexer c.loop-rest.rest c.loop-rest.points.items c.loop-rest.invariant (λ s. false≢true (c.loop-rest-test.ensures.1 s)) c.in_default.ensures

pub loop-rest-preserved : goal.loop-rest-preserved
loop-rest-preserved c =
    subst (PointsSoFar c.args.lexer c.in-Some.behind) (sym c.in_ok-push.ensures.items)
    (one_point_more c.args.lexer c.loop-rest.rest c.loop-rest.points.items c.loop-rest.invariant (λ s. false≢true (c.loop-rest-test.ensures.1 s)) c.in-Some.behind c.in-Some.at c.in-Some.ensures)
