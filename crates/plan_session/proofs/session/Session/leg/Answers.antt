use Rattle.std.proofs.Common.{subst, sym}
use Rattle.plan_session.specs.Listing.{ShowsLeg}
use Rattle.plan_session.specs.Sessions.{state_of}
use Rattle.plan_session.specs.declared.stage.Stage.{Stage}
use Rattle.plan_session.proofs.Stages.{leg_there}
use Rattle.plan_session.proofs.session.Session.leg.Goals as goal

pub returns-in-Flow-clause-whole : goal.returns-in-Flow-clause-whole
returns-in-Flow-clause-whole c =
    leg_there c.args.self.now.stage c.args.i c.args.buffer.now c.leg.new.buffer c.leg.result
    (subst (λ (t : Stage). ShowsLeg (state_of t) c.args.i c.args.buffer.now c.leg.result c.leg.new.buffer) (sym c.in-Flow.is) c.leg.ensures.shows)

pub returns-in-Box-clause-whole : goal.returns-in-Box-clause-whole
returns-in-Box-clause-whole c =
    leg_there c.args.self.now.stage c.args.i c.args.buffer.now c.leg-in-Box.new.buffer c.leg-in-Box.result
    (subst (λ (t : Stage). ShowsLeg (state_of t) c.args.i c.args.buffer.now c.leg-in-Box.result c.leg-in-Box.new.buffer) (sym c.in-Box.is) c.leg-in-Box.ensures.shows)
