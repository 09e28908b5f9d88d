use Rattle.plan_session.proofs.Promised.{stage_hears}
use Rattle.plan_session.proofs.session.Session.next.Goals as goal

pub returns-clause-promise : goal.returns-clause-promise
returns-clause-promise c =
    let h = c.in_ok-reply.ensures.hears in
    λ lines k. stage_hears c.args.line.now lines c.args.self.now.stage _ h.0 _ h.1 h.2 k
