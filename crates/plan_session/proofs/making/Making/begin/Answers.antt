use Rattle.std.proofs.Common.{rules}
use Rattle.leg.specs.Reasons.{refusal as why}
use Rattle.plan_session.proofs.Typed.{judged}
use Rattle.plan_session.proofs.making.Making.begin.Goals as goal

pub returns-in_err-draft-clause-first : goal.returns-in_err-draft-clause-first
returns-in_err-draft-clause-first g c = judged g.P.Distance.measure c.args.form c.terms_of-terms.result (why c.begin.result) _ c.begin.ensures.first c.terms_of-terms.ensures (search rules)

pub returns-in_err-start-clause-first : goal.returns-in_err-start-clause-first
returns-in_err-start-clause-first g c = judged g.P.Distance.measure c.args.form c.terms_of-terms.result (why c.begin.result) _ c.begin.ensures.first c.terms_of-terms.ensures (search rules)

pub returns-in_err-vec-clause-first : goal.returns-in_err-vec-clause-first
returns-in_err-vec-clause-first g c = judged g.P.Distance.measure c.args.form c.terms_of-terms.result (why c.begin.result) _ c.begin.ensures.first c.terms_of-terms.ensures (search rules)

pub returns-clause-first : goal.returns-clause-first
returns-clause-first g c = judged g.P.Distance.measure c.args.form c.terms_of-terms.result (why c.begin.result) _ c.begin.ensures.first c.terms_of-terms.ensures (search rules)
