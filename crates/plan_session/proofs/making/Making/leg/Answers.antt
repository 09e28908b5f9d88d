use Rattle.std.proofs.Common.{rules}
use Rattle.plan_session.specs.Makings.{made}
use Rattle.plan_session.proofs.Shown.{shown}
use Rattle.plan_session.proofs.making.Making.leg.Goals as goal

pub returns-in-Some-clause-shows : goal.returns-in-Some-clause-shows
returns-in-Some-clause-shows g c = shown g.P.Ordinate.kind g.P.Notation.at (made g.P.Ordinate.kind g.P.Distance.measure g.R.Reduction.rule c.args.self.now) _ c.in-Some.leg _ _ _ (search rules) c.in-Some.ensures.finds.0 c.in-Some.ensures.finds.1 c.print_leg.ensures.prints
