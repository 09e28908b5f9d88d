use Rattle.std.proofs.Common.{subst₂}
use Rattle.turn.specs.Calls.{Progress, calls_of}
use Rattle.turn.specs.Runs.{Performed}
use Rattle.turn.specs.Settings.{Setting}
use Rattle.turn.proofs.Kept.{performed}
use Rattle.planner.specs.Runs.{agreed, turn_progress}
use Rattle.planner.proofs.Agreed.{by_terms}
use Rattle.planner.proofs.run.run.Goals as goal

pub returns-clause-performed : goal.returns-clause-performed
returns-clause-performed g c =
    let said = c.in_ok-draft.ensures.agreed in
    let same = by_terms g.P.Ordinate.kind g.P.Distance.measure g.R.Reduction.rule c.in_ok-draft.draft c.args.terms said.0 said.1 said.2 in
    let run = c.perform_all in
    subst₂ (λ (A : Setting g.row.P.Denot) (p : Progress g.row.P.Denot). Performed A (calls_of c.args.calls.now) run.result.answers.items p (g.O.Outlet.contents c.args.outlet.now) (turn_progress run.result.turn) (g.O.Outlet.contents run.new.outlet))
    same c.in_ok-draft.ensures.empty run.ensures.performed

pub returns-clause-whole : goal.returns-clause-whole
returns-clause-whole g c = λ e.
    performed (agreed g.P.Ordinate.kind g.P.Distance.measure g.R.Reduction.rule c.args.terms)
    (record { kind = g.met.P.Ordinate.lawful; measure = g.met.P.Distance.lawful; rule = g.met.R.Reduction.lawful })
    _ _ _ _ _ e (returns-clause-performed g c)
