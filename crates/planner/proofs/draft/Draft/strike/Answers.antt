use Rattle.turn.specs.Calls.Call.{strike}
use Rattle.turn.proofs.Kept.{kept}
use Rattle.planner.specs.Drafts.{setting}
use Rattle.planner.proofs.Agreed.{lawful_setting}
use Rattle.planner.proofs.draft.Draft.strike.Goals as goal

pub returns-clause-keeps : goal.returns-clause-keeps
returns-clause-keeps g c = λ h w.
    kept (setting g.P.Ordinate.kind g.P.Distance.measure g.R.Reduction.rule c.args.self)
    (lawful_setting g.P.Ordinate.kind g.P.Distance.measure g.R.Reduction.rule c.args.self g.met.P.Ordinate.lawful g.met.P.Distance.lawful g.met.R.Reduction.lawful)
    h strike _ _ _ _ _ w c.strike_checked.ensures.outcome
