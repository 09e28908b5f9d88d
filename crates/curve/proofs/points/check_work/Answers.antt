use Rattle.std.proofs.Common.{[], ◌∷◌, ◌<◌}
use Rattle.leg.specs.Reasons.{because}
use Rattle.curve.specs.Refusals.{point_reasons, work_wanted}
use Rattle.curve.specs.declared.refusal.CurveRefusal.TheVariants.{ShortWork}
use Rattle.curve.proofs.Exits.{handed_on}
use Rattle.curve.proofs.points.check_work.Goals as goal

pub returns-in_err-check_points-clause-first : goal.returns-in_err-check_points-clause-first
returns-in_err-check_points-clause-first g c =
    let K = g.P.Ordinate.kind in
    let M = g.P.Distance.measure in
    let R = g.R.Reduction.rule in
    let ps = c.args.points.now in
    handed_on (point_reasons K M R ps) (because (c.args.work < work_wanted K M R c.args.accuracy.depth ps) ShortWork ∷ []) _ _ c.from_residual.ensures.1 c.in_err-check_points.ensures.first
