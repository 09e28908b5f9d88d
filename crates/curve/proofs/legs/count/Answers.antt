use Rattle.std.proofs.Common.{[], ◌∷◌, length}
use Rattle.curve.specs.Refusals.{bent, early_reasons}
use Rattle.curve.proofs.Exits.{handed_on}
use Rattle.curve.proofs.legs.count.Goals as goal

pub returns-in_err-curve-clause-first : goal.returns-in_err-curve-clause-first
returns-in_err-curve-clause-first g c =
    let K = g.P.Ordinate.kind in
    let M = g.P.Distance.measure in
    let R = g.R.Reduction.rule in
    let t = c.args.accuracy.tolerance in
    let D = c.args.accuracy.depth in
    let ps = c.args.points.now in
    handed_on (early_reasons K M R D ps (length c.args.work.now)) (bent K M R t D ps ∷ []) _ _ c.from_residual.ensures.1 c.in_err-curve.ensures.first
