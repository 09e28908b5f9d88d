use Rattle.std.proofs.Common.{[], ◌∷◌, length}
use Rattle.outlet.specs.Outlets.{room}
use Rattle.curve.specs.Refusals.{bent, crowded, early_reasons}
use Rattle.curve.proofs.Exits.{handed_on}
use Rattle.leg.proofs.Reasoned.{first_later}
use Rattle.curve.proofs.legs.put.Goals as goal

pub returns-in_err-curve-clause-first : goal.returns-in_err-curve-clause-first
returns-in_err-curve-clause-first g c =
    let K = g.P.Ordinate.kind in
    let M = g.P.Distance.measure in
    let R = g.R.Reduction.rule in
    let t = c.args.accuracy.tolerance in
    let D = c.args.accuracy.depth in
    let ps = c.args.points.now in
    handed_on (early_reasons K M R D ps (length c.args.work.now)) (bent K M R t D ps ∷ crowded K M R t D ps (room (g.O.Outlet.contents c.args.outlet.now)) ∷ []) _ _ c.from_residual.ensures.1 c.in_err-curve.ensures.first

pub returns-clause-first : goal.returns-clause-first
returns-clause-first g c =
    let K = g.P.Ordinate.kind in
    let M = g.P.Distance.measure in
    let R = g.R.Reduction.rule in
    let a = c.args.accuracy in
    let ps = c.args.points.now in
    let b = c.in_ok-curve.ensures.begins in
    let h = rw (b.0, b.1) at c.lay_begun-answer.ensures.first in
    first_later (early_reasons K M R a.depth ps (length c.args.work.now)) (bent K M R a.tolerance a.depth ps ∷ crowded K M R a.tolerance a.depth ps (room (g.O.Outlet.contents c.args.outlet.now)) ∷ []) _ c.in_ok-curve.ensures.first h
