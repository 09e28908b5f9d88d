use Rattle.std.proofs.Common.{[], ◌∷◌, arith, sym, ap, subst, ◌∙◌, refl, inl, inr}
use Rattle.leg.proofs.Reasoned.{first_later}
use Rattle.outlet.specs.Outlets.{Contents, room}
use Rattle.curve.specs.Cells.{whole}
use Rattle.curve.specs.Pieces.{Ready, handed, piece, piece_leg, pieces}
use Rattle.curve.specs.Refusals.{bent, crowded}
use Rattle.curve.specs.declared.refusal.CurveRefusal.TheVariants.{TooManyLegs}
use Rattle.curve.proofs.Fitting.{counted_as, handed_are, ready, same_number}
use Rattle.curve.proofs.legs.lay_begun.Goals as goal

pub returns-then-free-tally-clause-first : goal.returns-then-free-tally-clause-first
returns-then-free-tally-clause-first g c =
    let K = g.P.Ordinate.kind in
    let M = g.P.Distance.measure in
    let R = g.R.Reduction.rule in
    let curve = c.args.curve.now in
    let t = curve.accuracy.tolerance in
    let D = curve.accuracy.depth in
    let ps = curve.points.now in
    let n = c.in_ok-tally.ensures.value in
    first_later (bent K M R t D ps ∷ []) (crowded K M R t D ps (room (g.O.Outlet.contents c.args.outlet.now)) ∷ []) _ c.in_ok-tally.ensures.first
    (inl (TooManyLegs, ((n.0, n.1.fewest, omega (arith, n.2)), refl), refl))

pub put_begun-requires-clause-ready : goal.put_begun-requires-clause-ready
put_begun-requires-clause-ready g c =
    let K = g.P.Ordinate.kind in
    let M = g.P.Distance.measure in
    let R = g.R.Reduction.rule in
    let curve = c.args.curve.now in
    let span = c.args.span in
    let t = curve.accuracy.tolerance in
    let D = curve.accuracy.depth in
    let ps = curve.points.now in
    let y = c.in_ok-tally.tally in
    let f = counted_as K M R t D ps y c.in_ok-tally.ensures.value in
    let free = c.free.ensures.value in
    subst (λ (q : Contents g.row.P.Denot). Ready K (piece_leg K R span.from span.ticks) (pieces K M R t D (piece whole ps)) q) (sym c.free.ensures.same)
    (ready K M R t D ps g.met.P.Ordinate.lawful g.met.P.Distance.lawful g.met.R.Reduction.lawful curve.drawable span.from span.ticks span.some span.brief span.timely curve.accuracy.shallow y f (g.O.Outlet.contents c.args.outlet.now) (omega arith))

pub returns-clause-first : goal.returns-clause-first
returns-clause-first g c =
    let K = g.P.Ordinate.kind in
    let M = g.P.Distance.measure in
    let R = g.R.Reduction.rule in
    let curve = c.args.curve.now in
    let t = curve.accuracy.tolerance in
    let D = curve.accuracy.depth in
    let ps = curve.points.now in
    let y = c.in_ok-tally.tally in
    let f = counted_as K M R t D ps y c.in_ok-tally.ensures.value in
    first_later (bent K M R t D ps ∷ []) (crowded K M R t D ps (room (g.O.Outlet.contents c.args.outlet.now)) ∷ []) _ c.in_ok-tally.ensures.first
    (inr ((λ r h. let s = same_number K M R t D ps y f h.0.0 h.0.1 in let l = h.0.2 in omega arith), refl))

pub returns-clause-puts : goal.returns-clause-puts
returns-clause-puts g c =
    let K = g.P.Ordinate.kind in
    let M = g.P.Distance.measure in
    let R = g.R.Reduction.rule in
    let curve = c.args.curve.now in
    let span = c.args.span in
    let t = curve.accuracy.tolerance in
    let D = curve.accuracy.depth in
    let ps = curve.points.now in
    let y = c.in_ok-tally.tally in
    let n = c.in_ok-tally.ensures.value in
    let f = counted_as K M R t D ps y n in
    let put : Contents g.row.P.Denot → Contents g.row.P.Denot = λ o. handed (piece_leg K R span.from span.ticks) (pieces K M R t D (piece whole ps)) o in
    (n.0, n.1, n.2, n.3, c.put_begun.ensures ∙ ap put c.free.ensures.same ∙ handed_are K M R t D ps span.from span.ticks y f (g.O.Outlet.contents c.args.outlet.now))
