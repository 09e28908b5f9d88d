use Rattle.std.proofs.Common.{◌≤◌, ap, ◌∙◌, ap₂, arith, w64}
use Rattle.std.proofs.lemmas.Int.{to_z-of_z}
use Rattle.distance.proofs.Coordinates.{remade, write_all}
use Rattle.bezier.specs.Shares.{gap_vector}
use Rattle.bezier.proofs.Beside.{gap_rest}
use Rattle.bezier.proofs.test.is_near.Goals as goal

pub returns : goal.returns
returns g c =
    let K = g.P.Ordinate.kind in
    let M = g.P.Distance.measure in
    let law = g.met.P.Ordinate.lawful in
    let f = gap_vector K M c.args.s c.args.x c.args.leg.start c.args.leg.middle c.args.leg.end in
    let all : K.dimension ≤ c.loop-i.i = omega arith in
    let v = write_all K law c.loop-i.v c.loop-i.i f all c.loop-i.invariant in
    c.is_within.ensures
    ∙ ap₂ M.within (ap K.coordinate v ∙ remade K law f (gap_rest K M law c.args.s c.args.x c.args.leg.start c.args.leg.middle c.args.leg.end)) (to_z-of_z w64 c.args.r c.ranges.r)
