use Rattle.std.proofs.Common.{◌≡◌, arith}
use Rattle.std.proofs.lemmas.Grind.{common_steps}
use Rattle.curve.specs.Cells.{whole}
use Rattle.curve.specs.Pieces.{piece}
use Rattle.curve.proofs.Counting.{counted}
use Rattle.curve.proofs.Fitting.{judged}
use Rattle.curve.proofs.legs.count_begun.Goals as goal

pub returns : goal.returns
returns g c =
    let K = g.P.Ordinate.kind in
    let M = g.P.Distance.measure in
    let R = g.R.Reduction.rule in
    let curve = c.args.curve.now in
    let e : c.count_row.result ≡ counted K M R curve.accuracy.tolerance curve.accuracy.depth (piece whole curve.points.now) = grind (arith, common_steps) in
    let j = judged K M R curve.accuracy.tolerance curve.accuracy.depth curve.points.now g.met.P.Ordinate.lawful g.met.P.Distance.lawful g.met.R.Reduction.lawful curve.drawable c.count_row.result e in
    rw c.ok_or.ensures.value (record { first = j.0; value = j.1 })
