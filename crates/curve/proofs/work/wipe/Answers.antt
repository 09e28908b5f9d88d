use Rattle.std.proofs.Common.{◌≡◌, arith}
use Rattle.std.proofs.lemmas.Grind.{common_steps}
use Rattle.std.proofs.lemmas.List.{replicate_more, take_more_set}
use Rattle.distance.specs.Measures.{blank}
use Rattle.ordinate.specs.Laws.Points.{zero_blank}
use Rattle.curve.proofs.work.wipe.Goals as goal

pub loop-i-preserved : goal.loop-i-preserved
loop-i-preserved g c =
    let K = g.P.Ordinate.kind in
    let zero : c.zero.result ≡ blank K = zero_blank K g.met.P.Ordinate.lawful c.zero.result c.zero.ensures in
    let more = replicate_more c.loop-i.i (blank K) in
    let v = c.loop-i.invariant in
    grind (arith, common_steps, take_more_set)
