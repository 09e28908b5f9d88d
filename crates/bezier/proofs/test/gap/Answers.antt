use Rattle.std.proofs.Common.{rules}
use Rattle.bezier.proofs.Weights.{own, sent, times_of, plus_of, minus_of}
use Rattle.bezier.proofs.test.gap.Goals as goal

pub returns : goal.returns
returns c =
    let s = c.args.s in
    let p = times_of s.start (sent (own (search rules))) c.times.ensures in
    let q = times_of s.middle (sent (own (search rules))) c.times-2.ensures in
    let z = times_of s.end (sent (own (search rules))) c.times-3.ensures in
    let x = times_of s.scale (sent (own c.ranges.x)) c.times-4.ensures in
    let raised = plus_of (sent (plus_of (sent p) (sent q) c.plus-ends.ensures)) (sent z) c.plus-raised.ensures in
    (sent (times_of 2 (sent (minus_of (sent x) (sent raised) c.minus.ensures)) c.times-5.ensures)).is
