use Rattle.std.proofs.Common.{◌≡◌, ℕ, ◌-◌, length, ℤ, ◌+ℤ◌, ◌-ℤ◌, ap, ◌∙◌, ap₂, w64, SFits, rules}
use Rattle.distance.specs.Measures.{point}
use Rattle.distance.specs.Vectors.{◌·◌}
use Rattle.bezier.specs.Reductions.{blended}
use Rattle.bezier.proofs.Weights.{Means, own, sent, times_of, plus_of, minus_of, word}
use Rattle.bezier.proofs.matching.match_sum.Goals as goal

pub returns : goal.returns
returns g c =
    let K = g.P.Ordinate.kind in
    let ps = c.args.curve.now.points.now in
    let i = c.args.i in
    let n = length ps - 1 in
    let a = c.coordinate.result in
    let b = c.coordinate-2.result in
    let fa : SFits w64 a = search rules in
    let fb : SFits w64 b = search rules in
    let ends = plus_of (sent (own fa)) (sent (own fb)) c.plus-ends.ensures in
    let sum : Means c.blend.result (blended K ps i) = record { is = c.blend.ensures } in
    let whole = minus_of (sent (times_of 2 (sent sum) c.times.ensures)) (sent (times_of c.half_power.result (sent ends) c.times-2.ensures)) c.minus.ensures in
    let ea : a ≡ K.coordinate (point K ps 0) i = c.coordinate.ensures ∙ ap (λ (p : g.row.P.Denot). K.coordinate p i) c.first.ensures in
    let eb : b ≡ K.coordinate (point K ps n) i = c.coordinate-2.ensures ∙ ap (λ (p : g.row.P.Denot). K.coordinate p i) c.last.ensures in
    (sent whole).is
    ∙ ap₂ (λ (h : ℕ) (z : ℤ). word ((2 · blended K ps i) -ℤ (h · z))) c.half_power.ensures (ap₂ ◌+ℤ◌ ea eb)
