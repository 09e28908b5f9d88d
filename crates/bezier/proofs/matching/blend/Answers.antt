use Rattle.std.proofs.Common.{◌≡◌, ℕ, suc, ◌-◌, ◌<◌, length, ℤ, sym, ap, ◌∙◌, ap₂, arith, w64, SFits, rules}
use Rattle.std.proofs.lemmas.List.{get_or_default}
use Rattle.distance.specs.Measures.{blank, point}
use Rattle.distance.specs.Vectors.{◌·◌, ◌⊙◌}
use Rattle.bezier.specs.Bernstein.{choose}
use Rattle.bezier.proofs.Blends.{summed, summed_more, total_summed}
use Rattle.bezier.proofs.Weights.{Means, own, sent, times_of, plus_of, word}
use Rattle.bezier.proofs.matching.blend.Goals as goal

pub loop-j-preserved : goal.loop-j-preserved
loop-j-preserved g c =
    let K = g.P.Ordinate.kind in
    let ps = c.args.curve.now.points.now in
    let n = length ps - 1 in
    let j = c.loop-j.j in
    let F : ℕ → ℤ = λ k. choose n k · K.coordinate (point K ps k) c.args.i in
    let inside : j < length ps = omega arith in
    let at = c.point-item.is ∙ get_or_default ps j _ (blank K) inside in
    let x = c.coordinate.result in
    let f : SFits w64 x = search rules in
    let here : x ≡ K.coordinate (point K ps j) c.args.i = c.coordinate.ensures ∙ ap (λ (p : g.row.P.Denot). K.coordinate p c.args.i) at in
    let term : Means c.times.result (c.table_entry.result · x) = times_of c.table_entry.result (sent (own f)) c.times.ensures in
    let term' : Means c.times.result (F j) = record { is = term.is ∙ ap₂ (λ (k : ℕ) (y : ℤ). word (k · y)) (c.table_entry.ensures ∙ ap (λ (m : ℕ). choose m j) c.degree-n.ensures) here } in
    let before : Means _ (summed j F) = record { is = c.loop-j.invariant } in
    (sent (plus_of before (sent term') c.plus-sum.ensures)).is ∙ ap word (summed_more j F)

pub returns : goal.returns
returns g c =
    let K = g.P.Ordinate.kind in
    let ps = c.args.curve.now.points.now in
    let n = length ps - 1 in
    let top : c.loop-j.j ≡ suc n = omega arith in
    let F : ℕ → ℤ = λ k. choose n k · K.coordinate (point K ps k) c.args.i in
    c.loop-j.invariant ∙ ap (λ (k : ℕ). word (summed k F)) top ∙ sym (ap word (total_summed n (λ k. choose n k ⊙ K.coordinate (point K ps k)) c.args.i))
