use Rattle.std.proofs.Common.{ℕ, ◌-◌, ◌<◌, length, sym, ap, ◌∙◌, arith, w64}
use Rattle.std.proofs.lemmas.List.{get_or_default}
use Rattle.std.proofs.lemmas.Int.{to_z-of_z}
use Rattle.distance.specs.Measures.{blank}
use Rattle.bezier.specs.Shares.{all_near, near_at, shares_of}
use Rattle.bezier.proofs.Beside.{beside, every_all, every_not}
use Rattle.bezier.proofs.test.are_near.Goals as goal

pub returns-then-not-is_near : goal.returns-then-not-is_near
returns-then-not-is_near g c =
    let K = g.P.Ordinate.kind in
    let M = g.P.Distance.measure in
    let ps = c.args.curve.now.points.now in
    let n = length ps - 1 in
    let j = c.loop-j.j in
    let inside : j < length ps = omega arith in
    let e = beside K M c.args.degree ps c.args.middle _ c.args.r j c.is_near.result c.shares-s.result _ c.first.result c.last.result c.is_near.ensures (c.shares-s.ensures ∙ ap (λ (m : ℕ). shares_of c.args.degree m j) c.degree-n.ensures)
    (c.point-item.is ∙ get_or_default ps j _ (blank K) inside)
    c.first.ensures
    c.last.ensures
    (to_z-of_z w64 c.args.r c.ranges.r) in
    every_not n (near_at K M c.args.degree ps c.args.middle c.args.r) j (omega arith) (sym e ∙ c.if-not-is_near.true)

pub returns : goal.returns
returns g c =
    let K = g.P.Ordinate.kind in
    let M = g.P.Distance.measure in
    let ps = c.args.curve.now.points.now in
    let n = length ps - 1 in
    every_all n (near_at K M c.args.degree ps c.args.middle _) (λ k h. c.loop-j.invariant k (omega arith))
    ∙ ap (all_near K M c.args.degree ps c.args.middle) (to_z-of_z w64 c.args.r c.ranges.r)
