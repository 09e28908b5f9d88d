use Rattle.std.proofs.Common.{◌-◌, length, ℕ, ◌*◌, ◌^◌, ◌≤◌, pos, ◌-ℤ◌, ◌∙◌, ap₂, arith}
use Rattle.std.proofs.lemmas.Int.{ints}
use Rattle.distance.specs.Vectors.{◌·◌}
use Rattle.bezier.proofs.Room.{spent_all, scale_of, scaled_fits, product_value}
use Rattle.bezier.proofs.test.room.Goals as goal

pub overflow_mul-result : goal.overflow_mul-result
overflow_mul-result g c =
    let h = g.met.P.Distance.lawful.allowance_high in
    let n = length c.args.curve.now.points.now - 1 in
    let s : c.spent.result ≤ 2 ^ 38 = omega (arith, spent_all g.P.Distance.measure.allowance n c.args.depth (omega arith) (omega arith) (omega arith)) in
    let e = scale_of c.args.degree c.degree.result n 0 c.shares-scale.result c.shares-scale.ensures c.degree.ensures (omega arith) in
    scaled_fits c.shares-scale.result.scale _ e.1 (omega (arith, ints)) (omega (arith, ints))

pub returns : goal.returns
returns g c =
    let h = g.met.P.Distance.lawful.allowance_high in
    let n = length c.args.curve.now.points.now - 1 in
    let s : c.spent.result ≤ 2 ^ 38 = omega (arith, spent_all g.P.Distance.measure.allowance n c.args.depth (omega arith) (omega arith) (omega arith)) in
    let e = scale_of c.args.degree c.degree.result n 0 c.shares-scale.result c.shares-scale.ensures c.degree.ensures (omega arith) in
    product_value c.shares-scale.result.scale c.spent.result c.args.tolerance e.1 s (omega arith)
    ∙ ap₂ (λ (k a : ℕ). k · (pos (2 * c.args.tolerance) -ℤ pos a)) e.0 c.spent.ensures
