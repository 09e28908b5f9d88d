use Rattle.std.proofs.Common.{◌∙◌, FitsSigned, ℕ, ℤ, arith, rules, subst, w64}
use Rattle.std.proofs.lemmas.Int.{to_z-of_z}
use Rattle.distance.proofs.Coordinates.{write_all}
use Rattle.ordinate.specs.declared.flow.Flow.{Flow}
use Rattle.leg.specs.Values.{Tells, leg_value}
use Rattle.leg.specs.declared.leg.Leg.{Leg}
use Rattle.planner.specs.Telling.{coordinate_leg}
use Rattle.planner.proofs.Told.{coordinate_tells, write_more}
use Rattle.planner.proofs.value.value_at.Goals as goal

pub returns-in_err-flow : goal.returns-in_err-flow
returns-in_err-flow g c =
    rw c.from_residual.ensures
    (λ h.
    let K = g.P.Ordinate.kind in
    let n = c.dimension-i-end.ensures in
    let t = coordinate_tells K g.P.Distance.measure g.met.P.Distance.lawful c.args.leg.now c.loop-i.i c.args.tick (omega arith) h.0 h.1 in
    let none = subst (λ (l : Leg Flow). (v : Flow) → Tells l c.args.tick v → ⊥) c.coordinate_leg.ensures c.in_err-flow.ensures in
    none _ t)

pub loop-i-preserved : goal.loop-i-preserved
loop-i-preserved g c =
    let K = g.P.Ordinate.kind in
    let law = g.met.P.Ordinate.lawful in
    let n = c.dimension-i-end.ensures in
    let told = subst (λ (l : Leg Flow). Tells l c.args.tick c.in_ok-flow.flow) c.coordinate_leg.ensures c.in_ok-flow.ensures in
    let fits : FitsSigned w64 c.in_ok-flow.flow.value = search rules in
    let f : ℕ → ℤ = λ j. leg_value (coordinate_leg K c.args.leg.now j) c.args.tick in (
      write_more K c.loop-i.point c.with_coordinate-point.result c.loop-i.i f (λ h. c.with_coordinate-point.ensures.here h ∙ to_z-of_z w64 c.in_ok-flow.flow.value fits ∙ told.value) (omega arith) c.with_coordinate-point.ensures.others c.loop-i.invariant.0,
      λ h. told.covers,
    )

pub returns : goal.returns
returns g c =
    let K = g.P.Ordinate.kind in
    let law = g.met.P.Ordinate.lawful in
    let n = c.dimension-i-end.ensures in
    let some = law.some in
    let f : ℕ → ℤ = λ j. leg_value (coordinate_leg K c.args.leg.now j) c.args.tick in
    let covers = c.loop-i.invariant.1 (omega arith) in
    ((c.if-not-is_leg.ensures.yes tt, covers), write_all K law c.loop-i.point c.loop-i.i f (omega arith) c.loop-i.invariant.0)
