use Rattle.std.proofs.Common.{◌<ℤ◌, ◌≤ℤ◌, FitsSigned, arith, inl, inr, pos, refl, rules, subst₂, ℤ, w64}
use Rattle.std.proofs.lemmas.Int.{ints, to_z-of_z}
use Rattle.outlet.specs.Outlets.{Contents}
use Rattle.planner.specs.Telling.{FirstTells}
use Rattle.turn.specs.declared.refusal.Refusal.TheVariants.{NoLegThere}
use Rattle.planner.proofs.Covering.{below_zero, from_zero, none_covers, told_first}
use Rattle.planner.proofs.sealed.Sealed.tell.Goals as goal

pub returns-then-tick-lt0-clause-first : goal.returns-then-tick-lt0-clause-first
returns-then-tick-lt0-clause-first g c =
    let K = g.P.Ordinate.kind in
    let o = g.O.Outlet.contents c.args.outlet.now in
    let fits : FitsSigned w64 c.args.tick = search rules in
    let e = to_z-of_z w64 c.args.tick fits in
    let below : c.args.tick <ℤ pos 0 = omega (arith, ints) in
    inr ((λ f y. y.0 (omega arith)), inr ((λ f y. let h = y.0 in omega (arith, ints)), inl (NoLegThere, (none_covers K c.args.tick o.legs (below_zero K c.args.tick below), refl), refl)))

pub returns-clause-first : goal.returns-clause-first
returns-clause-first g c =
    let K = g.P.Ordinate.kind in
    let o = g.O.Outlet.contents c.args.outlet.now in
    let fits : FitsSigned w64 c.args.tick = search rules in
    let e = to_z-of_z w64 c.args.tick fits in
    let above : pos 0 ≤ℤ c.args.tick = omega (arith, ints) in
    let told : FirstTells K o.legs c.args.tick c.first_value.result =
    subst₂ (λ (x : Contents g.row.P.Denot) (a : ℤ). FirstTells K x.legs a c.first_value.result) c.count.ensures.same (from_zero c.args.tick _ e above) c.first_value.ensures.value in
    rw c.ok_or.ensures.value
    (inr ((λ f y. y.0 (omega arith)), inr ((λ f y. let h = y.0 in omega (arith, ints)), told_first K c.args.tick o.legs c.first_value.result told)))
