use Rattle.std.proofs.Common.{◌≡◌, ℕ, ◌+◌, ◌-◌, ◌<◌, ◌∙◌, Some, ap, arith, get_or, length, subst, sym, take}
use Rattle.std.proofs.lemmas.Option.{same_Some}
use Rattle.leg.specs.declared.leg.Leg.{Leg}
use Rattle.outlet.specs.Outlets.{Contents}
use Rattle.turn.specs.Calls.{end_of, last_leg}
use Rattle.turn.proofs.Struck.{last_kept}
use Rattle.planner.proofs.strike.before_span.Goals as goal

pub returns-then-leg-start-clause-end : goal.returns-then-leg-start-clause-end
returns-then-leg-start-clause-end g c =
    let o = g.O.Outlet.contents c.args.outlet.now in
    let k = c.loop-i.i in
    let l = c.in-Some.leg in
    let there = subst (λ (x : Contents g.row.P.Denot). (k - 1 < length x.legs) × (l ≡ get_or x.legs (k - 1) l)) c.loop-i.invariant.0 c.in-Some.ensures.finds in
    let e : k ≡ k - 1 + 1 = omega arith in
    subst (λ (n : ℕ). Some l.end ≡ end_of (last_leg (take n o.legs))) e (sym (ap end_of (last_kept o.legs k l (omega arith) (omega arith) there.1)))

pub returns-then-leg-start-clause-all : goal.returns-then-leg-start-clause-all
returns-then-leg-start-clause-all g c = λ x q f.
    let o = g.O.Outlet.contents c.args.outlet.now in
    let k = c.loop-i.i in
    let l = c.in-Some.leg in
    let there = subst (λ (x : Contents g.row.P.Denot). (k - 1 < length x.legs) × (l ≡ get_or x.legs (k - 1) l)) c.loop-i.invariant.0 c.in-Some.ensures.finds in
    let e : k - 1 + 1 ≡ k = omega arith in
    let last = last_kept o.legs k l (omega arith) (omega arith) there.1 in
    let same = same_Some l x (sym last ∙ subst (λ (n : ℕ). last_leg (take n o.legs) ≡ Some x) e q) in
    c.if-leg-start.true (ap (λ (y : Leg g.row.P.Denot). y.stretch.from) same ∙ f)
