use Rattle.std.proofs.Common.{◌≡◌, ◌<◌, ◌≤◌, ◌∙◌, None, Some, add-one, ap, arith, get_or, length, pos, refl, subst, sym}
use Rattle.outlet.specs.Outlets.{Contents}
use Rattle.planner.specs.Telling.{FirstTells}
use Rattle.planner.proofs.Covering.{found, none_found, none_more}
use Rattle.planner.proofs.tell.first_value.Goals as goal
use Rattle.planner.proofs.tell.first_value.Goals.{in-Some+in_default-value_at, in_default}

pub loop-i-init : goal.loop-i-init
loop-i-init g c = (refl, refl)

pub loop-i-preserved : goal.loop-i-preserved
loop-i-preserved g c =
    let o = g.O.Outlet.contents c.count-i-end.new.self in
    let i = c.loop-i.i in
    let v = c.loop-i.invariant in
    let n = c.count-i-end.ensures in
    let size : c.count-i-end.result ≡ length o.legs = n.value ∙ ap (λ (x : Contents g.row.P.Denot). length x.legs) (sym n.same) in (
      c.get.ensures.same ∙ v.0,
      elim c.match-get.branch [
        | in-Some+in_default-value_at w ↦
            let l = w.in-Some.leg in
            let there = subst (λ (x : Contents g.row.P.Denot). (i < length x.legs) × (l ≡ get_or x.legs i l)) v.0 w.in-Some.ensures.finds in
            rw (add-one i) (none_more g.P.Ordinate.kind (pos c.args.tick) o.legs i l there.0 there.1 v.1 w.in_default-value_at.ensures)
        | in_default w ↦
            let past = subst (λ (x : Contents g.row.P.Denot). length x.legs ≤ i) v.0 w.in_default.ensures.finds in absurd (omega (arith, past, size))
      ],
    )

pub returns-in-Some-value_at-clause-value : goal.returns-in-Some-value_at-clause-value
returns-in-Some-value_at-clause-value g c =
    let K = g.P.Ordinate.kind in
    let o = g.O.Outlet.contents c.count-i-end.new.self in
    let l = c.in-Some.leg in
    let v = c.loop-i.invariant in
    let there = subst (λ (x : Contents g.row.P.Denot). (c.loop-i.i < length x.legs) × (l ≡ get_or x.legs c.loop-i.i l)) v.0 c.in-Some.ensures.finds in
    let told = found K (pos c.args.tick) o.legs c.loop-i.i l there.0 there.1 v.1 c.in-Some-value_at.ensures.0 in
    let here = subst (λ (p : g.row.P.Denot). FirstTells K o.legs (pos c.args.tick) (Some p)) (sym c.in-Some-value_at.ensures.1) told in
    subst (λ (x : Contents g.row.P.Denot). FirstTells K x.legs (pos c.args.tick) (Some c.in-Some-value_at.point)) c.count-i-end.ensures.same here

pub returns-clause-value : goal.returns-clause-value
returns-clause-value g c =
    let K = g.P.Ordinate.kind in
    let o = g.O.Outlet.contents c.count-i-end.new.self in
    let n = c.count-i-end.ensures in
    let size : c.count-i-end.result ≡ length o.legs = n.value ∙ ap (λ (x : Contents g.row.P.Denot). length x.legs) (sym n.same) in
    let all : length o.legs ≤ c.loop-i.i = omega (arith, size) in
    subst (λ (x : Contents g.row.P.Denot). FirstTells K x.legs (pos c.args.tick) None) n.same (none_found K (pos c.args.tick) o.legs c.loop-i.i all c.loop-i.invariant.1)
