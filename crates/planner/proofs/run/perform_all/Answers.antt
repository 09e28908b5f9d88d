use Rattle.std.proofs.Common.{◌≡◌, ◌+◌, ◌∙◌, List, [], ◌∷◌, ap, arith, length, length-append, refl, subst, sym}
use Rattle.std.proofs.lemmas.List.{length-map}
use Rattle.turn.specs.Calls.{Answer, call_of, calls_of}
use Rattle.turn.proofs.Runs.{call_at, performed_all, underway_first}
use Rattle.planner.specs.Drafts.{progress, setting}
use Rattle.planner.proofs.Going.{Going, all_made, going_on}
use Rattle.planner.proofs.run.perform_all.Goals as goal

pub loop-call-init : goal.loop-call-init
loop-call-init g c =
    let A = setting g.P.Ordinate.kind g.P.Distance.measure g.R.Reduction.rule c.args.draft in
    let calls = calls_of c.args.calls.now in
    let c₀ = g.O.Outlet.contents c.args.outlet.now in
    record {
      going =
          subst (λ (xs : List Answer). Going A.kind A.measure A.rule c.args.draft calls c₀ xs c.args.draft c₀) (sym c.requires.none)
          (record { underway = underway_first A calls (progress c.args.draft) c₀; accuracy = refl; end = refl; still = tt });
      number = ap length c.requires.none;
      enough = c.requires.enough;
    }

pub loop-call-preserved : goal.loop-call-preserved
loop-call-preserved g c =
    let A = setting g.P.Ordinate.kind g.P.Distance.measure g.R.Reduction.rule c.args.draft in
    let calls = calls_of c.args.calls.now in
    let c₀ = g.O.Outlet.contents c.args.outlet.now in
    let v = c.loop-call.invariant in
    let items = c.loop-call.answers.items in
    let call = call_of c.call-item.result in
    let made = c.make-turn in
    let here = call_at c.args.calls.now items c.loop-call.call-index c.call-item.result v.number c.loop-call-test.true c.call-item.is in
    let more = c.push_reserved.ensures.items in
    record {
      going =
          going_on A.kind A.measure A.rule c.args.draft calls c₀ items _ c.loop-call.draft (g.O.Outlet.contents c.loop-call.outlet) (g.O.Outlet.contents made.new.outlet) v.going
          (length c.loop-call.room) (omega arith) call here made.result.1 more made.result.0 made.ensures.outcome made.ensures.sealed made.ensures.same c.in-Draft.next c.in-Draft.is;
      number = ap length more ∙ length-append items (made.result.1 ∷ []) ∙ ap (λ n. n + 1) v.number;
      enough = let same = c.push_reserved.ensures.capacity in let fits = v.enough in omega arith;
    }

pub returns-in-Sealed : goal.returns-in-Sealed
returns-in-Sealed g c =
    let A = setting g.P.Ordinate.kind g.P.Distance.measure g.R.Reduction.rule c.args.draft in
    let calls = calls_of c.args.calls.now in
    let c₀ = g.O.Outlet.contents c.args.outlet.now in
    let v = c.loop-call.invariant in
    let items = c.loop-call.answers.items in
    let call = call_of c.call-item.result in
    let made = c.make-turn in
    let here = call_at c.args.calls.now items c.loop-call.call-index c.call-item.result v.number c.loop-call-test.true c.call-item.is in
    let all =
    all_made A.kind A.measure A.rule c.args.draft calls c₀ items _ c.loop-call.draft (g.O.Outlet.contents c.loop-call.outlet) (g.O.Outlet.contents made.new.outlet) v.going
    (length c.loop-call.room) (omega arith) call here made.result.1 c.push_reserved.ensures.items made.result.0 made.ensures.outcome made.ensures.sealed c.in-Sealed.sealed c.in-Sealed.is in
    record { performed = all.0; turn = all.1 }

pub returns-clause-performed : goal.returns-clause-performed
returns-clause-performed g c =
    let A = setting g.P.Ordinate.kind g.P.Distance.measure g.R.Reduction.rule c.args.draft in
    let v = c.loop-call.invariant in
    let n = v.number in
    let all : length c.loop-call.answers.items ≡ length (calls_of c.args.calls.now) = omega (arith, length-map c.args.calls.now call_of) in
    performed_all A (calls_of c.args.calls.now) (progress c.args.draft) (g.O.Outlet.contents c.args.outlet.now) c.loop-call.answers.items (progress c.loop-call.draft) (g.O.Outlet.contents c.loop-call.outlet) v.going.underway all
