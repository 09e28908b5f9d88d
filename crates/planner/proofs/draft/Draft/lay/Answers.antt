use Rattle.std.proofs.Common.{◌∙◌, ℕ, ◌+◌, ◌-◌, Ok, Some, None, ℤ, pos, length, ap, arith, refl, rules, subst, sym, w64, FitsSigned}
use Rattle.std.proofs.lemmas.Int.{to_z-of_z}
use Rattle.std.proofs.lemmas.Option.{slice_get-get_or}
use Rattle.distance.specs.Measures.{blank}
use Rattle.leg.specs.Reasons.{First}
use Rattle.outlet.specs.Outlets.{Contents}
use Rattle.turn.specs.Calls.{Progress, lay}
use Rattle.turn.specs.Outcomes.{Outcome}
use Rattle.turn.specs.Reasons.{facing, reasons}
use Rattle.turn.specs.Settings.{Setting}
use Rattle.turn.proofs.Kept.{kept}
use Rattle.planner.specs.Drafts.{progress, setting}
use Rattle.planner.specs.Steps.{Puts}
use Rattle.planner.proofs.Agreed.{lawful_setting}
use Rattle.planner.proofs.Laid.{drawn_some, laid_outcome}
use Rattle.planner.proofs.draft.Draft.lay.Goals as goal

pub returns-in-Err-clause-outcome : goal.returns-in-Err-clause-outcome
returns-in-Err-clause-outcome g c =
    let d = c.args.self in
    let o = g.O.Outlet.contents c.args.outlet.now in
    let ps = c.args.points.now in
    let work = length c.args.work.now in
    let A : Setting g.row.P.Denot = setting g.P.Ordinate.kind g.P.Distance.measure g.R.Reduction.rule d in
    let fits : FitsSigned w64 c.args.ticks = search rules in
    let e = to_z-of_z w64 c.args.ticks fits in
    rw c.refused.ensures
    (record { answer = subst (λ (l : ℤ). First (reasons A (facing A (progress d) o) (lay ps l work)) (Some c.in-Err.refusal)) e (c.in-Err.ensures.refused.1 work); effect = (refl, c.in-Err.ensures.same) })

pub returns-in-Err-clause-keeps : goal.returns-in-Err-clause-keeps
returns-in-Err-clause-keeps g c = λ h w.
    kept (setting g.P.Ordinate.kind g.P.Distance.measure g.R.Reduction.rule c.args.self)
    (lawful_setting g.P.Ordinate.kind g.P.Distance.measure g.R.Reduction.rule c.args.self g.met.P.Ordinate.lawful g.met.P.Distance.lawful g.met.R.Reduction.lawful)
    h _ _ _ _ _ _ w (returns-in-Err-clause-outcome g c)

pub returns-in-Err-put_span-clause-outcome : goal.returns-in-Err-put_span-clause-outcome
returns-in-Err-put_span-clause-outcome g c =
    let d = c.args.self in
    let o = g.O.Outlet.contents c.args.outlet.now in
    let ps = c.args.points.now in
    let work = length c.args.work.now in
    let A : Setting g.row.P.Denot = setting g.P.Ordinate.kind g.P.Distance.measure g.R.Reduction.rule d in
    let fits : FitsSigned w64 c.args.ticks = search rules in
    let e = to_z-of_z w64 c.args.ticks fits in
    let same = c.next_span.ensures.same in
    let answer = subst (λ (q : Contents g.row.P.Denot). First (reasons A (facing A (progress d) q) (lay ps (pos c.in-Ok.span.ticks) work)) (Some c.in-Err-put_span.refusal)) same c.in-Err-put_span.ensures.first in
    rw c.refused-in-Err-put_span.ensures
    (record {
      answer = subst (λ (l : ℤ). First (reasons A (facing A (progress d) o) (lay ps l work)) (Some c.in-Err-put_span.refusal)) (c.in-Ok.ensures.fits.1 ∙ e) answer;
      effect = (refl, c.in-Err-put_span.ensures.puts ∙ same);
    })

pub returns-in-Err-put_span-clause-keeps : goal.returns-in-Err-put_span-clause-keeps
returns-in-Err-put_span-clause-keeps g c = λ h w.
    kept (setting g.P.Ordinate.kind g.P.Distance.measure g.R.Reduction.rule c.args.self)
    (lawful_setting g.P.Ordinate.kind g.P.Distance.measure g.R.Reduction.rule c.args.self g.met.P.Ordinate.lawful g.met.P.Distance.lawful g.met.R.Reduction.lawful)
    h _ _ _ _ _ _ w (returns-in-Err-put_span-clause-outcome g c)

pub returns-clause-outcome : goal.returns-clause-outcome
returns-clause-outcome g c =
    let d = c.args.self in
    let o = g.O.Outlet.contents c.args.outlet.now in
    let ps = c.args.points.now in
    let work = length c.args.work.now in
    let A : Setting g.row.P.Denot = setting g.P.Ordinate.kind g.P.Distance.measure g.R.Reduction.rule d in
    let ticks : FitsSigned w64 c.args.ticks = search rules in
    let e = to_z-of_z w64 c.args.ticks ticks in
    let same = c.next_span.ensures.same in
    let fits = c.in-Ok.ensures.fits.0 in
    let some = drawn_some A.kind A.measure A.rule ps fits.drawn in
    let first = subst (λ (q : Contents g.row.P.Denot). First (reasons A (facing A (progress d) q) (lay ps (pos c.in-Ok.span.ticks) work)) None) same c.in_default.ensures.first in
    let after = g.O.Outlet.contents c.put_span.new.outlet in
    let puts = subst (λ (q : Contents g.row.P.Denot). Puts A ps c.in-Ok.span (Ok tt) q after) same c.in_default.ensures.puts in
    let now : Progress g.row.P.Denot = record { count = c.count.result; laid = d.laid + c.ticks.result; end_value = c.copied.result } in
    let last = c.copied.ensures ∙ c.last.ensures.value ∙ slice_get-get_or ps (length ps - 1) (blank A.kind) (omega arith) in
    let out = laid_outcome A (progress d) o ps c.in-Ok.span fits work c.args.ticks (c.in-Ok.ensures.fits.1 ∙ e) first after puts now c.count.ensures.value (ap (λ (n : ℕ). d.laid + n) c.ticks.ensures) last in
    subst (λ (q : Contents g.row.P.Denot). Outcome A (lay ps c.args.ticks work) (progress d) o (Ok tt) now q) (sym c.count.ensures.same) out

pub returns-clause-keeps : goal.returns-clause-keeps
returns-clause-keeps g c = λ h w.
    kept (setting g.P.Ordinate.kind g.P.Distance.measure g.R.Reduction.rule c.args.self)
    (lawful_setting g.P.Ordinate.kind g.P.Distance.measure g.R.Reduction.rule c.args.self g.met.P.Ordinate.lawful g.met.P.Distance.lawful g.met.R.Reduction.lawful)
    h _ _ _ _ _ _ w (returns-clause-outcome g c)
