use Rattle.std.proofs.Common.{◌≤◌, ◌∙◌, FitsSigned, ℕ, ℤ, arith, length, rules, subst₂, w64}
use Rattle.std.proofs.lemmas.Int.{to_z-of_z}
use Rattle.std.proofs.lemmas.List.{length-take-le}
use Rattle.turn.specs.Calls.{lay}
use Rattle.turn.specs.Outcomes.{Outcome}
use Rattle.turn.specs.Reasons.{facing}
use Rattle.turn.specs.Settings.{Setting}
use Rattle.turn.proofs.Kept.{kept}
use Rattle.planner.specs.Drafts.{answer, left, progress, setting}
use Rattle.planner.specs.Runs.{as_turn}
use Rattle.planner.specs.declared.run.Turn.TheVariants.{Draft as StillDraft, Sealed as NowSealed}
use Rattle.planner.proofs.Agreed.{lawful_setting}
use Rattle.planner.proofs.Making.{as_turn_wraps, sealed_came, still_answer, still_came, still_keeps, work_stays}
use Rattle.planner.proofs.draft.Draft.make.Goals as goal

-- ---- a lay

pub returns-in-Lay-clause-outcome : goal.returns-in-Lay-clause-outcome
returns-in-Lay-clause-outcome g c =
    let A : Setting g.row.P.Denot = setting g.P.Ordinate.kind g.P.Distance.measure g.R.Reduction.rule c.args.self in
    let fits : FitsSigned w64 c.in-Lay.ticks = search rules in
    let few : c.min-used.result ≤ length c.args.work.now = omega arith in
    let used = length-take-le c.min-used.result c.args.work.now few ∙ c.min-used.ensures in
    let o = subst₂ (λ (l : ℤ) (n : ℕ). Outcome A (lay c.in-Lay.points.now l n) (progress c.args.self) (g.O.Outlet.contents c.args.outlet.now) (answer c.lay.result) (progress (left c.lay.result)) (g.O.Outlet.contents c.lay.new.outlet))
    (to_z-of_z w64 c.in-Lay.ticks fits) used c.lay.ensures.outcome in
    rw c.in-Lay.is (still_came A _ _ _ _ (as_turn StillDraft c.lay.result) c.open.result c.open.ensures c.lay.result (as_turn_wraps StillDraft c.lay.result) o)

pub returns-in-Lay-clause-keeps : goal.returns-in-Lay-clause-keeps
returns-in-Lay-clause-keeps g c = λ h w.
    kept (setting g.P.Ordinate.kind g.P.Distance.measure g.R.Reduction.rule c.args.self)
    (lawful_setting g.P.Ordinate.kind g.P.Distance.measure g.R.Reduction.rule c.args.self g.met.P.Ordinate.lawful g.met.P.Distance.lawful g.met.R.Reduction.lawful)
    h _ _ _ _ _ _ w (returns-in-Lay-clause-outcome g c)

pub returns-in-Lay-clause-same : goal.returns-in-Lay-clause-same
returns-in-Lay-clause-same g c = still_keeps c.args.self (as_turn StillDraft c.lay.result) c.open.result c.open.ensures c.lay.result (as_turn_wraps StillDraft c.lay.result) c.lay.ensures.same

pub returns-in-Lay-clause-work : goal.returns-in-Lay-clause-work
returns-in-Lay-clause-work g c =
    let A : Setting g.row.P.Denot = setting g.P.Ordinate.kind g.P.Distance.measure g.R.Reduction.rule c.args.self in
    let few : c.min-used.result ≤ length c.args.work.now = omega arith in
    let used = length-take-le c.min-used.result c.args.work.now few in
    let fits : FitsSigned w64 c.in-Lay.ticks = search rules in
    let o = subst₂ (λ (l : ℤ) (n : ℕ). Outcome A (lay c.in-Lay.points.now l n) (progress c.args.self) (g.O.Outlet.contents c.args.outlet.now) (answer c.lay.result) (progress (left c.lay.result)) (g.O.Outlet.contents c.lay.new.outlet))
    (to_z-of_z w64 c.in-Lay.ticks fits) used c.lay.ensures.outcome in
    rw (c.in-Lay.is, still_answer (as_turn StillDraft c.lay.result) c.open.result c.open.ensures c.lay.result (as_turn_wraps StillDraft c.lay.result))
    (work_stays A (facing A (progress c.args.self) (g.O.Outlet.contents c.args.outlet.now)) c.in-Lay.points.now c.in-Lay.ticks c.min-used.result c.args.work.now c.lay.new.work (answer c.lay.result) few o.answer c.lay.ensures.work)

-- ---- a strike

pub returns-in-Strike-clause-outcome : goal.returns-in-Strike-clause-outcome
returns-in-Strike-clause-outcome g c =
    let A : Setting g.row.P.Denot = setting g.P.Ordinate.kind g.P.Distance.measure g.R.Reduction.rule c.args.self in
    rw c.in-Strike.is
    (still_came A _ _ _ _ (as_turn StillDraft c.strike.result) c.open-in-Strike.result c.open-in-Strike.ensures c.strike.result (as_turn_wraps StillDraft c.strike.result) c.strike.ensures.outcome)

pub returns-in-Strike-clause-keeps : goal.returns-in-Strike-clause-keeps
returns-in-Strike-clause-keeps g c = λ h w.
    kept (setting g.P.Ordinate.kind g.P.Distance.measure g.R.Reduction.rule c.args.self)
    (lawful_setting g.P.Ordinate.kind g.P.Distance.measure g.R.Reduction.rule c.args.self g.met.P.Ordinate.lawful g.met.P.Distance.lawful g.met.R.Reduction.lawful)
    h _ _ _ _ _ _ w (returns-in-Strike-clause-outcome g c)

pub returns-in-Strike-clause-same : goal.returns-in-Strike-clause-same
returns-in-Strike-clause-same g c = still_keeps c.args.self (as_turn StillDraft c.strike.result) c.open-in-Strike.result c.open-in-Strike.ensures c.strike.result (as_turn_wraps StillDraft c.strike.result) c.strike.ensures.same

-- ---- a seal

pub returns-in-Seal-clause-outcome : goal.returns-in-Seal-clause-outcome
returns-in-Seal-clause-outcome g c =
    let A : Setting g.row.P.Denot = setting g.P.Ordinate.kind g.P.Distance.measure g.R.Reduction.rule c.args.self in
    rw c.in-Seal.is
    (sealed_came A _ _ _ _ (as_turn NowSealed c.seal.result) c.closed.result c.closed.ensures c.seal.result (as_turn_wraps NowSealed c.seal.result) c.seal.ensures.outcome)

pub returns-in-Seal-clause-keeps : goal.returns-in-Seal-clause-keeps
returns-in-Seal-clause-keeps g c = λ h w.
    kept (setting g.P.Ordinate.kind g.P.Distance.measure g.R.Reduction.rule c.args.self)
    (lawful_setting g.P.Ordinate.kind g.P.Distance.measure g.R.Reduction.rule c.args.self g.met.P.Ordinate.lawful g.met.P.Distance.lawful g.met.R.Reduction.lawful)
    h _ _ _ _ _ _ w (returns-in-Seal-clause-outcome g c)
