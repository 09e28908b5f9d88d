use Rattle.std.proofs.Common.{◌∙◌, FitsSigned, pos, ◌+ℤ◌, ◌<ℤ◌, ◌≤ℤ◌, ◌⊎◌, ℤ, arith, refl, of_z, rules, subst, sym, to_z, w64}
use Rattle.std.proofs.lemmas.Int.{ints, to_z-of_z}
use Rattle.turn.specs.Settings.{Setting}
use Rattle.turn.proofs.Laying.{lay_past_end, lay_points, lay_ticks}
use Rattle.planner.specs.Drafts.{progress, setting}
use Rattle.planner.proofs.Begun.{converted}
use Rattle.planner.proofs.Laid.{points_not_begun}
use Rattle.planner.proofs.Ranges.{outside, within}
use Rattle.planner.proofs.draft.Draft.next_span.Goals as goal

pub returns-in_err-check_points-clause-refused : goal.returns-in_err-check_points-clause-refused
returns-in_err-check_points-clause-refused g c =
    let d = c.args.self.now in
    let o = g.O.Outlet.contents c.args.outlet.now in
    let ps = c.args.points.now in
    let f = c.in_err-check_points.field-0.0 in
    let A : Setting g.row.P.Denot = setting g.P.Ordinate.kind g.P.Distance.measure g.R.Reduction.rule d in
    let ours = sym c.count.ensures.value ∙ c.if-count-self.false in
    rw (converted c.from_residual.result f c.from_residual.ensures.1)
    (points_not_begun A.kind A.measure A.rule ps f c.in_err-check_points.ensures.first, λ work. lay_points A (progress d) o ps c.args.ticks work ours f c.in_err-check_points.ensures.first)

pub returns-then-not-contains-clause-refused : goal.returns-then-not-contains-clause-refused
returns-then-not-contains-clause-refused g c =
    let d = c.args.self.now in
    let o = g.O.Outlet.contents c.args.outlet.now in
    let A : Setting g.row.P.Denot = setting g.P.Ordinate.kind g.P.Distance.measure g.R.Reduction.rule d in
    let ours = sym c.count.ensures.value ∙ c.if-count-self.false in
    let fits : FitsSigned w64 c.args.ticks = search rules in
    let r = rw (c.new.ensures.exhausted, c.new.ensures.start, c.new.ensures.end) at (sym c.contains.ensures.value ∙ c.if-not-contains.true) in
    let out = subst (λ (x : ℤ). (x <ℤ pos 1) ⊎ (pos 4096 <ℤ x)) (to_z-of_z w64 c.args.ticks fits) (outside (pos 1) (pos 4096) (to_z w64 (of_z w64 c.args.ticks)) r) in
    (refl, λ work. lay_ticks A (progress d) o c.args.points.now c.args.ticks work ours c.in_ok-check_points.ensures.first out)

pub returns-then-ticks-self-clause-refused : goal.returns-then-ticks-self-clause-refused
returns-then-ticks-self-clause-refused g c =
    let fits : FitsSigned w64 c.args.ticks = search rules in
    let e = to_z-of_z w64 c.args.ticks fits in
    let d = c.args.self.now in
    let o = g.O.Outlet.contents c.args.outlet.now in
    let A : Setting g.row.P.Denot = setting g.P.Ordinate.kind g.P.Distance.measure g.R.Reduction.rule d in
    let ours = sym c.count.ensures.value ∙ c.if-count-self.false in
    let timely = d.timely in
    let inside = d.inside in
    let r = rw (c.new.ensures.exhausted, c.new.ensures.start, c.new.ensures.end) at (sym c.contains.ensures.value ∙ c.if-not-contains.false) in
    let i = within (pos 1) (pos 4096) (to_z w64 (of_z w64 c.args.ticks)) r in
    let some : pos 1 ≤ℤ c.args.ticks = omega (arith, ints, i.0) in
    let brief : c.args.ticks ≤ℤ pos 4096 = omega (arith, ints, i.1) in
    let late : pos d.end <ℤ (pos d.laid +ℤ c.args.ticks) = omega (arith, ints) in
    (refl, λ work. lay_past_end A (progress d) o c.args.points.now c.args.ticks work ours c.in_ok-check_points.ensures.first (λ h. omega (arith, ints)) (λ h. omega (arith, ints)) late)
