use Rattle.std.proofs.Common.{Some, None, length, subst, sym}
use Rattle.std.proofs.lemmas.List.{get_or_read}
use Rattle.distance.specs.Measures.{blank}
use Rattle.turn.specs.Reasons.{Continues}
use Rattle.turn.specs.Settings.{Setting}
use Rattle.planner.specs.Drafts.{progress, setting}
use Rattle.planner.proofs.Begun.{converted}
use Rattle.planner.proofs.Laid.{drawn_some, fits_apart, fits_cells}
use Rattle.planner.proofs.draft.Draft.put_span.Goals as goal

pub returns-then-not-continues_at-clause-first : goal.returns-then-not-continues_at-clause-first
returns-then-not-continues_at-clause-first g c =
    let d = c.args.self.now in
    let o = g.O.Outlet.contents c.args.outlet.now in
    let ps = c.args.points.now in
    let A : Setting g.row.P.Denot = setting g.P.Ordinate.kind g.P.Distance.measure g.R.Reduction.rule d in
    let first = get_or_read ps 0 _ (drawn_some A.kind A.measure A.rule ps c.requires.fits.drawn) c.index-points-0.is (blank A.kind) in
    fits_apart A (progress d) o ps c.args.span c.requires.fits (length c.args.work.now) (λ h. c.if-not-continues_at.ensures.no (subst (Continues d.last) (sym first) h))

pub returns-clause-first : goal.returns-clause-first
returns-clause-first g c =
    let d = c.args.self.now in
    let o = g.O.Outlet.contents c.args.outlet.now in
    let ps = c.args.points.now in
    let A : Setting g.row.P.Denot = setting g.P.Ordinate.kind g.P.Distance.measure g.R.Reduction.rule d in
    let first = get_or_read ps 0 _ (drawn_some A.kind A.measure A.rule ps c.requires.fits.drawn) c.index-points-0.is (blank A.kind) in
    let on = subst (Continues d.last) first (c.if-not-continues_at.ensures.yes tt) in
    fits_cells A (progress d) o ps c.args.span c.requires.fits (length c.args.work.now) on None c.in_ok-put.ensures.first

pub returns-in_err-put-clause-first : goal.returns-in_err-put-clause-first
returns-in_err-put-clause-first g c =
    let d = c.args.self.now in
    let o = g.O.Outlet.contents c.args.outlet.now in
    let ps = c.args.points.now in
    let A : Setting g.row.P.Denot = setting g.P.Ordinate.kind g.P.Distance.measure g.R.Reduction.rule d in
    let first = get_or_read ps 0 _ (drawn_some A.kind A.measure A.rule ps c.requires.fits.drawn) c.index-points-0.is (blank A.kind) in
    let on = subst (Continues d.last) first (c.if-not-continues_at.ensures.yes tt) in
    let f = c.in_err-put.field-0.0 in
    rw (converted c.from_residual.result f c.from_residual.ensures.1)
    (fits_cells A (progress d) o ps c.args.span c.requires.fits (length c.args.work.now) on (Some f) c.in_err-put.ensures.first)
