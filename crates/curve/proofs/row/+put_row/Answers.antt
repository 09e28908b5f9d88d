use Rattle.std.proofs.Common.{rules, ap, ◌≡◌, ◌+◌, ◌-◌, ◌*◌, ◌≤◌, length, take, arith, sym, ◌∙◌, refl}
use Rattle.bezier.specs.Rounds.{right_half}
use Rattle.curve.specs.Pieces.{piece, piece_leg}
use Rattle.curve.proofs.Handing.{may_left, may_right, put_both, put_passing}
use Rattle.leg.specs.declared.leg.Cell.{Cell}
use Rattle.curve.proofs.Rows.{drawn_left, drawn_right, first_row, next_row, one_row, row_length, rows_kept, rows_lent, two_rows}
use Rattle.curve.proofs.row.+put_row.Goals as goal

pub split-requires : goal.split-requires
split-requires g t c =
    let long = row_length _ c.args.row c.args.work.now c.requires.rows in
    record { some = omega (arith, c.requires.drawn.enough); rows = two_rows c.args.accuracy.depth c.args.part.cell.depth c.args.row (length c.args.work.now) (omega arith) c.requires.rows }

pub put_row-requires : goal.put_row-requires
put_row-requires g t' c κs =
    let K = g.P.Ordinate.kind in
    let M = g.P.Distance.measure in
    let R = g.R.Reduction.rule in
    let D = c.args.accuracy.depth in
    let d = c.args.part.cell.depth in
    let row = c.args.row in
    let ps = take row c.args.work.now in
    let w = c.split.new.work in
    let l = c.halves.result.0.cell in
    let is = c.halves.ensures.first in
    let deeper : l.depth ≡ d + 1 = ap (λ (x : Cell). x.depth) is in
    let long : (D - d + 1) * row ≤ length w = omega (arith, c.split.auto.work) in
    let left_row = next_row row w ∙ c.split.ensures.left in
    let rows = rows_lent D d l.depth row w (omega arith) deeper long in
    let drawn = drawn_left K M R g.met.P.Ordinate.lawful ps _ left_row c.requires.drawn in
    let ready = may_left K M R c.args.accuracy.tolerance (piece_leg K R c.args.span.from c.args.span.ticks) D c.args.part.cell l c.halves.result.1.cell ps _ (right_half K ps) (g.O.Outlet.contents c.args.outlet.now) (omega arith) (sym c.passes.ensures ∙ c.if-passes.false)
    is c.halves.ensures.second left_row refl c.requires.ready in
    search rules

pub put_row-requires-2 : goal.put_row-requires-2
put_row-requires-2 g t' c κs =
    let K = g.P.Ordinate.kind in
    let M = g.P.Distance.measure in
    let R = g.R.Reduction.rule in
    let D = c.args.accuracy.depth in
    let d = c.args.part.cell.depth in
    let row = c.args.row in
    let ps = take row c.args.work.now in
    let w = c.split.new.work in
    let r = c.halves.result.1.cell in
    let is = c.halves.ensures.second in
    let deeper : r.depth ≡ d + 1 = ap (λ (x : Cell). x.depth) is in
    let long : (D - d + 1) * row ≤ length w = omega (arith, c.split.auto.work) in
    let right_row = first_row row w c.put_row.new.work (one_row _ row (length w) long) ∙ c.split.ensures.right in
    let rows = rows_kept D d r.depth row (length w) (omega arith) deeper long in
    let drawn = drawn_right K M R g.met.P.Ordinate.lawful ps _ right_row c.requires.drawn in
    let ready = may_right K M R c.args.accuracy.tolerance (piece_leg K R c.args.span.from c.args.span.ticks) D c.args.part.cell c.halves.result.0.cell r ps _ _ (g.O.Outlet.contents c.args.outlet.now) (omega arith) (sym c.passes.ensures ∙ c.if-passes.false)
    c.halves.ensures.first is (next_row row w ∙ c.split.ensures.left) right_row c.requires.ready (g.O.Outlet.contents c.put_row.new.outlet) c.put_row.ensures in
    search rules

pub returns-then-passes : goal.returns-then-passes
returns-then-passes g t' c =
    let K = g.P.Ordinate.kind in
    let R = g.R.Reduction.rule in
    let ps = take c.args.row c.args.work.now in
    put_passing K g.P.Distance.measure R c.args.accuracy.tolerance (piece_leg K R c.args.span.from c.args.span.ticks) (c.args.accuracy.depth - c.args.part.cell.depth) (piece c.args.part.cell ps) (g.O.Outlet.contents c.args.outlet.now) _ _ c.put.result
    (sym c.passes.ensures ∙ c.if-passes.true) c.requires.ready c.leg.ensures c.put.ensures.puts

pub returns : goal.returns
returns g t' c =
    let K = g.P.Ordinate.kind in
    let M = g.P.Distance.measure in
    let R = g.R.Reduction.rule in
    let D = c.args.accuracy.depth in
    let row = c.args.row in
    let ps = take row c.args.work.now in
    let w = c.split.new.work in
    let long : (D - c.args.part.cell.depth + 1) * row ≤ length w = omega (arith, c.split.auto.work) in
    let right_row = first_row row w c.put_row.new.work (one_row _ row (length w) long) ∙ c.split.ensures.right in
    c.put_row-2.ensures
    ∙ put_both K M R c.args.accuracy.tolerance (piece_leg K R c.args.span.from c.args.span.ticks) D c.args.part.cell c.halves.result.0.cell c.halves.result.1.cell ps _ _ (g.O.Outlet.contents c.args.outlet.now) (omega arith) (sym c.passes.ensures ∙ c.if-passes.false)
    c.halves.ensures.first c.halves.ensures.second (next_row row w ∙ c.split.ensures.left) right_row c.requires.ready (g.O.Outlet.contents c.put_row.new.outlet) c.put_row.ensures
