use Rattle.std.proofs.Common.{rules, ap, ◌≡◌, ◌+◌, ◌-◌, ◌*◌, ◌≤◌, length, take, Some, None, arith, sym, ◌∙◌, refl}
use Rattle.bezier.specs.Rounds.{right_half}
use Rattle.curve.specs.Pieces.{piece}
use Rattle.curve.proofs.Counting.{counted_few, counted_halved, counted_last, counted_passing}
use Rattle.leg.specs.declared.leg.Cell.{Cell}
use Rattle.curve.proofs.Rows.{drawn_left, drawn_right, first_row, next_row, one_row, row_length, rows_kept, rows_lent, two_rows}
use Rattle.curve.proofs.row.+count_row.Goals as goal

pub returns-then-passes : goal.returns-then-passes
returns-then-passes g t c =
    let a = c.args.accuracy in
    let ps = take c.args.row c.args.work.now in
    sym (counted_passing g.P.Ordinate.kind g.P.Distance.measure g.R.Reduction.rule a.tolerance (a.depth - c.args.part.cell.depth) (piece c.args.part.cell ps) (sym c.passes.ensures ∙ c.if-passes.true))

pub returns-then-part-depth : goal.returns-then-part-depth
returns-then-part-depth g t c =
    let a = c.args.accuracy in
    let ps = take c.args.row c.args.work.now in
    sym (counted_last g.P.Ordinate.kind g.P.Distance.measure g.R.Reduction.rule a.tolerance (a.depth - c.args.part.cell.depth) (piece c.args.part.cell ps) (omega arith) (sym c.passes.ensures ∙ c.if-passes.false))

pub split-requires : goal.split-requires
split-requires g t c =
    let long = row_length _ c.args.row c.args.work.now c.requires.rows in
    record { some = omega (arith, c.requires.drawn.enough); rows = two_rows c.args.accuracy.depth c.args.part.cell.depth c.args.row (length c.args.work.now) (omega arith) c.requires.rows }

pub count_row-requires : goal.count_row-requires
count_row-requires g t c κs =
    let D = c.args.accuracy.depth in
    let d = c.args.part.cell.depth in
    let row = c.args.row in
    let w = c.split.new.work in
    let l = c.halves.result.0.cell in
    let is = c.halves.ensures.first in
    let deeper : l.depth ≡ d + 1 = ap (λ (x : Cell). x.depth) is in
    let long : (D - d + 1) * row ≤ length w = omega (arith, c.split.auto.work) in
    let rows = rows_lent D d l.depth row w (omega arith) deeper long in
    let drawn = drawn_left g.P.Ordinate.kind g.P.Distance.measure g.R.Reduction.rule g.met.P.Ordinate.lawful (take row c.args.work.now) _ (next_row row w ∙ c.split.ensures.left) c.requires.drawn in
    search rules

pub count_row-requires-2 : goal.count_row-requires-2
count_row-requires-2 g t c κs =
    let D = c.args.accuracy.depth in
    let d = c.args.part.cell.depth in
    let row = c.args.row in
    let w = c.split.new.work in
    let r = c.halves.result.1.cell in
    let is = c.halves.ensures.second in
    let deeper : r.depth ≡ d + 1 = ap (λ (x : Cell). x.depth) is in
    let long : (D - d + 1) * row ≤ length w = omega (arith, c.split.auto.work) in
    let same = first_row row w c.count_row.new.work (one_row _ row (length w) long) in
    let rows = rows_kept D d r.depth row (length w) (omega arith) deeper long in
    let drawn = drawn_right g.P.Ordinate.kind g.P.Distance.measure g.R.Reduction.rule g.met.P.Ordinate.lawful (take row c.args.work.now) _ (same ∙ c.split.ensures.right) c.requires.drawn in
    search rules

pub returns-in_err-first : goal.returns-in_err-first
returns-in_err-first g t' c =
    let K = g.P.Ordinate.kind in
    let M = g.P.Distance.measure in
    let R = g.R.Reduction.rule in
    let row = c.args.row in
    let ps = take row c.args.work.now in
    c.from_residual.ensures ∙ sym (counted_halved K M R c.args.accuracy.tolerance c.args.accuracy.depth c.args.part.cell c.halves.result.0.cell c.halves.result.1.cell ps _ (right_half K ps) None _ (omega arith) (sym c.passes.ensures ∙ c.if-passes.false)
    c.halves.ensures.first c.halves.ensures.second (next_row row c.split.new.work ∙ c.split.ensures.left) refl (sym c.in_err-first.was ∙ c.count_row.ensures) refl)

pub returns-in_err-second : goal.returns-in_err-second
returns-in_err-second g t' c =
    let K = g.P.Ordinate.kind in
    let M = g.P.Distance.measure in
    let R = g.R.Reduction.rule in
    let row = c.args.row in
    let w = c.split.new.work in
    let long : (c.args.accuracy.depth - c.args.part.cell.depth + 1) * row ≤ length w = omega (arith, c.split.auto.work) in
    let same = first_row row w c.count_row.new.work (one_row _ row (length w) long) in
    c.from_residual-in_err-second.ensures ∙ sym (counted_halved K M R c.args.accuracy.tolerance c.args.accuracy.depth c.args.part.cell c.halves.result.0.cell c.halves.result.1.cell (take row c.args.work.now) _ _ (Some c.in_ok-first.first) None (omega arith) (sym c.passes.ensures ∙ c.if-passes.false)
    c.halves.ensures.first c.halves.ensures.second (next_row row w ∙ c.split.ensures.left) (same ∙ c.split.ensures.right) (sym c.in_ok-first.was ∙ c.count_row.ensures) (sym c.in_err-second.was ∙ c.count_row-2.ensures))

pub overflow_add-result : goal.overflow_add-result
overflow_add-result g t c =
    let a = counted_few g.P.Ordinate.kind g.P.Distance.measure g.R.Reduction.rule c.args.accuracy.tolerance (c.args.accuracy.depth - c.halves.result.0.cell.depth) _ c.in_ok-first.first (sym c.in_ok-first.was ∙ c.count_row.ensures) (omega arith) in
    let b = counted_few g.P.Ordinate.kind g.P.Distance.measure g.R.Reduction.rule c.args.accuracy.tolerance (c.args.accuracy.depth - c.halves.result.1.cell.depth) _ c.in_ok-second.second (sym c.in_ok-second.was ∙ c.count_row-2.ensures) (omega arith) in
    omega arith

pub overflow_add-result-2 : goal.overflow_add-result-2
overflow_add-result-2 g t c =
    let a = counted_few g.P.Ordinate.kind g.P.Distance.measure g.R.Reduction.rule c.args.accuracy.tolerance (c.args.accuracy.depth - c.halves.result.0.cell.depth) _ c.in_ok-first.first (sym c.in_ok-first.was ∙ c.count_row.ensures) (omega arith) in
    omega arith

pub overflow_add-result-3 : goal.overflow_add-result-3
overflow_add-result-3 g t c =
    let a = counted_few g.P.Ordinate.kind g.P.Distance.measure g.R.Reduction.rule c.args.accuracy.tolerance (c.args.accuracy.depth - c.halves.result.0.cell.depth) _ c.in_ok-first.first (sym c.in_ok-first.was ∙ c.count_row.ensures) (omega arith) in
    let b = counted_few g.P.Ordinate.kind g.P.Distance.measure g.R.Reduction.rule c.args.accuracy.tolerance (c.args.accuracy.depth - c.halves.result.1.cell.depth) _ c.in_ok-second.second (sym c.in_ok-second.was ∙ c.count_row-2.ensures) (omega arith) in
    omega arith

pub returns : goal.returns
returns g t' c =
    let K = g.P.Ordinate.kind in
    let M = g.P.Distance.measure in
    let R = g.R.Reduction.rule in
    let row = c.args.row in
    let w = c.split.new.work in
    let long : (c.args.accuracy.depth - c.args.part.cell.depth + 1) * row ≤ length w = omega (arith, c.split.auto.work) in
    let same = first_row row w c.count_row.new.work (one_row _ row (length w) long) in
    sym (counted_halved K M R c.args.accuracy.tolerance c.args.accuracy.depth c.args.part.cell c.halves.result.0.cell c.halves.result.1.cell (take row c.args.work.now) _ _ (Some c.in_ok-first.first) (Some c.in_ok-second.second) (omega arith) (sym c.passes.ensures ∙ c.if-passes.false)
    c.halves.ensures.first c.halves.ensures.second (next_row row w ∙ c.split.ensures.left) (same ∙ c.split.ensures.right) (sym c.in_ok-first.was ∙ c.count_row.ensures) (sym c.in_ok-second.was ∙ c.count_row-2.ensures))
