use Rattle.std.proofs.Common.{◌∷◌, [], map, take, sym, subst, arith}
use Rattle.plan_text.specs.Texts.{spaced}
use Rattle.plan_text.proofs.Over.{Wrote, wrote_nothing, wrote_more}
use Rattle.plan_text.proofs.Spacing.{one_more, room, all_spaced}
use Rattle.plan_text.proofs.put.put_numbers.Goals as goal

pub put-end-requires : goal.put-end-requires
put-end-requires g c =
    omega (arith, room g.I.Integer.text c.args.numbers.now c.loop-number.number-index c.number-item.result c.loop-number-test.true c.number-item.is, c.loop-number.invariant.end_is, c.loop-number.auto.buffer)

pub put_number-end-requires : goal.put_number-end-requires
put_number-end-requires g c =
    omega (
      arith,
      room g.I.Integer.text c.args.numbers.now c.loop-number.number-index c.number-item.result c.loop-number-test.true c.number-item.is,
      c.loop-number.invariant.end_is,
      c.loop-number.auto.buffer,
    )

pub loop-number-init : goal.loop-number-init
loop-number-init g c = wrote_nothing c.args.buffer.now c.args.place

pub loop-number-preserved : goal.loop-number-preserved
loop-number-preserved g c =
    let i = c.loop-number.number-index in
    let x = c.number-item.result in
    let front = spaced (map g.I.Integer.text (take i c.args.numbers.now)) in
    let spaced_one = wrote_more c.args.buffer.now c.args.place front (32 ∷ []) c.loop-number.buffer c.put-end.new.buffer c.loop-number.end c.put-end.result (omega arith) c.loop-number.invariant c.put-end.ensures.written c.put-end.ensures.end in
    subst (λ t. Wrote c.args.buffer.now c.args.place t c.put_number-end.new.buffer c.put_number-end.result)
    (sym (one_more g.I.Integer.text c.args.numbers.now i x c.loop-number-test.true c.number-item.is))
    (wrote_more c.args.buffer.now c.args.place _ (g.I.Integer.text x) c.put-end.new.buffer c.put_number-end.new.buffer c.put-end.result c.put_number-end.result (omega arith) spaced_one c.put_number-end.ensures.written c.put_number-end.ensures.end)

pub returns : goal.returns
returns g c =
    let all = all_spaced g.I.Integer.text c.args.numbers.now c.loop-number.number-index c.loop-number-test.false in
    let whole = subst (λ t. Wrote c.args.buffer.now c.args.place t c.loop-number.buffer c.loop-number.end) all c.loop-number.invariant in
    record { written = whole.written; end = whole.end_is }
