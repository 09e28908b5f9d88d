use Rattle.std.proofs.Common.{◌∷◌, [], codes, arith}
use Rattle.plan_text.specs.Printing.{natural_field, sealed_line}
use Rattle.plan_text.proofs.Sizes.{field_size, sealed_size}
use Rattle.plan_text.proofs.Begun.{begin, begin_item, finish}
use Rattle.plan_text.proofs.print.print_sealed.Goals as goal

pub returns-in_err-check_room-clause-fits : goal.returns-in_err-check_room-clause-fits
returns-in_err-check_room-clause-fits c = sealed_size c.args.legs c.args.ticks (omega arith) (omega arith)

pub returns-clause-fits : goal.returns-clause-fits
returns-clause-fits c = sealed_size c.args.legs c.args.ticks (omega arith) (omega arith)

pub put_item-end-requires : goal.put_item-end-requires
put_item-end-requires c = omega (arith, field_size 20 c.args.legs (codes "legs") (omega arith) (omega arith) (omega arith))

pub put_item-end-requires-2 : goal.put_item-end-requires-2
put_item-end-requires-2 c =
    omega (arith, field_size 20 c.args.legs (codes "legs") (omega arith) (omega arith) (omega arith), field_size 10 c.args.ticks (codes "ticks") (omega arith) (omega arith) (omega arith))

pub put-requires : goal.put-requires
put-requires c =
    omega (arith, field_size 20 c.args.legs (codes "legs") (omega arith) (omega arith) (omega arith), field_size 10 c.args.ticks (codes "ticks") (omega arith) (omega arith) (omega arith))

pub returns-clause-prints : goal.returns-clause-prints
unfolding sealed_line
returns-clause-prints c =
    let before = c.args.buffer.now in
    let name = codes "sealed" in
    let legs = natural_field (codes "legs") c.args.legs in
    let ticks = natural_field (codes "ticks") c.args.ticks in
    let one = begin before name c.put-end.new.buffer c.put-end.result c.put-end.ensures.written c.put-end.ensures.end in
    let two = begin_item before name [] legs c.put-end.new.buffer c.put_item-end.new.buffer c.put-end.result c.put_item-end.result one c.put_item-end.ensures.written c.put_item-end.ensures.end in
    let three = begin_item before name (legs ∷ []) ticks c.put_item-end.new.buffer c.put_item-end-2.new.buffer c.put_item-end.result c.put_item-end-2.result two c.put_item-end-2.ensures.written c.put_item-end-2.ensures.end in
    let done = finish before name (legs ∷ ticks ∷ []) c.put_item-end-2.new.buffer c.put.new.buffer c.put_item-end-2.result c.put.result three c.put.ensures.written c.put.ensures.end in
    (done.size, (omega arith, done.whole))
