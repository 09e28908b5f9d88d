use Rattle.std.proofs.Common.{◌∷◌, [], codes, arith}
use Rattle.plan_text.specs.Texts.{listed}
use Rattle.plan_text.specs.Forms.{at_text}
use Rattle.plan_text.specs.Printing.{natural_text, natural_field, leg_line}
use Rattle.plan_text.proofs.LegLines.{from_size, ticks_size, cell_size, degree_size, point_size, leg_size}
use Rattle.plan_text.proofs.Begun.{begin, begin_item, begin_at, finish}
use Rattle.plan_text.proofs.print.print_leg.Goals as goal

pub returns-in_err-check_room-clause-fits : goal.returns-in_err-check_room-clause-fits
returns-in_err-check_room-clause-fits g c = leg_size g.P.Ordinate.kind g.P.Notation.at g.met.P.Notation.same g.met.P.Notation.few c.args.leg.now

pub returns-clause-fits : goal.returns-clause-fits
returns-clause-fits g c = leg_size g.P.Ordinate.kind g.P.Notation.at g.met.P.Notation.same g.met.P.Notation.few c.args.leg.now

pub put_item-end-requires : goal.put_item-end-requires
put_item-end-requires g c =
    let leg = c.if-not-is_leg.ensures.yes tt in
    omega (
      arith,
      from_size c.args.leg.now.stretch leg.place,
    )

pub put_item-end-requires-2 : goal.put_item-end-requires-2
put_item-end-requires-2 g c =
    let leg = c.if-not-is_leg.ensures.yes tt in
    omega (
      arith,
      from_size c.args.leg.now.stretch leg.place,
      ticks_size c.args.leg.now.stretch leg.place,
    )

pub put_item-end-requires-3 : goal.put_item-end-requires-3
put_item-end-requires-3 g c =
    let leg = c.if-not-is_leg.ensures.yes tt in
    omega (
      arith,
      from_size c.args.leg.now.stretch leg.place,
      ticks_size c.args.leg.now.stretch leg.place,
      cell_size c.args.leg.now.stretch leg.place,
    )

pub put_item-end-requires-4 : goal.put_item-end-requires-4
put_item-end-requires-4 g c =
    let leg = c.if-not-is_leg.ensures.yes tt in
    omega (
      arith,
      from_size c.args.leg.now.stretch leg.place,
      ticks_size c.args.leg.now.stretch leg.place,
      cell_size c.args.leg.now.stretch leg.place,
      degree_size c.args.leg.now.degree leg.one_or_two,
    )

pub put_at-end-requires : goal.put_at-end-requires
put_at-end-requires g c =
    let leg = c.if-not-is_leg.ensures.yes tt in
    omega (
      arith,
      from_size c.args.leg.now.stretch leg.place,
      ticks_size c.args.leg.now.stretch leg.place,
      cell_size c.args.leg.now.stretch leg.place,
      degree_size c.args.leg.now.degree leg.one_or_two,
      point_size g.P.Ordinate.kind g.P.Notation.at g.met.P.Notation.same g.met.P.Notation.few c.args.leg.now.start leg.start_in c.to_at.result c.to_at.ensures,
    )

pub put_at-end-requires-2 : goal.put_at-end-requires-2
put_at-end-requires-2 g c =
    let leg = c.if-not-is_leg.ensures.yes tt in
    omega (
      arith,
      from_size c.args.leg.now.stretch leg.place,
      ticks_size c.args.leg.now.stretch leg.place,
      cell_size c.args.leg.now.stretch leg.place,
      degree_size c.args.leg.now.degree leg.one_or_two,
      point_size g.P.Ordinate.kind g.P.Notation.at g.met.P.Notation.same g.met.P.Notation.few c.args.leg.now.start leg.start_in c.to_at.result c.to_at.ensures,
      point_size g.P.Ordinate.kind g.P.Notation.at g.met.P.Notation.same g.met.P.Notation.few c.args.leg.now.middle leg.middle_in c.to_at-2.result c.to_at-2.ensures,
    )

pub put_at-end-requires-3 : goal.put_at-end-requires-3
put_at-end-requires-3 g c =
    let leg = c.if-not-is_leg.ensures.yes tt in
    omega (
      arith,
      from_size c.args.leg.now.stretch leg.place,
      ticks_size c.args.leg.now.stretch leg.place,
      cell_size c.args.leg.now.stretch leg.place,
      degree_size c.args.leg.now.degree leg.one_or_two,
      point_size g.P.Ordinate.kind g.P.Notation.at g.met.P.Notation.same g.met.P.Notation.few c.args.leg.now.start leg.start_in c.to_at.result c.to_at.ensures,
      point_size g.P.Ordinate.kind g.P.Notation.at g.met.P.Notation.same g.met.P.Notation.few c.args.leg.now.middle leg.middle_in c.to_at-2.result c.to_at-2.ensures,
      point_size g.P.Ordinate.kind g.P.Notation.at g.met.P.Notation.same g.met.P.Notation.few c.args.leg.now.end leg.end_in c.to_at-3.result c.to_at-3.ensures,
    )

pub put-requires : goal.put-requires
put-requires g c =
    let leg = c.if-not-is_leg.ensures.yes tt in
    omega (
      arith,
      from_size c.args.leg.now.stretch leg.place,
      ticks_size c.args.leg.now.stretch leg.place,
      cell_size c.args.leg.now.stretch leg.place,
      degree_size c.args.leg.now.degree leg.one_or_two,
      point_size g.P.Ordinate.kind g.P.Notation.at g.met.P.Notation.same g.met.P.Notation.few c.args.leg.now.start leg.start_in c.to_at.result c.to_at.ensures,
      point_size g.P.Ordinate.kind g.P.Notation.at g.met.P.Notation.same g.met.P.Notation.few c.args.leg.now.middle leg.middle_in c.to_at-2.result c.to_at-2.ensures,
      point_size g.P.Ordinate.kind g.P.Notation.at g.met.P.Notation.same g.met.P.Notation.few c.args.leg.now.end leg.end_in c.to_at-3.result c.to_at-3.ensures,
    )

pub returns-clause-prints : goal.returns-clause-prints
unfolding leg_line
returns-clause-prints g c =
    let leg = c.if-not-is_leg.ensures.yes tt in
    let before = c.args.buffer.now in
    let name = codes "leg" in
    let h = c.args.leg.now.stretch in
    let from = natural_field (codes "from") h.from in
    let ticks = natural_field (codes "ticks") h.ticks in
    let cell = listed (codes "cell") (natural_text h.cell.depth ∷ natural_text h.cell.index ∷ []) in
    let degree = natural_field (codes "degree") c.args.leg.now.degree in
    let a = at_text (g.P.Notation.at c.args.leg.now.start) in
    let b = at_text (g.P.Notation.at c.args.leg.now.middle) in
    let z = at_text (g.P.Notation.at c.args.leg.now.end) in
    let s0 = begin before name c.put-end.new.buffer c.put-end.result c.put-end.ensures.written c.put-end.ensures.end in
    let s1 = begin_item before name [] from c.put-end.new.buffer c.put_item-end.new.buffer c.put-end.result c.put_item-end.result s0 c.put_item-end.ensures.written c.put_item-end.ensures.end in
    let s2 = begin_item before name (from ∷ []) ticks c.put_item-end.new.buffer c.put_item-end-2.new.buffer c.put_item-end.result c.put_item-end-2.result s1 c.put_item-end-2.ensures.written c.put_item-end-2.ensures.end in
    let s3 = begin_item before name (from ∷ ticks ∷ []) cell c.put_item-end-2.new.buffer c.put_item-end-3.new.buffer c.put_item-end-2.result c.put_item-end-3.result s2 c.put_item-end-3.ensures.written c.put_item-end-3.ensures.end in
    let s4 = begin_item before name (from ∷ ticks ∷ cell ∷ []) degree c.put_item-end-3.new.buffer c.put_item-end-4.new.buffer c.put_item-end-3.result c.put_item-end-4.result s3 c.put_item-end-4.ensures.written c.put_item-end-4.ensures.end in
    let s5 = begin_at before name (from ∷ ticks ∷ cell ∷ degree ∷ []) (g.P.Notation.at c.args.leg.now.start) c.to_at.result c.put_item-end-4.new.buffer c.put_at-end.new.buffer c.put_item-end-4.result c.put_at-end.result s4 c.to_at.ensures c.put_at-end.ensures.written c.put_at-end.ensures.end in
    let s6 = begin_at before name (from ∷ ticks ∷ cell ∷ degree ∷ a ∷ []) (g.P.Notation.at c.args.leg.now.middle) c.to_at-2.result c.put_at-end.new.buffer c.put_at-end-2.new.buffer c.put_at-end.result c.put_at-end-2.result s5 c.to_at-2.ensures c.put_at-end-2.ensures.written c.put_at-end-2.ensures.end in
    let s7 = begin_at before name (from ∷ ticks ∷ cell ∷ degree ∷ a ∷ b ∷ []) (g.P.Notation.at c.args.leg.now.end) c.to_at-3.result c.put_at-end-2.new.buffer c.put_at-end-3.new.buffer c.put_at-end-2.result c.put_at-end-3.result s6 c.to_at-3.ensures c.put_at-end-3.ensures.written c.put_at-end-3.ensures.end in
    let done = finish before name (from ∷ ticks ∷ cell ∷ degree ∷ a ∷ b ∷ z ∷ []) c.put_at-end-3.new.buffer c.put.new.buffer c.put_at-end-3.result c.put.result s7 c.put.ensures.written c.put.ensures.end in
    (leg, done.size, (omega arith, done.whole))
