use Rattle.std.proofs.Common.{◌+◌, length, sym, refl, subst}
use Rattle.card_writer.proofs.Started.{room_for}
use Rattle.card_writer.proofs.Listing.{SoFar, none_so_far, room_so_far, one_more}
use Rattle.card_writer.proofs.write.put_legs.Goals as goal

pub loop-i-init : goal.loop-i-init
loop-i-init g c = none_so_far g.P.Ordinate.kind (length c.args.octets.now) c.args.legs.now c.args.octets.now refl c.requires.start

pub add_record-requires : goal.add_record-requires
add_record-requires g c =
    let K = g.P.Ordinate.kind in
    let n = length c.args.octets.now in
    let i = c.loop-i.i in
    let xs = c.loop-i.octets in
    room_for K (length xs) i (room_so_far K g.met.P.Ordinate.lawful n c.args.legs.now i c.index-legs-i.result xs c.loop-i-test.true c.index-legs-i.is c.requires.fit c.loop-i.invariant)

pub loop-i-preserved : goal.loop-i-preserved
loop-i-preserved g c =
    let K = g.P.Ordinate.kind in
    let n = length c.args.octets.now in
    let ls = c.args.legs.now in
    subst (SoFar K n ls (c.loop-i.i + 1)) (sym c.add_record.ensures)
    (one_more K g.met.P.Ordinate.lawful n ls c.loop-i.i c.index-legs-i.result c.loop-i.octets c.loop-i-test.true c.index-legs-i.is c.requires.fit c.loop-i.invariant)
