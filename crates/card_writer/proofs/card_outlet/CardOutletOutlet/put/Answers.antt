use Rattle.std.proofs.Common.{arith}
use Rattle.card.specs.Cards.{listed}
use Rattle.card_writer.specs.Laws.Held.{length_first}
use Rattle.card_writer.proofs.Held.{put_done}
use Rattle.card_writer.proofs.card_outlet.CardOutletOutlet.put.Goals as goal

pub returns-clause-puts : goal.returns-clause-puts
returns-clause-puts g c =
    let K = g.P.Ordinate.kind in
    let xs = c.args.self.now.octets.now in
    let il = c.if-not-is_leg.ensures.yes tt in
    let done = put_done K g.met.P.Ordinate.lawful xs c.args.leg.now il _ _ c.listed-n.ensures (omega (arith, c.capacity.ensures)) c.add_record.ensures in
    (il, omega (arith, c.listed-n.ensures, c.capacity.ensures, length_first K (listed K xs) xs), done.holds)

pub returns-clause-carded : goal.returns-clause-carded
returns-clause-carded g c =
    (put_done g.P.Ordinate.kind g.met.P.Ordinate.lawful c.args.self.now.octets.now c.args.leg.now (c.if-not-is_leg.ensures.yes tt) _ _ c.listed-n.ensures (omega (arith, c.capacity.ensures)) c.add_record.ensures).carded
