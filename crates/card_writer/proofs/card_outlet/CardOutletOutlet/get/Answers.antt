use Rattle.std.proofs.Common.{◌<◌, length, arith}
use Rattle.card.specs.Cards.{listed}
use Rattle.card_writer.proofs.Held.{got_on}
use Rattle.card_writer.proofs.Started.{room_for, record_at_length}
use Rattle.card_writer.proofs.card_outlet.CardOutletOutlet.get.Goals as goal

pub returns-clause-finds : goal.returns-clause-finds
returns-clause-finds g c =
    let K = g.P.Ordinate.kind in
    let xs = c.args.self.now.octets.now in
    let i = c.args.i in
    let lt : i < listed K xs = omega (arith, c.listed.ensures) in
    let whole = record_at_length K xs i (room_for K (length xs) i (omega arith)) in
    got_on K xs i c.record_octets.result.now c.read_data.result lt whole c.record_octets.ensures c.read_data.ensures
