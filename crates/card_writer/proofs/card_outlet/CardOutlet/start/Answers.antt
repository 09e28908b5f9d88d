use Rattle.std.proofs.Common.{length}
use Rattle.card_writer.proofs.Started.{begun}
use Rattle.card_writer.proofs.card_outlet.CardOutlet.start.Goals as goal

pub returns-clause-empty : goal.returns-clause-empty
returns-clause-empty g c = (begun g.P.Ordinate.kind (length c.args.octets.now) c.begin.new.octets c.begin.ensures).empty

pub returns-clause-carded : goal.returns-clause-carded
returns-clause-carded g c = (begun g.P.Ordinate.kind (length c.args.octets.now) c.begin.new.octets c.begin.ensures).carded
