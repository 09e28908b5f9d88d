use Rattle.std.proofs.Common.{arith}
use Rattle.card_writer.proofs.Held.{keep_all, keep_done}
use Rattle.card_writer.proofs.card_outlet.CardOutletOutlet.keep.Goals as goal

pub returns-then-n-count-clause-keeps : goal.returns-then-n-count-clause-keeps
returns-then-n-count-clause-keeps g c =
    (keep_done g.P.Ordinate.kind c.args.self.now.octets.now c.args.n _ _ c.listed-count.ensures (omega arith) c.drop_records.ensures).holds

pub returns-then-n-count-clause-carded : goal.returns-then-n-count-clause-carded
returns-then-n-count-clause-carded g c =
    (keep_done g.P.Ordinate.kind c.args.self.now.octets.now c.args.n _ _ c.listed-count.ensures (omega arith) c.drop_records.ensures).carded

pub returns-else-n-count-clause-keeps : goal.returns-else-n-count-clause-keeps
returns-else-n-count-clause-keeps g c = keep_all g.P.Ordinate.kind c.args.self.now.octets.now c.args.n (omega (arith, c.listed-count.ensures))
