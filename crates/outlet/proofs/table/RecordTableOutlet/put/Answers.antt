use Rattle.std.proofs.Common.{vec_items, arith}
use Rattle.outlet.proofs.Tables.{blank_from_put}
use Rattle.outlet.proofs.table.RecordTableOutlet.put.Goals as goal

pub invariant_of-self : goal.invariant_of-self
invariant_of-self g c =
    blank_from_put c.self.inside.count (vec_items c.self.inside.records) c.args.leg.now _ (omega arith) c.self.invariant.1
