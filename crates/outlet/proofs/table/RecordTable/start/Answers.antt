use Rattle.std.proofs.Common.{rules}
use Rattle.outlet.proofs.Tables.{all_blank}
use Rattle.outlet.proofs.table.RecordTable.start.Goals as goal

pub invariant_of-result : goal.invariant_of-result
invariant_of-result g c = all_blank _ c.args.capacity c.blank_leg-blank.result (search rules)
