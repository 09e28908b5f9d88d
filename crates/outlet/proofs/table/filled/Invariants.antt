use Rattle.std.proofs.Common.{◌≡◌, replicate, vec_items}
use Rattle.outlet.proofs.table.filled.Given as goal

abbrev pub invariant-loop : goal.invariant-loop
invariant-loop g l = vec_items l.records ≡ replicate l.counter l.leg
