use Rattle.std.proofs.Common.{◌≡◌, take, replicate}
use Rattle.outlet.proofs.table.overwrite.Given as goal

abbrev pub invariant-loop-each : goal.invariant-loop-each
invariant-loop-each g l = take l.each-index l.records ≡ replicate l.each-index l.leg
