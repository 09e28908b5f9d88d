use Rattle.std.proofs.Common.{arith}
use Rattle.bezier.proofs.Weights.{times_wrapped}
use Rattle.bezier.proofs.weight.times.Goals as goal

pub returns : goal.returns
returns c = times_wrapped c.args.weight c.args.value (omega arith) c.ranges.value
