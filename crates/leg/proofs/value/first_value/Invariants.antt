use Rattle.std.proofs.Common.{drop, Option}
use Rattle.ordinate.specs.declared.flow.Flow.{Flow}
use Rattle.leg.specs.Values.{FirstTells}
use Rattle.leg.proofs.value.first_value.Given as goal

abbrev pub invariant-loop-leg : goal.invariant-loop-leg
invariant-loop-leg l = (r : Option Flow) → FirstTells (drop l.leg-index l.legs) l.tick r → FirstTells l.legs l.tick r
