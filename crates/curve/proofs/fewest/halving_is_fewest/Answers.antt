use Rattle.curve.proofs.Divisions.{halving_is_fewest}
use Rattle.curve.proofs.fewest.halving_is_fewest.Goals as goal

pub returns : goal.returns
returns c = halving_is_fewest
