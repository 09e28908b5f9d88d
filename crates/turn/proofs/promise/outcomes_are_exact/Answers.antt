use Rattle.turn.proofs.Exact.{exact}
use Rattle.turn.proofs.promise.outcomes_are_exact.Goals as goal

pub returns : goal.returns
returns g c = λ A law. exact A law
