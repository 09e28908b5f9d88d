use Rattle.turn.proofs.Kept.{stays_whole}
use Rattle.turn.proofs.promise.every_run_is_whole.Goals as goal

pub returns : goal.returns
returns g c = λ A law. stays_whole A law
