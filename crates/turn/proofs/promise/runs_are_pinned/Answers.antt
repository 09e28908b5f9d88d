use Rattle.turn.proofs.Pinned.{pinned}
use Rattle.turn.proofs.promise.runs_are_pinned.Goals as goal

pub returns : goal.returns
returns g c = λ A. pinned A
