use Rattle.turn.proofs.Chain.{chained}
use Rattle.turn.proofs.Legs.{whole_legs}
use Rattle.turn.proofs.promise.whole_turns_are_playable.Goals as goal

pub returns : goal.returns
returns g c = λ A law. record { legs = whole_legs A law; chained = chained A }
