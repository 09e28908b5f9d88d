-- The worked cases, proved at once by computing, and what their tests decide.
use Rattle.std.specs.Prelude.{IsTrue, refl}
use Rattle.std.specs.List.{list_all}
use Rattle.distance.specs.Vectors.{◌·◌}
use Rattle.cases.specs.Cases.{Deciding, holds, worked}
use Rattle.cases.proofs.Answering.{answering}
use Rattle.cases.proofs.Same.{drawing, legs, point}
use Rattle.cases.proofs.Telling.{telling, telling_nothing}

pub all_hold : IsTrue (list_all holds worked)
unfolding ◌·◌
all_hold = refl

pub deciding : {P R : Type 0} → Deciding P R
deciding =
    record {
      answering = answering;
      same_legs = λ A law. legs A.kind law;
      same_point = λ A law. point A.kind law;
      drawing = drawing;
      telling = λ A. telling A.kind;
      telling_nothing = λ A. telling_nothing A.kind;
    }
