use Rattle.plan_session.proofs.Decided.{lines_decide}
use Rattle.plan_session.proofs.promise.lines_decide.Goals as goal

pub returns : goal.returns
returns c = lines_decide
