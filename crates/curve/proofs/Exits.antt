-- A refusal that is handed on.
use Rattle.std.proofs.Common.{List, ◌++◌, Some, Result, ◌≡◌}
use Rattle.std.specs.Result.{IsErrAnd}
use Rattle.std.proofs.lemmas.Result.{err_from_is_err_and}
use Rattle.leg.specs.Reasons.{First, Reason, refusal}
use Rattle.leg.proofs.Reasoned.{first_now}

-- A refusal by the first reasons is one by all.
pub handed_on : {A E : Type 0} (rs qs : List (Reason E)) (f : E) (r : Result A E) → IsErrAnd r (λ e. e ≡ f) → First rs (Some f) → First (rs ++ qs) (refusal r)
handed_on rs qs f r h k = let p = err_from_is_err_and r h in rw (p.1, p.2) (first_now rs qs f k)
