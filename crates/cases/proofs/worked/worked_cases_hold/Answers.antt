use Rattle.std.proofs.Common.{refl}
use Rattle.cases.proofs.Computing.{all_hold, deciding}
use Rattle.cases.proofs.worked.worked_cases_hold.Goals as goal

pub returns-clause-hold : goal.returns-clause-hold
returns-clause-hold c = all_hold

pub returns-clause-number : goal.returns-clause-number
returns-clause-number c = refl

pub returns-clause-matching : goal.returns-clause-matching
returns-clause-matching c = deciding

pub returns-clause-chord : goal.returns-clause-chord
returns-clause-chord c = deciding

pub returns-clause-boxes : goal.returns-clause-boxes
returns-clause-boxes c = deciding
