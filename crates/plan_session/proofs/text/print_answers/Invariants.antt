use Rattle.std.proofs.Common.{◌≡◌, ℕ, List, [], length, vec_items}
use Rattle.plan_text.specs.Lines.{lines_of}
use Rattle.plan_session.specs.Promises.{Promise}
use Rattle.plan_session.specs.Texts.{Printed, newest_first}
use Rattle.plan_session.specs.Views.{view_of}
use Rattle.plan_session.proofs.text.print_answers.Given as goal

abbrev pub invariant-loop-line : goal.invariant-loop-line
invariant-loop-line l =
    (heard : List (List ℕ)) × (newest_first (lines_of l.text) [] ≡ newest_first (lines_of l.rest) heard)
    × Printed heard (view_of l.session) (vec_items l.printed) × Promise heard (view_of l.session).state

abbrev pub decreases-loop-line : goal.decreases-loop-line
decreases-loop-line l = length l.rest
