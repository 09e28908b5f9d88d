use Rattle.std.proofs.Common.{◌≡◌, ◌≤◌, length, vec_capacity, vec_items}
use Rattle.turn.specs.Calls.{calls_of}
use Rattle.planner.proofs.Going.{Going}
use Rattle.planner.proofs.run.perform_all.Given as goal

abbrev pub invariant-loop-call : goal.invariant-loop-call
invariant-loop-call g l = record {
  going :
      Going g.P.Ordinate.kind g.P.Distance.measure g.R.Reduction.rule l.initial.draft (calls_of l.calls) (g.O.Outlet.contents l.initial.outlet)
      (vec_items l.answers) l.draft (g.O.Outlet.contents l.outlet);
  number : length (vec_items l.answers) ≡ l.call-index;
  enough : length l.calls ≤ vec_capacity l.answers;
}
