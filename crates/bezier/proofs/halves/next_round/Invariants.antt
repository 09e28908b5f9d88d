use Rattle.std.proofs.Common.{◌≡◌, ℕ, ◌+◌, ◌<◌, ◌≤◌, get_or}
use Rattle.distance.specs.Measures.{halfway}
use Rattle.bezier.proofs.halves.next_round.Given as goal

abbrev pub invariant-loop-i : goal.invariant-loop-i
invariant-loop-i g l =
    ((k : ℕ) (d : g.row.P.Denot) → k < l.i → get_or l.work k d ≡ halfway g.P.Ordinate.kind (get_or l.initial.work k d) (get_or l.initial.work (k + 1) d))
    × ((k : ℕ) (d : g.row.P.Denot) → l.i ≤ k → get_or l.work k d ≡ get_or l.initial.work k d)
