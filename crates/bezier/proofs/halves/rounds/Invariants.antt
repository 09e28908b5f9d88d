use Rattle.std.proofs.Common.{◌≡◌, ℕ, ◌+◌, ◌-◌, ◌<◌, ◌≤◌, min, get_or}
use Rattle.distance.specs.Measures.{halfway}
use Rattle.bezier.proofs.Rounds.{rounded}
use Rattle.bezier.proofs.halves.rounds.Given as goal

abbrev pub invariant-loop-k : goal.invariant-loop-k
invariant-loop-k g l =
    ((i : ℕ) (d : g.row.P.Denot) → i ≤ l.n → get_or l.work i d ≡ rounded (halfway g.P.Ordinate.kind) (min l.k (l.n - i)) (λ x. get_or l.initial.work x d) i)
    × ((j : ℕ) (d : g.row.P.Denot) → j < l.k → get_or l.work (l.n + 1 + j) d ≡ rounded (halfway g.P.Ordinate.kind) j (λ x. get_or l.initial.work x d) 0)
    × ((j : ℕ) (d : g.row.P.Denot) → l.n + 1 + l.n < j → get_or l.work j d ≡ get_or l.initial.work j d)
