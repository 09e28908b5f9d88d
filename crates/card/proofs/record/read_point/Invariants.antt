use Rattle.std.proofs.Common.{◌≡◌, ℕ, ◌+◌, ◌*◌, ◌<◌, take, drop}
use Rattle.ordinate.specs.Octets.{coordinate_of}
use Rattle.card.proofs.record.read_point.Given as goal

abbrev pub invariant-loop-i : goal.invariant-loop-i
invariant-loop-i g l = (j : ℕ) → j < l.i → g.P.Ordinate.kind.coordinate l.p j ≡ coordinate_of (take 8 (drop (l.at + 8 * j) l.fn.octets))
