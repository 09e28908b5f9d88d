use Rattle.std.proofs.Common.{◌^◌, w64}
use lib.Signed.{shr_z}
use Rattle.std.specs.Int.{int_wrap}
use Rattle.distance.proofs.Coordinates.{Written}
use Rattle.bezier.specs.Bernstein.{degree_of}
use Rattle.bezier.specs.Reductions.{matched_sum}
use Rattle.bezier.proofs.matching.MatchingReduction.middle.Given as goal

abbrev pub invariant-loop-i : goal.invariant-loop-i
invariant-loop-i g l =
    Written g.P.Ordinate.kind g.met.P.Ordinate.lawful l.middle l.i
    (λ i. shr_z (int_wrap w64 (matched_sum g.P.Ordinate.kind l.points i)) (2 ^ degree_of g.P.Ordinate.kind l.points))
