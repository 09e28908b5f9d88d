use Rattle.std.proofs.Common.{ℕ, ◌^◌, ◌≤◌, ℤ, ap, ◌∙◌, arith, w64}
use mathlib.Core.Path.{fun_ext}
use lib.Signed.{shr_z}
use Rattle.std.proofs.lemmas.Int.{int_wrap_fits}
use Rattle.distance.proofs.Coordinates.{write_all}
use Rattle.bezier.specs.Bernstein.{degree_of}
use Rattle.bezier.specs.Reductions.{matched_sum}
use Rattle.bezier.proofs.Fits.{matched_sum_fits}
use Rattle.bezier.proofs.Weights.{word}
use Rattle.bezier.proofs.matching.MatchingReduction.middle.Goals as goal

pub returns : goal.returns
returns g c few many inside =
    let K = g.P.Ordinate.kind in
    let law = g.met.P.Ordinate.lawful in
    let ps = c.args.points.now in
    let all : K.dimension ≤ c.loop-i.i = omega arith in
    let f = λ (i : ℕ). shr_z (word (matched_sum K ps i)) (2 ^ degree_of K ps) in
    let exact = λ (i : ℕ). ap (λ (z : ℤ). shr_z z (2 ^ degree_of K ps)) (int_wrap_fits w64 (matched_sum K ps i) (matched_sum_fits K law g.P.Distance.measure.limit ps g.met.P.Distance.lawful.limit_high (omega arith) many inside i)) in
    write_all K law c.loop-i.middle c.loop-i.i f all c.loop-i.invariant ∙ ap K.made (fun_ext exact)
