use Rattle.std.proofs.Common.{◌-◌, ◌*◌, ℤ, pos, ◌+ℤ◌, ◌*ℤ◌, sym, ap, ◌∙◌, subst, ap₂, arith, w64, SFits, to_z, of_z, rules}
use Rattle.std.proofs.lemmas.Int.{to_z-of_z}
use Rattle.leg.specs.Values.{floor}
use Rattle.leg.proofs.Weights.{Reached, reached_fits, three_sum, three_fits}
use Rattle.leg.proofs.value.Leg+Flow.parabola_at.Goals as goal

pub weighted-requires-3-clause-range : goal.weighted-requires-3-clause-range
weighted-requires-3-clause-range c =
    let reached = c.requires.leg.end_in 0 (omega arith) in
    subst Reached (sym (to_z-of_z w64 _ (reached_fits _ reached))) reached

pub overflow_add-sum-2 : goal.overflow_add-sum-2
overflow_add-sum-2 c =
    let x = c.weighted.ensures.bound in
    let y = c.weighted-2.ensures.bound in
    let z = c.weighted-3.ensures.bound in
    rw (three_sum c.weighted.result c.weighted-2.result c.weighted-3.result x y z) (three_fits c.weighted.result c.weighted-2.result c.weighted-3.result x y z)

pub returns : goal.returns
returns c =
    let l = c.args.self.now in
    let s = c.args.moment.0 in
    let v = c.args.moment.1 in
    let x = c.weighted.ensures.bound in
    let y = c.weighted-2.ensures.bound in
    let z = c.weighted-3.ensures.bound in
    let a = c.weighted.result in
    let b = c.weighted-2.result in
    let d = c.weighted-3.result in
    let fp = reached_fits l.start.value (c.requires.leg.start_in 0 (omega arith)) in
    let fq = reached_fits l.middle.value (c.requires.leg.middle_in 0 (omega arith)) in
    let fz = reached_fits l.end.value (c.requires.leg.end_in 0 (omega arith)) in
    let fr : SFits w64 c.rounded_down.result = search rules in
    let ea = c.weighted.ensures.value ∙ ap (λ (t : ℤ). pos ((v - s) * (v - s)) *ℤ t) (to_z-of_z w64 l.start.value fp) in
    let eb = c.weighted-2.ensures.value ∙ ap (λ (t : ℤ). pos (2 * s * (v - s)) *ℤ t) (to_z-of_z w64 l.middle.value fq) in
    let ed = c.weighted-3.ensures.value ∙ ap (λ (t : ℤ). pos (s * s) *ℤ t) (to_z-of_z w64 l.end.value fz) in
    let sum = ap (λ (t : ℤ). to_z w64 (of_z w64 t)) (three_sum a b d x y z) ∙ to_z-of_z w64 (a +ℤ b +ℤ d) (three_fits a b d x y z) in
    to_z-of_z w64 _ fr ∙ c.rounded_down.ensures ∙ ap (λ (t : ℤ). floor t (v * v)) (sum ∙ ap₂ (λ (t u : ℤ). t +ℤ u) (ap₂ (λ (t u : ℤ). t +ℤ u) ea eb) ed)
