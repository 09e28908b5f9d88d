use Rattle.std.proofs.Common.{◌-◌, ℤ, pos, ◌+ℤ◌, ◌*ℤ◌, ap, ◌∙◌, ap₂, arith, w64, SFits, rules}
use Rattle.std.proofs.lemmas.Int.{to_z-of_z}
use Rattle.leg.specs.Values.{floor}
use Rattle.leg.proofs.Weights.{reached_fits, two_sum}
use Rattle.leg.proofs.value.Leg+Flow.line_at.Goals as goal

pub returns : goal.returns
returns c =
    let l = c.args.self.now in
    let s = c.args.moment.0 in
    let v = c.args.moment.1 in
    let fp = reached_fits l.start.value (c.requires.leg.start_in 0 (omega arith)) in
    let fz = reached_fits l.end.value (c.requires.leg.end_in 0 (omega arith)) in
    let fr : SFits w64 c.rounded_down.result = search rules in
    let a = c.weighted.ensures.value ∙ ap (λ (x : ℤ). pos (v - s) *ℤ x) (to_z-of_z w64 l.start.value fp) in
    let b = c.weighted-2.ensures.value ∙ ap (λ (x : ℤ). pos s *ℤ x) (to_z-of_z w64 l.end.value fz) in
    let sum = two_sum c.weighted.result c.weighted-2.result c.weighted.ensures.bound c.weighted-2.ensures.bound in
    to_z-of_z w64 _ fr ∙ c.rounded_down.ensures ∙ ap (λ (x : ℤ). floor x v) (sum ∙ ap₂ (λ (x y : ℤ). x +ℤ y) a b)
