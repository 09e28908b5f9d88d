use Rattle.std.proofs.Common.{◌∙◌, FitsSigned, None, Some, ℤ, pos, ap, arith, inl, inr, refl, rules, subst, subst₂, sym, w64}
use Rattle.std.proofs.lemmas.Int.{ints, to_z-of_z}
use Rattle.leg.specs.Reasons.{First, refusal}
use Rattle.curve.specs.Refusals.{accuracy_reasons}
use Rattle.turn.specs.declared.refusal.Refusal.TheVariants.{End}
use Rattle.planner.specs.Drafts.{begin_reasons}
use Rattle.planner.proofs.Begun.{begin_later, begin_now, converted}
use Rattle.planner.proofs.Ranges.{outside, within}
use Rattle.planner.proofs.begin.begin.Goals as goal

pub returns-then-not-contains-clause-first : goal.returns-then-not-contains-clause-first
returns-then-not-contains-clause-first g c =
    let M = g.P.Distance.measure in
    let t : FitsSigned w64 c.args.terms.tolerance = search rules in
    let d : FitsSigned w64 c.args.terms.depth = search rules in
    let fine : First (accuracy_reasons M c.args.terms.tolerance c.args.terms.depth) None =
    subst₂ (λ (x y : ℤ). First (accuracy_reasons M x y) None) (to_z-of_z w64 _ t) (to_z-of_z w64 _ d) c.in_ok-accuracy.ensures.first in
    let r = rw (c.new.ensures.exhausted, c.new.ensures.start, c.new.ensures.end) at (sym c.contains.ensures.value ∙ c.if-not-contains.true) in
    begin_later M c.args.terms _ fine (inl (End, (outside (pos 1) (pos 65536) c.args.terms.end r, refl), refl))

pub returns-clause-first : goal.returns-clause-first
returns-clause-first g c =
    let M = g.P.Distance.measure in
    let t : FitsSigned w64 c.args.terms.tolerance = search rules in
    let d : FitsSigned w64 c.args.terms.depth = search rules in
    let fine : First (accuracy_reasons M c.args.terms.tolerance c.args.terms.depth) None =
    subst₂ (λ (x y : ℤ). First (accuracy_reasons M x y) None) (to_z-of_z w64 _ t) (to_z-of_z w64 _ d) c.in_ok-accuracy.ensures.first in
    let r = rw (c.new.ensures.exhausted, c.new.ensures.start, c.new.ensures.end) at (sym c.contains.ensures.value ∙ c.if-not-contains.false) in
    let i = within (pos 1) (pos 65536) c.args.terms.end r in
    begin_later M c.args.terms _ fine (inr ((λ f q. elim q.0 [ inl h ↦ omega (arith, ints, i.0) | inr h ↦ omega (arith, ints, i.1) ]), refl))

pub returns-in_err-accuracy-clause-first : goal.returns-in_err-accuracy-clause-first
returns-in_err-accuracy-clause-first g c =
    let M = g.P.Distance.measure in
    let f = c.in_err-accuracy.field-0.0 in
    let t : FitsSigned w64 c.args.terms.tolerance = search rules in
    let d : FitsSigned w64 c.args.terms.depth = search rules in
    let why : First (accuracy_reasons M c.args.terms.tolerance c.args.terms.depth) (Some f) =
    subst₂ (λ (x y : ℤ). First (accuracy_reasons M x y) (Some f)) (to_z-of_z w64 _ t) (to_z-of_z w64 _ d) c.in_err-accuracy.ensures.first in
    subst (First (begin_reasons M c.args.terms)) (sym (ap refusal (converted c.from_residual.result f c.from_residual.ensures.1))) (begin_now M c.args.terms f why)
