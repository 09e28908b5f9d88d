use Rattle.std.proofs.Common.{◌≡◌, ◌∙◌, ◌≤◌, Some, ap, arith, drop, inl, inr, length, refl, subst, sym, take}
use Rattle.leg.specs.Chains.{Each}
use Rattle.leg.specs.declared.leg.Leg.{Leg}
use Rattle.outlet.specs.Outlets.{Contents, kept}
use Rattle.turn.specs.Calls.{end_of, last_leg}
use Rattle.turn.specs.declared.refusal.Refusal.TheVariants.{Empty}
use Rattle.turn.proofs.Struck.{strike_taken, strike_torn, struck}
use Rattle.planner.specs.Drafts.{StartsAt, progress, setting}
use Rattle.planner.proofs.Striking.{none_last, none_left, some_off}
use Rattle.planner.proofs.draft.Draft.strike_checked.Goals as goal

pub returns-in_default-clause-outcome : goal.returns-in_default-clause-outcome
returns-in_default-clause-outcome g c =
    let K = g.P.Ordinate.kind in
    let A = setting K g.P.Distance.measure g.R.Reduction.rule c.args.self in
    let o = g.O.Outlet.contents c.args.outlet.now in
    let ours : length o.legs ≡ c.args.self.count = omega (arith, c.count-count.ensures.value) in
    let after = c.last_of.ensures.same ∙ c.count-count.ensures.same in
    let told = c.last_of.ensures.value ∙ ap (λ (x : Contents g.row.P.Denot). last_leg x.legs) c.count-count.ensures.same in
    let empty = none_left o.legs (sym told ∙ c.in_default.is) in
    rw c.refused-in_default.ensures (record { answer = inr ((λ e y. y.0 ours), inl (Empty, (omega arith, refl), refl)); effect = (refl, after) })

pub returns-then-ends-self-clause-outcome : goal.returns-then-ends-self-clause-outcome
returns-then-ends-self-clause-outcome g c =
    let K = g.P.Ordinate.kind in
    let A = setting K g.P.Distance.measure g.R.Reduction.rule c.args.self in
    let o = g.O.Outlet.contents c.args.outlet.now in
    let ours : length o.legs ≡ c.args.self.count = omega (arith, c.count-count.ensures.value) in
    let after = c.last_of.ensures.same ∙ c.count-count.ensures.same in
    let told = c.last_of.ensures.value ∙ ap (λ (x : Contents g.row.P.Denot). last_leg x.legs) c.count-count.ensures.same in
    let l = c.in-Some.last in
    let last : last_leg o.legs ≡ Some l = sym told ∙ c.in-Some.is in
    let some : c.args.self.count ≡ 0 → ⊥ = (λ z. let n = none_last o.legs (omega arith) in cc) in
    rw c.refused-then-ends-self.ensures (record { answer = strike_torn A (progress c.args.self) o ours some l last (inl c.if-ends-self.true); effect = (refl, after) })

pub returns-then-not-is_last_cell-clause-outcome : goal.returns-then-not-is_last_cell-clause-outcome
returns-then-not-is_last_cell-clause-outcome g c =
    let K = g.P.Ordinate.kind in
    let A = setting K g.P.Distance.measure g.R.Reduction.rule c.args.self in
    let o = g.O.Outlet.contents c.args.outlet.now in
    let ours : length o.legs ≡ c.args.self.count = omega (arith, c.count-count.ensures.value) in
    let after = c.last_of.ensures.same ∙ c.count-count.ensures.same in
    let told = c.last_of.ensures.value ∙ ap (λ (x : Contents g.row.P.Denot). last_leg x.legs) c.count-count.ensures.same in
    let l = c.in-Some.last in
    let last : last_leg o.legs ≡ Some l = sym told ∙ c.in-Some.is in
    let some : c.args.self.count ≡ 0 → ⊥ = (λ z. let n = none_last o.legs (omega arith) in cc) in
    rw c.refused-then-not-is_last_cell.ensures (record { answer = strike_torn A (progress c.args.self) o ours some l last (inr (λ e. let no = c.if-not-is_last_cell.ensures.1 e in absurd (cc))); effect = (refl, after) })

pub returns-clause-outcome : goal.returns-clause-outcome
returns-clause-outcome g c =
    let K = g.P.Ordinate.kind in
    let A = setting K g.P.Distance.measure g.R.Reduction.rule c.args.self in
    let o = g.O.Outlet.contents c.args.outlet.now in
    let ours : length o.legs ≡ c.args.self.count = omega (arith, c.count-count.ensures.value) in
    let after = c.last_of.ensures.same ∙ c.count-count.ensures.same in
    let told = c.last_of.ensures.value ∙ ap (λ (x : Contents g.row.P.Denot). last_leg x.legs) c.count-count.ensures.same in
    let l = c.in-Some.last in
    let last : last_leg o.legs ≡ Some l = sym told ∙ c.in-Some.is in
    let some : c.args.self.count ≡ 0 → ⊥ = (λ z. let n = none_last o.legs (omega arith) in cc) in
    let S = l.stretch.from in
    let i = c.before_span-before.result.count in
    let b = c.before_span-before.ensures in
    let fewer : i ≤ length o.legs = omega (arith, b.fewer, c.count-count.ensures.value) in
    let shared = subst (λ (x : Contents g.row.P.Denot). Each (StartsAt S) (drop i x.legs)) after b.shared in
    let all = subst (λ (x : Contents g.row.P.Denot). (k : Leg g.row.P.Denot) → last_leg (take i x.legs) ≡ Some k → StartsAt S k → ⊥) after b.all in
    let end = b.end ∙ ap (λ (x : Contents g.row.P.Denot). end_of (last_leg (take i x.legs))) after in
    let put = c.keep.ensures.keeps ∙ ap (kept i) (b.same ∙ after) in
    record {
      answer = strike_taken A (progress c.args.self) o ours some l last c.if-ends-self.false (c.if-not-is_last_cell.ensures.0 refl);
      effect = struck A o S i _ _ put (some_off o.legs i S l last refl fewer all) shared all refl refl end;
    }
