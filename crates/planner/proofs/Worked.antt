-- Ninety-nine work points serve as well as more: no curve that is asked for work points wants more.
use Rattle.std.specs.Prelude.{◌≡◌, ℕ, ◌+◌, ◌*◌, ◌<◌, ◌≤◌, ◌⊎◌, List, length, min, ℤ, Err, Ok, Option, refl}
use Rattle.std.proofs.Common.{arith, inl, inr}
use Rattle.std.proofs.Math.Nat.{mul-le-mul}
use Rattle.std.proofs.lemmas.Bool.{cases_lt}
use Rattle.leg.specs.Reasons.{First, because, refusal}
use Rattle.curve.specs.Refusals.{work_wanted}
use Rattle.turn.specs.Calls.{Answer, Call, Progress, lay, seal, strike}
use Rattle.turn.specs.Outcomes.{Effect, Outcome}
use Rattle.turn.specs.Reasons.{Situation, facing, reasons}
use Rattle.turn.specs.Settings.{Setting}
use Rattle.turn.specs.declared.refusal.Refusal.{Refusal}
use Rattle.curve.specs.declared.refusal.CurveRefusal.TheVariants.{PointCount}
use Rattle.turn.specs.declared.refusal.Refusal.TheVariants.{Curve}
use Rattle.outlet.specs.Outlets.{Contents}
use Rattle.planner.specs.Runs.{lent}

wanted : (D n : ℕ) → D ≤ 10 → n ≤ 9 → (D + 1) * n ≤ 99
wanted D n h k = let a : D + 1 ≤ 11 = omega arith in let p : (D + 1) * n ≤ 11 * 9 = mul-le-mul a k in omega arith

module _ {P : Type 0} (A : Setting P) (shallow : A.depth ≤ 10) (ps : List P) (l : ℤ) (n w : ℕ) (same : (n ≡ w) ⊎ ((99 ≤ n) × (99 ≤ w))) where
  alike : (m : ℕ) → m ≤ 99 → n < m → w < m
  alike m h k = elim same [ inl e ↦ omega arith | inr e ↦ absurd (omega arith) ]

  back : (m : ℕ) → m ≤ 99 → w < m → n < m
  back m h k = elim same [ inl e ↦ omega arith | inr e ↦ absurd (omega arith) ]

  few : ((f : Refusal) → because ((length ps < A.rule.lowest + 1) ⊎ (9 < length ps)) (Curve PointCount) f → ⊥) → length ps ≤ 9
  few out = elim (cases_lt 9 (length ps)) [ inl h ↦ absurd (out (Curve PointCount) (inr h, refl)) | inr h ↦ h ]

  first_alike : (now : Situation P) (o : Option Refusal) → First (reasons A now (lay ps l n)) o → First (reasons A now (lay ps l w)) o
  first_alike now o (inl x) = inl x
  first_alike now o (inr (a, inl x)) = inr (a, inl x)
  first_alike now o (inr (a, inr (p, inl x))) = inr (a, inr (p, inl x))
  first_alike now o (inr (a, inr (p, inr (b, inl x)))) = inr (a, inr (p, inr (b, inl x)))
  first_alike now o (inr (a, inr (p, inr (b, inr (d, inl x))))) = inr (a, inr (p, inr (b, inr (d, inl x))))
  first_alike now o (inr (a, inr (p, inr (b, inr (d, inr (e, inl x)))))) = inr (a, inr (p, inr (b, inr (d, inr (e, inl x)))))
  first_alike now o (inr (a, inr (p, inr (b, inr (d, inr (e, inr (f, inl (g, (x, q), r)))))))) = inr (a, inr (p, inr (b, inr (d, inr (e, inr (f, inl (g, (alike (work_wanted A.kind A.measure A.rule A.depth ps) (wanted A.depth (length ps) shallow (few p)) x, q), r)))))))
  first_alike now o (inr (a, inr (p, inr (b, inr (d, inr (e, inr (f, inr (k, t)))))))) = inr (a, inr (p, inr (b, inr (d, inr (e, inr (f, inr (λ g y. k g (back (work_wanted A.kind A.measure A.rule A.depth ps) (wanted A.depth (length ps) shallow (few p)) y.0, y.1), t)))))))

  pub outcome_alike : (g g' : Progress P) (c c' : Contents P) (a : Answer) → Outcome A (lay ps l n) g c a g' c' → Outcome A (lay ps l w) g c a g' c'
  outcome_alike g g' c c' a o = record { answer = first_alike (facing A g c) (refusal a) o.answer; effect = go a o.effect }
    where
      go : (b : Answer) → Effect A (lay ps l n) b g c g' c' → Effect A (lay ps l w) b g c g' c'
      go (Ok tt) e = e
      go (Err f) e = e

-- so a call has the outcome that it has where that many are lent
pub lent_alike : {P : Type 0} (A : Setting P) → A.depth ≤ 10 → (n : ℕ) → 99 ≤ n → (call : Call P) (g g' : Progress P) (c c' : Contents P) (a : Answer)
    → Outcome A (lent n call) g c a g' c' → Outcome A call g c a g' c'
lent_alike A shallow n many (lay ps l w) g g' c c' a o = outcome_alike A shallow ps l (min n w) w alike_or_many g g' c c' a o
  where
    alike_or_many : (min n w ≡ w) ⊎ ((99 ≤ min n w) × (99 ≤ w))
    alike_or_many = elim (cases_lt n w) [ inl h ↦ inr (omega arith, omega arith) | inr h ↦ inl (omega arith) ]
lent_alike A shallow n many strike g g' c c' a o = o
lent_alike A shallow n many seal g g' c c' a o = o
