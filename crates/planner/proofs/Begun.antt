-- Beginning: the reasons that speak of the accuracy are the first of those of beginning.
use Rattle.std.specs.Prelude.{◌≡◌, pos, ◌<ℤ◌, ◌⊎◌, [], ◌∷◌, Err, IsErrAnd, None, Ok, Option, Result, Some, refl}
use Rattle.std.proofs.Common.{◌∙◌, ap, inl, inr}
use Rattle.std.proofs.lemmas.Option.{same_Some}
use Rattle.leg.specs.Reasons.{First, because}
use Rattle.distance.specs.Measures.{Measure}
use Rattle.curve.specs.Refusals.{accuracy_reasons}
use Rattle.curve.specs.declared.refusal.CurveRefusal.{CurveRefusal}
use Rattle.curve.specs.declared.refusal.CurveRefusal.TheVariants.{Tolerance, Depth}
use Rattle.turn.specs.declared.refusal.Refusal.{Refusal}
use Rattle.turn.specs.declared.refusal.Refusal.TheVariants.{Curve, End}
use Rattle.planner.specs.Drafts.{begin_reasons}
use Rattle.planner.specs.declared.begin.Terms.{Terms}

pub begin_later : (M : Measure) (terms : Terms) (a : Option Refusal) → First (accuracy_reasons M terms.tolerance terms.depth) None
    → First (because ((terms.end <ℤ pos 1) ⊎ (pos 65536 <ℤ terms.end)) End ∷ []) a → First (begin_reasons M terms) a
begin_later M terms a (inl h) k = absurd (let e = h.2 in cc)
begin_later M terms a (inr (n, inl h)) k = absurd (let e = h.2 in cc)
begin_later M terms a (inr (n, inr (m, e))) k = inr ((λ f q. n Tolerance (q.0, refl)), inr ((λ f q. m Depth (q.0, refl)), k))

pub begin_now : (M : Measure) (terms : Terms) (f : CurveRefusal) → First (accuracy_reasons M terms.tolerance terms.depth) (Some f) → First (begin_reasons M terms) (Some (Curve f))
begin_now M terms f (inl h) = inl (Curve f, (h.1.0, ap Curve (same_Some f h.0 h.2 ∙ h.1.1)), refl)
begin_now M terms f (inr (n, inl h)) = inr ((λ g q. n Tolerance (q.0, refl)), inl (Curve f, (h.1.0, ap Curve (same_Some f h.0 h.2 ∙ h.1.1)), refl))
begin_now M terms f (inr (n, inr (m, e))) = absurd (cc)

-- a conversion by `?` gives what `From` gives
pub converted : {A : Type 0} (r : Result A Refusal) (f : CurveRefusal) → IsErrAnd r (λ e. e ≡ Curve f) → r ≡ Err (Curve f)
converted (Ok x) f h = absurd h
converted (Err e) f h = ap Err h
