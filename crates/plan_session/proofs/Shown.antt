-- Legs that are shown.
use Rattle.std.proofs.Common.{◌≡◌, ℕ, ◌<◌, true, List, length, slice_index_or, Some, None, Option, Ok, Err, Result, sym, subst, ◌∙◌}
use Rattle.std.proofs.lemmas.List.{get_or_default}
use Rattle.ordinate.specs.Kinds.{Kind}
use Rattle.leg.specs.Legs.{IsLeg}
use Rattle.leg.specs.declared.leg.Leg.{Leg}
use Rattle.plan_text.specs.Printing.{PrintsLeg}
use Rattle.plan_text.specs.declared.form.At.{At}
use Rattle.plan_text.specs.declared.refusal.TextRefusal.{TextRefusal}
use Rattle.plan_session.specs.Makings.{LegShown, Made}

pub shown : {P : Type 0} (K : Kind P) (at : P → At) (m : Made P) (i : ℕ) (l : Leg P) (old new : List ℕ) (r : Result (Option ℕ) TextRefusal)
    → m.sealed ≡ true → i < length m.contents.legs → l ≡ slice_index_or m.contents.legs i l → PrintsLeg K at l old r new → LegShown K at m i old r new
shown K at m i l old new (Ok (Some n)) s h e p = (s, h, (l, e, p))
shown K at m i l old new (Ok None) s h e p =
    (p.1, p.2, λ x s' h' e' is. p.0 (subst (IsLeg K) (e' ∙ get_or_default m.contents.legs i x l h ∙ sym e) is))
shown K at m i l old new (Err f) s h e p = p
