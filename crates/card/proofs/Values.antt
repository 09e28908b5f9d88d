-- Why a flow card tells a value at a tick, or does not.
use Rattle.std.proofs.Common.{◌≡◌, ℕ, List, [], ◌∷◌, ◌++◌, Some, None, Option, MatchOption, Result, IfOk, sym, refl, subst, inl, inr}
use Rattle.std.specs.List.{FoldsTo}
use Rattle.std.specs.Option.{ok_or}
use Rattle.std.proofs.lemmas.Fn.{chained_keeps}
use Rattle.std.proofs.lemmas.Option.{none-some}
use Rattle.ordinate.specs.Flows.{flow}
use Rattle.ordinate.specs.declared.flow.Flow.{Flow}
use Rattle.ordinate.specs.Laws.Kinds.{flow_lawful}
use Rattle.leg.specs.Values.{FirstTells, Past, Tells}
use Rattle.leg.specs.declared.leg.Leg.{Leg}
use Rattle.leg.proofs.Reasoned.{first_later}
use Rattle.leg.proofs.Told.{first_push_told, first_push_untold}
use Rattle.leg.proofs.Seams.{untold_past, told_not_past}
use Rattle.leg.specs.Reasons.{Reason, because, First, refusal}
use Rattle.card.specs.Cards.{Carries, reasons}
use Rattle.card.specs.Answers.{value_reasons}
use Rattle.card.specs.declared.refusal.Refusal.{Refusal}
use Rattle.card.specs.declared.refusal.Refusal.TheVariants.{PastLastLeg}
use Rattle.card.proofs.Carried.{carried_one}

-- What is told once a leg more is read: the same where a value was told before, and else what the leg tells.
abbrev pub ToldNext : ℕ → Option Flow → Leg Flow → Option Flow → Type 0
ToldNext a before l after = MatchOption before (MatchOption after ((v : Flow) → Tells l a v → ⊥) (λ v. Tells l a v)) (λ v. after ≡ Some v)

told_more : (a : ℕ) (ls : List (Leg Flow)) (before : Option Flow) (l : Leg Flow) (after : Option Flow) → FirstTells ls a before → ToldNext a before l after → FirstTells (ls ++ (l ∷ [])) a after
told_more a ls None l after f t = first_push_untold a ls l None after refl t f
told_more a ls (Some v) l after f t = rw t (first_push_told a ls l (Some v) (λ e. none-some v (sym e)) f)

pub told_first : (a : ℕ) (R : Option Flow → Leg Flow → Option Flow → Type 0) → ((before : Option Flow) (l : Leg Flow) (after : Option Flow) → R before l after → ToldNext a before l after)
    → (ls : List (Leg Flow)) (told : Option Flow) → FoldsTo R None ls told → FirstTells ls a told
told_first a R next ls told f = chained_keeps R (λ ls told. FirstTells ls a told) (λ ls before l after f r. told_more a ls before l after f (next before l after r)) ls None told refl f

module _ (xs : List ℕ) (a : ℕ) where
  abbrev PastEnd : Type 0
  PastEnd = (ls : List (Leg Flow)) × Carries flow xs ls × Past ls a

  abbrev past_reasons : List (Reason Refusal)
  past_reasons = because PastEnd PastLastLeg ∷ []

  module _ (accepted : First (reasons flow xs) None) (ls : List (Leg Flow)) (h : Carries flow xs ls) where
    pub value_past : FirstTells ls a None → First (value_reasons xs a) (Some PastLastLeg)
    value_past t = first_later (reasons flow xs) past_reasons _ accepted (inl (PastLastLeg, ((ls, h, untold_past a ls h.legs h.chained t), refl), refl))

    pub value_told : (v : Flow) → FirstTells ls a (Some v) → First (value_reasons xs a) None
    value_told v t =
        first_later (reasons flow xs) past_reasons _ accepted
        (inr (λ f x. told_not_past a ls v h.chained t (subst (λ (ms : List (Leg Flow)). Past ms a) (carried_one flow xs flow_lawful x.0.0 ls x.0.1 h) x.0.2), refl))

    -- what an accepted card answers
    pub value_answer : (told : Option Flow) → FirstTells ls a told → (r : Result Flow Refusal) → r ≡ ok_or told PastLastLeg → First (value_reasons xs a) (refusal r)
    value_answer None t r e = rw e (value_past t)
    value_answer (Some v) t r e = rw e (value_told v t)

    pub value_given : (told : Option Flow) → FirstTells ls a told → (r : Result Flow Refusal) → r ≡ ok_or told PastLastLeg → IfOk r (λ v. (ms : List (Leg Flow)) × Carries flow xs ms × FirstTells ms a (Some v))
    value_given None t r e = rw e tt
    value_given (Some v) t r e = rw e (ls, h, t)
