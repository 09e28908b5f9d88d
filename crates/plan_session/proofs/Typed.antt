-- Forms and what they are answered.
use Rattle.std.proofs.Common.{◌≡◌, inl, inr, ℕ, zero, suc, ◌<◌, List, [], ◌∷◌, map, length, slice_index_or, ℤ, Option, sym, refl, ap, subst, subst₂, ◌∙◌, arith}
use Rattle.distance.specs.Measures.{Measure}
use Rattle.leg.specs.Reasons.{First}
use Rattle.turn.specs.Calls.Call.{lay}
use Rattle.turn.specs.declared.refusal.Refusal.{Refusal}
use Rattle.planner.specs.Drafts.{begin_reasons}
use Rattle.planner.specs.declared.begin.Terms.{Terms}
use Rattle.plan_text.specs.Forms.PlanForm.{span}
use Rattle.plan_text.specs.declared.form.At.{At}
use Rattle.plan_text.specs.declared.form.TurnForm.{TurnForm}
use Rattle.plan_session.specs.Makings.{Answers, AnswersOpen, Judged, Made, terms_of}
use Rattle.plan_session.specs.declared.reply.Reply.{Reply}

-- Where one item is typed for nothing, the list is.
pub none_typed : {X Y : Type 0} (f : X → Y) (ys : List Y) (i : ℕ) (d : Y) → i < length ys → ((x : X) → f x ≡ slice_index_or ys i d → ⊥) → (xs : List X) → map f xs ≡ ys → ⊥
none_typed {X} {Y} f ys i d h n xs e = at xs i (subst (λ (zs : List Y). i < length zs) (sym e) h) (λ x q. n x (q ∙ ap (λ (zs : List Y). slice_index_or zs i d) e))
  where
    at : (xs : List X) (i : ℕ) → i < length (map f xs) → ((x : X) → f x ≡ slice_index_or (map f xs) i d → ⊥) → ⊥
    at [] i h n = omega arith
    at (x ∷ xs) zero h n = n x refl
    at (x ∷ xs) (suc i) h n = at xs i (omega arith) n

pub span_answers : {P : Type 0} (at : P → At) (m m' : Made P) (l : ℤ) (ats : List At) (ps : List P) (r : Reply) → map at ps ≡ ats → AnswersOpen m (lay ps l 99) r m' → Answers at m (span l ats) r m'
span_answers at m m' l ats ps r e (inl p) = inl p
span_answers at m m' l ats ps r e (inr p) = inr (p.0, inr (ps, e, p.1))

pub judged : (M : Measure) (t : TurnForm) (terms : Terms) (f g : Option Refusal) → First (begin_reasons M terms) f → terms ≡ terms_of t → g ≡ f → Judged M t g
judged M t terms f g h a e = record { first = subst₂ (λ x y. First (begin_reasons M x) y) a (sym e) h }
