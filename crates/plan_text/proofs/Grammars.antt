-- Forms, from their marks to their text and back.
use Rattle.std.proofs.Common.{◌≡◌, ◌≢◌, ℕ, Bool, true, false, List, [], ◌∷◌, ◌++◌, map, ℤ, Some, None, Option, sym, refl, ap, ◌∙◌, subst, append_assoc}
use Rattle.std.specs.Option.{option_map}
use Rattle.std.specs.Bool.{then_some}
use Rattle.std.proofs.lemmas.Bool.{false≢true}
use Rattle.plan_text.specs.declared.lexer.Lexer.{Lexer}
use Rattle.plan_text.specs.declared.form.At.{At}
use Rattle.plan_text.specs.declared.form.At.TheVariants.{One, Two}
use Rattle.plan_text.specs.declared.form.TurnForm.{TurnForm}
use Rattle.plan_text.specs.declared.form.SpanForm.{SpanForm}
use Rattle.plan_text.specs.declared.form.Form.TheVariants as InMemory
use Rattle.plan_text.specs.declared.head.Head.{Head}
use Rattle.plan_text.specs.declared.head.Head.TheVariants.{Turn, Span, Strike, Seal}
use Rattle.plan_text.specs.Texts.{spaced}
use Rattle.plan_text.specs.Tokens.{Mark, closing, spelled}
use Rattle.plan_text.specs.Lexing.{left}
use Rattle.plan_text.specs.Forms.{PlanForm, turn, span, strike, seal, form_of, at_text, text_of, IsTyped, Says}
use Rattle.plan_text.specs.Reading.{Spells, ReadsOne, ReadsNone, Completes, Any, head_marks, turn_marks, at_marks, ats_marks, span_marks, span_of, IsTypedTurn, IsTypedSpan}

abbrev pub head_of : PlanForm → Head
head_of (turn t) = Turn
head_of (span ticks points) = Span
head_of strike = Strike
head_of seal = Seal

abbrev pub body_of : PlanForm → List Mark
body_of (turn t) = turn_marks t
body_of (span ticks points) = span_marks (ticks, points)
body_of strike = []
body_of seal = []

abbrev pub marks_of : PlanForm → List Mark
marks_of f = head_marks (head_of f) ++ (body_of f ++ (closing ∷ []))

at_spelled : (p : At) (ms : List Mark) → spelled false (at_marks p ++ ms) ≡ 32 ∷ (at_text p ++ spelled false ms)
at_spelled (One a) ms = simp append_assoc
at_spelled (Two a b) ms = simp append_assoc

ats_spelled : (ps : List At) → spelled false (ats_marks ps ++ (closing ∷ [])) ≡ spaced (map at_text ps) ++ (41 ∷ [])
ats_spelled [] = refl
ats_spelled (p ∷ ps) =
    ap (spelled false) (append_assoc (at_marks p) (ats_marks ps) (closing ∷ [])) ∙ at_spelled p (ats_marks ps ++ (closing ∷ []))
    ∙ ap (λ xs. 32 ∷ (at_text p ++ xs)) (ats_spelled ps) ∙ ap (λ xs. 32 ∷ xs) (sym (append_assoc (at_text p) (spaced (map at_text ps)) (41 ∷ [])))

pub form_spelled : (f : PlanForm) → spelled true (marks_of f) ≡ text_of f
form_spelled (turn t) = simp append_assoc
form_spelled (span ticks points) = rw (ats_spelled points) (simp append_assoc)
form_spelled strike = refl
form_spelled seal = refl

-- ---- the line that a form is read from

module _ (line : List ℕ) (l : Lexer) (first : l.first ≡ true) (whole : left l ≡ line) where
  to_marks : (f : PlanForm) → line ≡ text_of f → Spells l (marks_of f)
  to_marks f e = whole ∙ e ∙ sym (form_spelled f) ∙ ap (λ b. spelled b (marks_of f)) (sym first)

  to_text : (f : PlanForm) → Spells l (marks_of f) → line ≡ text_of f
  to_text f s = sym whole ∙ s ∙ ap (λ b. spelled b (marks_of f)) first ∙ form_spelled f

  pub says_nothing : ReadsNone head_marks Any l → (f : PlanForm) → IsTyped f → line ≢ text_of f
  says_nothing n f g e = n (head_of f) (body_of f ++ (closing ∷ [])) tt (to_marks f e)

  module _ (h : Head) (k : Lexer) (r : ReadsOne head_marks Any l h k) where
    same_head : (f : PlanForm) → line ≡ text_of f → (head_of f ≡ h) × Spells k (body_of f ++ (closing ∷ []))
    same_head f e = r.only (head_of f) (body_of f ++ (closing ∷ [])) tt (to_marks f e)

    from_body : (f : PlanForm) → head_of f ≡ h → Spells k (body_of f ++ (closing ∷ [])) → line ≡ text_of f
    from_body f e s = to_text f (subst (λ g. Spells l (head_marks g ++ (body_of f ++ (closing ∷ [])))) (sym e) (r.back (body_of f ++ (closing ∷ [])) s))

  module _ (k : Lexer) where
    no_turn : ReadsOne head_marks Any l Turn k → ((t : TurnForm) → IsTypedTurn t → Spells k (turn_marks t ++ (closing ∷ [])) → ⊥) → (f : PlanForm) → IsTyped f → line ≢ text_of f
    no_turn r n (turn t) g e = n t g (same_head Turn k r (turn t) e).1
    no_turn r n (span m ps) g e = let same : Span ≡ Turn = (same_head Turn k r (span m ps) e).0 in cc
    no_turn r n strike g e = let same : Strike ≡ Turn = (same_head Turn k r strike e).0 in cc
    no_turn r n seal g e = let same : Seal ≡ Turn = (same_head Turn k r seal e).0 in cc

    pub says_turn : ReadsOne head_marks Any l Turn k → (o : Option TurnForm) → Completes turn_marks IsTypedTurn k o → Says line (option_map turn o)
    says_turn r (Some t) c = (c.0, from_body Turn k r (turn t) refl c.1)
    says_turn r None c = no_turn r c

    no_span : ReadsOne head_marks Any l Span k → ((s : ℤ × List At) → IsTypedSpan s → Spells k (span_marks s ++ (closing ∷ [])) → ⊥) → (f : PlanForm) → IsTyped f → line ≢ text_of f
    no_span r n (turn t) g e = let same : Turn ≡ Span = (same_head Span k r (turn t) e).0 in cc
    no_span r n (span m ps) g e = n (m, ps) g (same_head Span k r (span m ps) e).1
    no_span r n strike g e = let same : Strike ≡ Span = (same_head Span k r strike e).0 in cc
    no_span r n seal g e = let same : Seal ≡ Span = (same_head Span k r seal e).0 in cc

    pub says_span : ReadsOne head_marks Any l Span k → (o : Option (ℤ × List At)) → Completes span_marks IsTypedSpan k o → Says line (option_map (λ s. span s.0 s.1) o)
    says_span r (Some s) c = (c.0, from_body Span k r (span s.0 s.1) refl c.1)
    says_span r None c = no_span r c

    no_strike : ReadsOne head_marks Any l Strike k → (Spells k (closing ∷ []) → ⊥) → (f : PlanForm) → IsTyped f → line ≢ text_of f
    no_strike r n (turn t) g e = let same : Turn ≡ Strike = (same_head Strike k r (turn t) e).0 in cc
    no_strike r n (span m ps) g e = let same : Span ≡ Strike = (same_head Strike k r (span m ps) e).0 in cc
    no_strike r n strike g e = n (same_head Strike k r strike e).1
    no_strike r n seal g e = let same : Seal ≡ Strike = (same_head Strike k r seal e).0 in cc

    pub says_strike : ReadsOne head_marks Any l Strike k → (b : Bool) → (b ≡ true → Spells k (closing ∷ [])) → (Spells k (closing ∷ []) → b ≡ true) → Says line (then_some b strike)
    says_strike r true to fro = (tt, from_body Strike k r strike refl (to refl))
    says_strike r false to fro = no_strike r (λ s. false≢true (fro s))

    no_seal : ReadsOne head_marks Any l Seal k → (Spells k (closing ∷ []) → ⊥) → (f : PlanForm) → IsTyped f → line ≢ text_of f
    no_seal r n (turn t) g e = let same : Turn ≡ Seal = (same_head Seal k r (turn t) e).0 in cc
    no_seal r n (span m ps) g e = let same : Span ≡ Seal = (same_head Seal k r (span m ps) e).0 in cc
    no_seal r n strike g e = let same : Strike ≡ Seal = (same_head Seal k r strike e).0 in cc
    no_seal r n seal g e = n (same_head Seal k r seal e).1

    pub says_seal : ReadsOne head_marks Any l Seal k → (b : Bool) → (b ≡ true → Spells k (closing ∷ [])) → (Spells k (closing ∷ []) → b ≡ true) → Says line (then_some b seal)
    says_seal r true to fro = (tt, from_body Seal k r seal refl (to refl))
    says_seal r false to fro = no_seal r (λ s. false≢true (fro s))

-- ---- forms in memory

pub turn_in_memory : (o : Option TurnForm) → option_map form_of (option_map InMemory.Turn o) ≡ option_map turn o
turn_in_memory (Some t) = refl
turn_in_memory None = refl

pub span_in_memory : (o : Option SpanForm) → option_map form_of (option_map InMemory.Span o) ≡ option_map (λ s. span s.0 s.1) (option_map span_of o)
span_in_memory (Some s) = refl
span_in_memory None = refl

pub strike_in_memory : (b : Bool) → option_map form_of (then_some b InMemory.Strike) ≡ then_some b strike
strike_in_memory true = refl
strike_in_memory false = refl

pub seal_in_memory : (b : Bool) → option_map form_of (then_some b InMemory.Seal) ≡ then_some b seal
seal_in_memory true = refl
seal_in_memory false = refl
