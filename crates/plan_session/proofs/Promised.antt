-- Every line keeps the promise.
use Rattle.std.proofs.Common.{◌≡◌, ◌⊎◌, inl, inr, ℕ, false, true, List, [], ◌∷◌, Some, None, Option, sym, refl, ap, subst}
use Rattle.ordinate.specs.Kinds.{Kind, Lawful}
use Rattle.ordinate.specs.Flows.{flow}
use Rattle.ordinate.specs.Boxes.{box}
use Rattle.ordinate.specs.Laws.Kinds.{flow_lawful, box_lawful}
use Rattle.distance.specs.Measures.{LawfulMeasure, Measure}
use Rattle.distance.specs.Flows.{flow_measure}
use Rattle.distance.specs.Boxes.{box_measure}
use Rattle.distance.specs.Laws.Flows.{flow_measured}
use Rattle.distance.specs.Laws.Boxes.{box_measured}
use Rattle.bezier.specs.Reductions.{LawfulReduction}
use Rattle.bezier.specs.Laws.Reductions.{chord_lawful, matching_lawful}
use Rattle.turn.specs.Calls.{Call, lay, strike, seal}
use Rattle.turn.specs.Settings.{LawfulSetting, Setting}
use Rattle.turn.specs.Whole.{Whole}
use Rattle.turn.specs.declared.refusal.Refusal.{Refusal}
use Rattle.turn.proofs.Kept.{at_first, kept}
use Rattle.planner.specs.Runs.{agreed}
use Rattle.planner.specs.declared.begin.Terms.{Terms}
use Rattle.plan_text.specs.Forms.{PlanForm, Says}
use Rattle.plan_text.specs.Forms.PlanForm.{turn as turn_form, span as span_form, strike as strike_form, seal as seal_form}
use Rattle.plan_text.specs.declared.form.At.{At}
use Rattle.plan_text.specs.declared.form.Kind.{Kind as TypedKind}
use Rattle.plan_text.specs.declared.form.Kind.TheVariants as Kinds
use Rattle.plan_text.specs.declared.form.Legs.{Legs}
use Rattle.plan_text.specs.declared.form.Legs.TheVariants.{Chord, Matching}
use Rattle.plan_text.specs.declared.form.TurnForm.{TurnForm}
use Rattle.plan_session.specs.Makings.{Answers, Calls, InPlace, Judged, Made, any_made, fresh, rule_of, terms_of}
use Rattle.plan_session.specs.Promises.{KeepsPromise, NoTurn, Promise, SaysCall, StandsFor}
use Rattle.plan_session.specs.Sessions.{BeginsFor, FirstHears, Hears, HearsForm, State, waiting, flow_turn, box_turn, flow_at, box_at, begun_by, measure_of, state_of}
use Rattle.plan_session.proofs.Once.{same_form}
use Rattle.plan_session.specs.declared.any_making.AnyMaking.{AnyMaking}
use Rattle.plan_session.specs.declared.any_making.AnyMaking.TheVariants as Any
use Rattle.plan_session.specs.declared.reply.Reply.{Reply}
use Rattle.plan_session.specs.declared.stage.Stage.{Stage}
use Rattle.plan_session.specs.declared.stage.Stage.TheVariants as Stages

module _ {P : Type 0} (at : P → At) (wrap : Made P → State) where
  module _ (line : List ℕ) (lines : List (List ℕ)) where
    -- Nothing changes where no call is made.
    stays : (m m' : Made P) → m' ≡ m → KeepsPromise at wrap lines m → ((m.sealed ≡ true) ⊎ ((call : Call P) → SaysCall at wrap line call → ⊥)) → KeepsPromise at wrap (line ∷ lines) m'
    stays m m' e k n = subst (λ (x : Made P). KeepsPromise at wrap (line ∷ lines) x) (sym e) (k.0, inr (inr (k.1, n)), k.2)

    makes : (m m' : Made P) (call : Call P) (r : Reply) → LawfulSetting m.setting → m.sealed ≡ false → SaysCall at wrap line call → Calls m call r m' → KeepsPromise at wrap lines m → KeepsPromise at wrap (line ∷ lines) m'
    makes m m' call r law open_turn says c k = (
      (call, c.0) ∷ k.0,
      inr (inl (m, k.0, k.1, record { call = call; answer = c.0; open_turn = open_turn; says = says; called = c.1; more = refl })),
      subst (λ (S : Setting P). Whole S ((call, c.0) ∷ k.0) m'.progress m'.contents) (sym c.1.setting) (kept m.setting law k.0 call c.0 _ _ _ _ k.2 c.1.outcome),
    )

    says_only : (f : PlanForm) → Says line (Some f) → ((call : Call P) → StandsFor at wrap f call → ⊥) → (call : Call P) → SaysCall at wrap line call → ⊥
    says_only f s n call sc = n call (subst (λ (x : PlanForm). StandsFor at wrap x call) (same_form line sc.0 f sc.1 s) sc.2)

    in_place : (m m' : Made P) (f : PlanForm) (r : Reply) → LawfulSetting m.setting → m.sealed ≡ false → Says line (Some f) → InPlace at m f r m' → KeepsPromise at wrap lines m → KeepsPromise at wrap (line ∷ lines) m'
    in_place m m' (turn_form t) r law o s a k = stays m m' a.1 k (inr (says_only (turn_form t) s (λ call b. b)))
    in_place m m' (span_form l ats) r law o s (inl a) k = stays m m' a.1.1 k (inr (says_only (span_form l ats) s (λ call b. a.0 b.0 b.1)))
    in_place m m' (span_form l ats) r law o s (inr a) k = makes m m' (lay a.0 l 99) r law o (span_form l ats, s, (a.0, a.1, refl)) a.2 k
    in_place m m' strike_form r law o s a k = makes m m' strike r law o (strike_form, s, refl) a k
    in_place m m' seal_form r law o s a k = makes m m' seal r law o (seal_form, s, refl) a k

    answers : (m m' : Made P) (f : PlanForm) (r : Reply) → LawfulSetting m.setting → Says line (Some f) → Answers at m f r m' → KeepsPromise at wrap lines m → KeepsPromise at wrap (line ∷ lines) m'
    answers m m' f r law s (inl a) k = stays m m' a.1.1 k (inl a.0)
    answers m m' f r law s (inr a) k = in_place m m' f r law a.0 s a.1 k

    -- The line begins the turn.
    begins : (A : Setting P) (t : TurnForm) → LawfulSetting A → wrap (fresh A) ≡ begun_by t.kind t → Says line (Some (turn_form t)) → Judged (measure_of t.kind) t None → NoTurn lines → KeepsPromise at wrap (line ∷ lines) (fresh A)
    begins A t law e s a n = ([], inl (n, record { form = t; says = s; agreed = a; begun = e; none = refl }), at_first A law _ refl)

-- ---- before the turn

module _ {P : Type 0} (K : Kind P) (M : Measure) (lawful : Lawful K) (measured : LawfulMeasure K M) where
  lawful_rule : (g : Legs) → LawfulReduction K M (rule_of K g)
  lawful_rule Chord = chord_lawful K M
  lawful_rule Matching = matching_lawful K M lawful

  pub lawful_setting : (g : Legs) (terms : Terms) → LawfulSetting (agreed K M (rule_of K g) terms)
  lawful_setting g terms = record { kind = lawful; measure = measured; rule = lawful_rule g }

  lawful_any : (m : AnyMaking P) → LawfulSetting (any_made K M m).setting
  lawful_any (Any.Chord m) = lawful_setting Chord m.terms
  lawful_any (Any.Matching m) = lawful_setting Matching m.terms

module _ (line : List ℕ) (lines : List (List ℕ)) where
  begun_promise : (k : TypedKind) (t : TurnForm) → t.kind ≡ k → Says line (Some (turn_form t)) → Judged (measure_of t.kind) t None → NoTurn lines → Promise (line ∷ lines) (begun_by k t)
  begun_promise Kinds.Flow t e s a n = begins flow_at flow_turn line lines _ t (lawful_setting flow flow_measure flow_lawful flow_measured t.legs (terms_of t)) (ap (λ (k : TypedKind). begun_by k t) (sym e)) s a n
  begun_promise Kinds.Box t e s a n = begins box_at box_turn line lines _ t (lawful_setting box box_measure box_lawful box_measured t.legs (terms_of t)) (ap (λ (k : TypedKind). begun_by k t) (sym e)) s a n

  IsTurn : PlanForm → Type 0
  IsTurn (turn_form t) = Unit {0}
  IsTurn (span_form l ats) = ⊥
  IsTurn strike_form = ⊥
  IsTurn seal_form = ⊥

  no_more : (s' : State) (f : PlanForm) → Says line (Some f) → (IsTurn f → ⊥) → s' ≡ waiting → NoTurn lines → Promise (line ∷ lines) s'
  unfolding IsTurn
  no_more s' f s n e k =
      subst (Promise (line ∷ lines)) (sym e) (k, λ t st. absurd (n (subst IsTurn (same_form line (turn_form t) f st s) tt)))

  begins_for : (s' : State) (t : TurnForm) (r : Reply) (f : Option Refusal) → Says line (Some (turn_form t)) → Judged (measure_of t.kind) t f → BeginsFor f t r s' → NoTurn lines → Promise (line ∷ lines) s'
  begins_for s' t r None s h b n = subst (Promise (line ∷ lines)) (sym b.1) (begun_promise t.kind t refl s h n)
  begins_for s' t r (Some f) s h b n =
      subst (Promise (line ∷ lines)) (sym b.1)
      (n, λ u su. (f, subst IsRefused (same_form line (turn_form t) (turn_form u) s su) h))
    where
      IsRefused : PlanForm → Type 0
      IsRefused (turn_form u) = Judged (measure_of u.kind) u (Some f)
      IsRefused (span_form l ats) = ⊥
      IsRefused strike_form = ⊥
      IsRefused seal_form = ⊥

  first_hears : (s' : State) (f : PlanForm) (r : Reply) → Says line (Some f) → FirstHears f r s' → NoTurn lines → Promise (line ∷ lines) s'
  unfolding IsTurn
  first_hears s' (turn_form t) r s b n = begins_for s' t r b.0 s b.1 b.2 n
  first_hears s' (span_form l ats) r s b n = no_more s' (span_form l ats) s (λ x. x) b.1 n
  first_hears s' strike_form r s b n = no_more s' strike_form s (λ x. x) b.1 n
  first_hears s' seal_form r s b n = no_more s' seal_form s (λ x. x) b.1 n

  abbrev LawfulState : State → Type 0
  LawfulState waiting = Unit {0}
  LawfulState (flow_turn m) = LawfulSetting m.setting
  LawfulState (box_turn m) = LawfulSetting m.setting

  hears_form : (s s' : State) (f : PlanForm) (r : Reply) → LawfulState s → Says line (Some f) → HearsForm s f r s' → Promise lines s → Promise (line ∷ lines) s'
  hears_form waiting s' f r law says a k = first_hears s' f r says a k
  hears_form (flow_turn m) s' f r law says a k = subst (Promise (line ∷ lines)) (sym a.2) (answers flow_at flow_turn line lines m a.0 f r law says a.1 k)
  hears_form (box_turn m) s' f r law says a k = subst (Promise (line ∷ lines)) (sym a.2) (answers box_at box_turn line lines m a.0 f r law says a.1 k)

  no_form : (s : State) → Says line None → Promise lines s → Promise (line ∷ lines) s
  no_form waiting n k = (k, λ t st. absurd (n (turn_form t) st.0 st.1))
  no_form (flow_turn m) n k = stays flow_at flow_turn line lines m m refl k (inr (λ call sc. n sc.0 sc.1.0 sc.1.1))
  no_form (box_turn m) n k = stays box_at box_turn line lines m m refl k (inr (λ call sc. n sc.0 sc.1.0 sc.1.1))

  hears : (s s' : State) (o : Option PlanForm) (r : Reply) → LawfulState s → Says line o → Hears s o r s' → Promise lines s → Promise (line ∷ lines) s'
  hears s s' None r law says a k = subst (Promise (line ∷ lines)) (sym a.1) (no_form s says k)
  hears s s' (Some f) r law says a k = hears_form s s' f r law says a k

  lawful_stage : (t : Stage) → LawfulState (state_of t)
  lawful_stage Stages.Waiting = tt
  lawful_stage (Stages.Flow m) = lawful_any flow flow_measure flow_lawful flow_measured m
  lawful_stage (Stages.Box m) = lawful_any box box_measure box_lawful box_measured m

  pub stage_hears : (t : Stage) (s' : State) (o : Option PlanForm) (r : Reply) → Says line o → Hears (state_of t) o r s' → Promise lines (state_of t) → Promise (line ∷ lines) s'
  stage_hears t s' o r says a k = hears (state_of t) s' o r (lawful_stage t) says a k
