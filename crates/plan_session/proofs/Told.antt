-- What the lines tell of a turn: it was agreed as it may be, and has room for 512 legs.
use Rattle.std.proofs.Common.{◌≡◌, inl, inr, ℕ, ◌≤◌, List, [], ◌∷◌, ℤ, pos, negsuc, ◌<ℤ◌, None, Ok, Err, sym, refl, subst, ◌∙◌, arith}
use Rattle.std.proofs.lemmas.Int.{ints}
use Rattle.std.proofs.lemmas.Bool.{cases_lt}
use Rattle.ordinate.specs.Kinds.{Kind, Lawful}
use Rattle.ordinate.specs.Flows.{flow}
use Rattle.ordinate.specs.Boxes.{box}
use Rattle.ordinate.specs.Laws.Kinds.{flow_lawful, box_lawful}
use Rattle.ordinate.specs.declared.flow.Flow.{Flow}
use Rattle.ordinate.specs.declared.branches.Branches.{Branches}
use Rattle.distance.specs.Measures.{LawfulMeasure, Measure}
use Rattle.distance.specs.Flows.{flow_measure}
use Rattle.distance.specs.Boxes.{box_measure}
use Rattle.distance.specs.Laws.Flows.{flow_measured}
use Rattle.distance.specs.Laws.Boxes.{box_measured}
use Rattle.leg.specs.Chains.{Chained, Each}
use Rattle.leg.specs.Legs.{IsLeg}
use Rattle.curve.specs.declared.refusal.CurveRefusal.TheVariants.{Depth}
use Rattle.outlet.specs.Outlets.{Contents}
use Rattle.turn.specs.Calls.{Answer, Call, History, Progress, lay, strike, seal}
use Rattle.turn.specs.Outcomes.{Outcome}
use Rattle.turn.specs.Settings.{LawfulSetting, Setting}
use Rattle.turn.specs.declared.refusal.Refusal.TheVariants.{Curve, End}
use Rattle.turn.proofs.Chain.{chained}
use Rattle.turn.proofs.Legs.{whole_legs}
use Rattle.turn.proofs.Reasons.{none_holds}
use Rattle.planner.specs.Drafts.{begin_reasons}
use Rattle.planner.specs.Runs.{agreed, agreed_number}
use Rattle.plan_text.specs.declared.form.At.{At}
use Rattle.plan_text.specs.declared.form.Kind.{Kind as TypedKind}
use Rattle.plan_text.specs.declared.form.Kind.TheVariants as Kinds
use Rattle.plan_text.specs.declared.form.TurnForm.{TurnForm}
use Rattle.plan_session.specs.Makings.{Judged, Made, fresh, rule_of, terms_of}
use Rattle.plan_session.specs.Promises.{KeepsPromise, Tells}
use Rattle.plan_session.specs.Sessions.{State, flow_turn, box_turn, flow_at, box_at, begun_by, measure_of}
use Rattle.plan_session.proofs.Once.{box_turn_once, flow_turn_once}
use Rattle.plan_session.proofs.Promised.{lawful_setting}

at_most : (z : ℤ) (n : ℕ) → (pos n <ℤ z → ⊥) → agreed_number z ≤ n
at_most (pos m) n h =
    elim (cases_lt n m) [
      | inl more ↦ absurd (h (omega (arith, ints, more)))
      | inr less ↦ less
    ]
at_most (negsuc m) n h = omega arith

capacity_kept : {P : Type 0} (A : Setting P) (call : Call P) (g g' : Progress P) (c c' : Contents P) (a : Answer) → Outcome A call g c a g' c' → c'.capacity ≡ c.capacity
capacity_kept A (lay ps l work) g g' c c' (Ok u) o = λ i. (o.effect.put i).capacity
capacity_kept A (lay ps l work) g g' c c' (Err f) o = λ i. (o.effect.1 i).capacity
capacity_kept A strike g g' c c' (Ok u) o = o.effect.capacity
capacity_kept A strike g g' c c' (Err f) o = λ i. (o.effect.1 i).capacity
capacity_kept A seal g g' c c' a o = λ i. (o.effect.1 i).capacity

-- What holds of a turn that was begun.
pub record Sound {P : Type 0} (K : Kind P) (m : Made P) : Type 0 where
  pub kind : m.setting.kind ≡ K
  pub lawful : LawfulSetting m.setting
  pub depth : m.setting.depth ≤ 10
  pub end : m.setting.end ≤ 65536
  pub room : m.contents.capacity ≡ 512

sound_begun : {P : Type 0} (K : Kind P) (M : Measure) (law : Lawful K) (measured : LawfulMeasure K M) (t : TurnForm) → Judged M t None → Sound K (fresh (agreed K M (rule_of K t.legs) (terms_of t)))
sound_begun K M law measured t j =
    let n = none_holds (begin_reasons M (terms_of t)) j.first in
    record {
      kind = refl;
      lawful = lawful_setting K M law measured t.legs (terms_of t);
      depth = at_most t.depth 10 (λ h. n.1.0 (Curve Depth) (inr h, refl));
      end = at_most t.ticks 65536 (λ h. n.1.1.0 End (inr h, refl));
      room = refl;
    }

flow_begun : (k : TypedKind) (t : TurnForm) (m : Made Flow) → flow_turn m ≡ begun_by k t → Judged (measure_of k) t None → Sound flow m
flow_begun Kinds.Flow t m e j = subst (λ (n : Made Flow). Sound flow n) (sym (flow_turn_once m _ e)) (sound_begun flow flow_measure flow_lawful flow_measured t j)
flow_begun Kinds.Box t m e j = absurd cc

box_begun : (k : TypedKind) (t : TurnForm) (m : Made Branches) → box_turn m ≡ begun_by k t → Judged (measure_of k) t None → Sound box m
box_begun Kinds.Flow t m e j = absurd cc
box_begun Kinds.Box t m e j = subst (λ (n : Made Branches). Sound box n) (sym (box_turn_once m _ e)) (sound_begun box box_measure box_lawful box_measured t j)

module _ {P : Type 0} (K : Kind P) (at : P → At) (wrap : Made P → State) (begun : (k : TypedKind) (t : TurnForm) (m : Made P) → wrap m ≡ begun_by k t → Judged (measure_of k) t None → Sound K m) where
  sound : (lines : List (List ℕ)) (m : Made P) (h : History P) → Tells at wrap lines m h → Sound K m
  sound [] m h t = absurd t
  sound (line ∷ lines) m h (inl x) = begun x.1.form.kind x.1.form m x.1.begun x.1.agreed
  sound (line ∷ lines) m h (inr (inl x)) =
      let s = sound lines x.0 x.1 x.2 in
      let c = x.3.called in
      let same = c.setting in
      record {
        kind = (λ i. (same i).kind) ∙ s.kind;
        lawful = subst (λ (A : Setting P). LawfulSetting A) (sym same) s.lawful;
        depth = subst (λ (A : Setting P). A.depth ≤ 10) (sym same) s.depth;
        end = subst (λ (A : Setting P). A.end ≤ 65536) (sym same) s.end;
        room = capacity_kept x.0.setting x.3.call _ _ _ _ x.3.answer c.outcome ∙ s.room;
      }
  sound (line ∷ lines) m h (inr (inr x)) = sound lines m h x.0

-- ---- a promised turn
pub flow_sound : (lines : List (List ℕ)) (m : Made Flow) → KeepsPromise flow_at flow_turn lines m → Sound flow m
flow_sound lines m k = sound flow flow_at flow_turn flow_begun lines m k.0 k.1

pub box_sound : (lines : List (List ℕ)) (m : Made Branches) → KeepsPromise box_at box_turn lines m → Sound box m
box_sound lines m k = sound box box_at box_turn box_begun lines m k.0 k.1

-- The legs of a promised turn are legs, and form a chain.
module _ {P : Type 0} (K : Kind P) (at : P → At) (wrap : Made P → State) (lines : List (List ℕ)) (m : Made P) (k : KeepsPromise at wrap lines m) (s : Sound K m) where
  pub promised_legs : Each (IsLeg K) m.contents.legs
  promised_legs = subst (λ (J : Kind P). Each (IsLeg J) m.contents.legs) s.kind (whole_legs m.setting s.lawful s.depth s.end k.0 m.progress m.contents k.2)

  pub promised_chain : Chained m.contents.legs
  promised_chain = chained m.setting k.0 m.progress m.contents k.2
