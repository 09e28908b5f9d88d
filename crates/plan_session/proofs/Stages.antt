-- What a session holds in memory, where the promise holds of it.
use Rattle.std.proofs.Common.{◌≡◌, inl, inr, ℕ, zero, suc, ◌<◌, ◌≤◌, ◌⊎◌, Bool, true, false, List, [], ◌∷◌, length, slice_index_or, Some, None, Option, Ok, Err, Result, IfOk, refl, arith}
use Rattle.std.proofs.lemmas.Bool.{cases_lt}
use Rattle.ordinate.specs.Kinds.{Kind}
use Rattle.ordinate.specs.Flows.{flow}
use Rattle.ordinate.specs.Boxes.{box}
use Rattle.distance.specs.Measures.{Measure}
use Rattle.distance.specs.Flows.{flow_measure}
use Rattle.distance.specs.Boxes.{box_measure}
use Rattle.leg.specs.Chains.{Chained, Each}
use Rattle.leg.specs.Legs.{IsLeg}
use Rattle.leg.specs.declared.leg.Leg.{Leg}
use Rattle.plan_text.specs.declared.form.At.{At}
use Rattle.plan_text.specs.declared.refusal.TextRefusal.{TextRefusal}
use Rattle.plan_session.specs.Listing.{NoSuchLeg, ShowsLeg, legs_in}
use Rattle.plan_session.specs.Makings.{LegShown, Made, any_made}
use Rattle.plan_session.specs.Promises.{Promise}
use Rattle.plan_session.specs.Sessions.{State, waiting, flow_turn, box_turn, flow_at, box_at, state_of}
use Rattle.plan_session.specs.declared.any_making.AnyMaking.{AnyMaking}
use Rattle.plan_session.specs.declared.any_making.AnyMaking.TheVariants.{Chord, Matching}
use Rattle.plan_session.specs.declared.stage.Stage.{Stage}
use Rattle.plan_session.specs.declared.stage.Stage.TheVariants as Stages
use Rattle.plan_session.proofs.Told.{box_sound, flow_sound, promised_chain, promised_legs}

pub ok_map : {A E : Type 0} {Q R : A → Type 0} (r : Result A E) → ((x : A) → Q x → R x) → IfOk r Q → IfOk r R
ok_map (Ok x) f q = f x q
ok_map (Err e) f q = tt

within : {P : Type 0} (K : Kind P) (M : Measure) (m : AnyMaking P) → length (any_made K M m).contents.legs ≤ (any_made K M m).contents.capacity
within K M (Chord m) = omega arith
within K M (Matching m) = omega arith

-- Its legs are at most 512, are legs, and form a chain.
pub record Ready {P : Type 0} (K : Kind P) (m : Made P) : Type 0 where
  pub few : length m.contents.legs ≤ 512
  pub legs : Each (IsLeg K) m.contents.legs
  pub chained : Chained m.contents.legs

abbrev pub StageReady : State → Type 0
StageReady waiting = Unit {0}
StageReady (flow_turn m) = Ready flow m
StageReady (box_turn m) = Ready box m

pub stage_ready : (t : Stage) (lines : List (List ℕ)) → Promise lines (state_of t) → StageReady (state_of t)
stage_ready Stages.Waiting lines k = tt
stage_ready (Stages.Flow m) lines k =
    let n = any_made flow flow_measure m in
    let s = flow_sound lines n k in
    let w = within flow flow_measure m in
    let r = s.room in
    record { few = omega arith; legs = promised_legs flow flow_at flow_turn lines n k s; chained = promised_chain flow flow_at flow_turn lines n k s }
stage_ready (Stages.Box m) lines k =
    let n = any_made box box_measure m in
    let s = box_sound lines n k in
    let w = within box box_measure m in
    let r = s.room in
    record { few = omega arith; legs = promised_legs box box_at box_turn lines n k s; chained = promised_chain box box_at box_turn lines n k s }

pub state_few : (s : State) → StageReady s → legs_in s ≤ 512
state_few waiting r = omega arith
state_few (flow_turn m) r = r.few
state_few (box_turn m) r = r.few

-- ---- each leg is printed
leg_at : {P : Type 0} (K : Kind P) (ls : List (Leg P)) (i : ℕ) → i < length ls → Each (IsLeg K) ls → (l : Leg P) × (l ≡ slice_index_or ls i l) × IsLeg K l
leg_at K [] i h e = absurd (omega arith)
leg_at K (x ∷ ls) zero h e = (x, refl, e.0)
leg_at K (x ∷ ls) (suc i) h e = leg_at K ls i (omega arith) e.1

module _ {P : Type 0} (K : Kind P) (at : P → At) (wrap : Made P → State) where
  none_there : (m : Made P) (i : ℕ) (old new : List ℕ) → Ready K m → LegShown K at m i old (Ok None) new → (m.sealed ≡ false) ⊎ (length m.contents.legs ≤ i)
  none_there m i old new r x = go m.sealed refl
    where
      go : (b : Bool) → m.sealed ≡ b → (m.sealed ≡ false) ⊎ (length m.contents.legs ≤ i)
      go false e = inl e
      go true e =
          elim (cases_lt i (length m.contents.legs)) [
            | inl h ↦ let l = leg_at K m.contents.legs i h r.legs in absurd (x.2 l.0 e h l.1 l.2)
            | inr h ↦ inr h
          ]

shown_there : (s : State) (i : ℕ) (old new : List ℕ) (printed : Option ℕ) → StageReady s → ShowsLeg s i old (Ok printed) new → NoSuchLeg s i printed
shown_there s i old new (Some n) r x = tt
shown_there waiting i old new None r x = inl refl
shown_there (flow_turn m) i old new None r x = none_there flow flow_at flow_turn m i old new r x
shown_there (box_turn m) i old new None r x = none_there box box_at box_turn m i old new r x

pub leg_there : (t : Stage) (i : ℕ) (old new : List ℕ) (r : Result (Option ℕ) TextRefusal) → ShowsLeg (state_of t) i old r new
    → IfOk r (λ printed. (lines : List (List ℕ)) → Promise lines (state_of t) → NoSuchLeg (state_of t) i printed)
leg_there t i old new (Ok printed) x = λ lines k. shown_there (state_of t) i old new printed (stage_ready t lines k) x
leg_there t i old new (Err f) x = tt
