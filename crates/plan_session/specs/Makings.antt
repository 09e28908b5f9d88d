-- A turn that is being made by the forms of a plan text.
use Rattle.std.specs.Prelude.{◌≡◌, ◌≢◌, ℕ, ◌<◌, ◌≤◌, ◌⊎◌, Bool, true, false, List, [], map, length, Some, None, Option, Ok, Err, Result, slice_index_or}
use Rattle.ordinate.specs.Kinds.{Kind}
use Rattle.distance.specs.Measures.{Measure}
use Rattle.bezier.specs.Reductions.{Rule, chord, matching}
use Rattle.leg.specs.Legs.{IsLeg}
use Rattle.leg.specs.Reasons.{First}
use Rattle.leg.specs.declared.leg.Leg.{Leg}
use Rattle.outlet.specs.Outlets.{Contents, held}
use Rattle.turn.specs.Calls.{Answer, Call, lay, strike, seal, Progress, begun}
use Rattle.turn.specs.Outcomes.{Outcome}
use Rattle.turn.specs.Settings.{Setting}
use Rattle.turn.specs.declared.refusal.Refusal.{Refusal}
use Rattle.planner.specs.Drafts.{begin_reasons}
use Rattle.planner.specs.Runs.{agreed, turn_progress}
use Rattle.planner.specs.declared.begin.Terms.{Terms}
use Rattle.planner.specs.declared.run.Turn.{Turn}
use Rattle.planner.specs.declared.run.Turn.TheVariants.{Draft as StillDraft, Sealed as NowSealed}
use Rattle.plan_text.specs.Forms.{PlanForm}
use Rattle.plan_text.specs.Forms.PlanForm.{turn as turn_form, span as span_form, strike as strike_form, seal as seal_form}
use Rattle.plan_text.specs.Printing.{PrintsLeg, RefusesShort}
use Rattle.plan_text.specs.declared.form.At.{At}
use Rattle.plan_text.specs.declared.form.Legs.{Legs}
use Rattle.plan_text.specs.declared.form.Legs.TheVariants as Typed
use Rattle.plan_text.specs.declared.form.TurnForm.{TurnForm}
use Rattle.plan_text.specs.declared.refusal.TextRefusal.{TextRefusal}
use Rattle.plan_session.specs.Replies.{no_form, out_of_place}
use Rattle.plan_session.specs.declared.any_making.AnyMaking.{AnyMaking}
use Rattle.plan_session.specs.declared.any_making.AnyMaking.TheVariants.{Chord, Matching}
use Rattle.plan_session.specs.declared.making.BeginError.{BeginError}
use Rattle.plan_session.specs.declared.making.BeginError.TheVariants.{NoMemory}
use Rattle.plan_session.specs.declared.making.BeginError.TheVariants.{Refused as TermsRefused}
use Rattle.plan_session.specs.declared.making.Making.{Making}
use Rattle.plan_session.specs.declared.reply.LineRefusal.TheVariants.{Call as ByCall}
use Rattle.plan_session.specs.declared.reply.Reply.{Reply}
use Rattle.plan_session.specs.declared.reply.Reply.TheVariants.{Silent, Refused, Sealed}

-- The terms that a turn is typed with.
abbrev pub terms_of : TurnForm → Terms
terms_of t = record { tolerance = t.within; depth = t.depth; end = t.ticks }

-- The first reason that holds of the terms refuses the turn; where none does it is not refused.
pub record Judged (M : Measure) (t : TurnForm) (f : Option Refusal) : Type 0 where
  pub first : First (begin_reasons M (terms_of t)) f

abbrev pub rule_of : {P : Type 0} → Kind P → Legs → Rule P
rule_of K Typed.Chord = chord K
rule_of K Typed.Matching = matching K

-- A turn in the making: what is agreed for it, how far it has come, what its table holds, and whether it is sealed.
pub record Made (P : Type 0) : Type 0 where
  pub setting : Setting P
  pub progress : Progress P
  pub contents : Contents P
  pub sealed : Bool

module _ {P : Type 0} where
  -- Just begun, with room for 512 legs.
  abbrev pub fresh : Setting P → Made P
  fresh A = record { setting = A; progress = begun; contents = record { legs = []; capacity = 512 }; sealed = false }

  -- An accepted seal seals it.
  abbrev pub seals : Call P → Answer → Bool
  seals (lay ps l work) a = false
  seals strike a = false
  seals seal (Ok _) = true
  seals seal (Err f) = false

  -- What a line is answered whose call is answered so, where the turn has so many legs and this last tick.
  abbrev pub reply_to : ℕ → ℕ → Call P → Answer → Reply
  reply_to legs end call (Err f) = Refused (ByCall f)
  reply_to legs end (lay ps l work) (Ok _) = Silent
  reply_to legs end strike (Ok _) = Silent
  reply_to legs end seal (Ok _) = Sealed legs end

  -- The call was made, and answered so: it had its outcome, and what is agreed stays.
  pub record Called (m : Made P) (call : Call P) (a : Answer) (m' : Made P) : Type 0 where
    pub outcome : Outcome m.setting call m.progress m.contents a m'.progress m'.contents
    pub setting : m'.setting ≡ m.setting
    pub sealed : m'.sealed ≡ seals call a

  abbrev pub Calls : Made P → Call P → Reply → Made P → Type 0
  Calls m call r m' = (a : Answer) × Called m call a m' × (r ≡ reply_to (length m.contents.legs) m.setting.end call a)

  -- A form that is answered so before any call, and changes nothing.
  abbrev pub Refuses : Reply → Made P → Reply → Made P → Type 0
  Refuses f m r m' = (r ≡ f) × (m' ≡ m)

  -- A call where the turn is not sealed; else it is out of place.
  abbrev pub AnswersOpen : Made P → Call P → Reply → Made P → Type 0
  AnswersOpen m call r m' = ((m.sealed ≡ true) × Refuses out_of_place m r m') ⊎ ((m.sealed ≡ false) × Calls m call r m')

module _ {P : Type 0} (at : P → At) where
  -- How a form is answered while the turn is being made. A span's points are those that are typed so, and it may use 99 work points; where one is unlike the kind there are none.
  abbrev pub InPlace : Made P → PlanForm → Reply → Made P → Type 0
  InPlace m (turn_form t) r m' = Refuses out_of_place m r m'
  InPlace m (span_form l ats) r m' =
      (((ps : List P) → map at ps ≢ ats) × Refuses no_form m r m')
      ⊎ ((ps : List P) × (map at ps ≡ ats) × Calls m (lay ps l 99) r m')
  InPlace m strike_form r m' = Calls m strike r m'
  InPlace m seal_form r m' = Calls m seal r m'

  -- After the accepted seal every form is out of place.
  abbrev pub Answers : Made P → PlanForm → Reply → Made P → Type 0
  Answers m f r m' = ((m.sealed ≡ true) × Refuses out_of_place m r m') ⊎ ((m.sealed ≡ false) × InPlace m f r m')

-- ---- in memory

abbrev pub is_sealed : {P R : Type 0} → Turn P R → Bool
is_sealed (StillDraft d) = false
is_sealed (NowSealed s) = true

abbrev pub made : {P R : Type 0} → Kind P → Measure → Rule P → Making P R → Made P
made K M R m = record { setting = agreed K M R m.terms; progress = turn_progress m.turn; contents = held m.table.records; sealed = is_sealed m.turn }

abbrev pub any_made : {P : Type 0} → Kind P → Measure → AnyMaking P → Made P
any_made K M (Chord m) = made K M (chord K) m
any_made K M (Matching m) = made K M (matching K) m

-- Why the terms of a turn were refused, if they were.
abbrev pub begin_refusal : {A : Type 0} → Result A BeginError → Option Refusal
begin_refusal (Ok m) = None
begin_refusal (Err (TermsRefused f)) = Some f
begin_refusal (Err (NoMemory e)) = None

-- ---- listing

module _ {P : Type 0} (K : Kind P) (at : P → At) where
  -- Leg i of a sealed turn is printed; where there is none, nothing is.
  abbrev pub LegShown : Made P → ℕ → List ℕ → Result (Option ℕ) TextRefusal → List ℕ → Type 0
  LegShown m i old (Ok (Some n)) new =
      (m.sealed ≡ true) × (i < length m.contents.legs) × ((l : Leg P) × (l ≡ slice_index_or m.contents.legs i l) × PrintsLeg K at l old (Ok (Some n)) new)
  LegShown m i old (Ok None) new =
      (160 ≤ length old) × (new ≡ old)
      × ((l : Leg P) → m.sealed ≡ true → i < length m.contents.legs → l ≡ slice_index_or m.contents.legs i l → IsLeg K l → ⊥)
  LegShown m i old (Err f) new = RefusesShort old f new
