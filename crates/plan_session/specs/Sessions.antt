-- What a session answers, and what becomes of it.
use Rattle.std.specs.Prelude.{◌≡◌, ℕ, List, Some, None, Option}
use Rattle.ordinate.specs.Flows.{flow}
use Rattle.ordinate.specs.Boxes.{box}
use Rattle.ordinate.specs.declared.flow.Flow.{Flow}
use Rattle.ordinate.specs.declared.branches.Branches.{Branches}
use Rattle.distance.specs.Measures.{Measure}
use Rattle.distance.specs.Flows.{flow_measure}
use Rattle.distance.specs.Boxes.{box_measure}
use Rattle.turn.specs.declared.refusal.Refusal.{Refusal}
use Rattle.planner.specs.Runs.{agreed}
use Rattle.plan_text.specs.Forms.{PlanForm, Says}
use Rattle.plan_text.specs.Forms.PlanForm.{turn, span, strike, seal}
use Rattle.plan_text.specs.declared.form.At.{At}
use Rattle.plan_text.specs.declared.form.At.TheVariants.{One, Two}
use Rattle.plan_text.specs.declared.form.Kind.{Kind as TypedKind}
use Rattle.plan_text.specs.declared.form.Kind.TheVariants as Kinds
use Rattle.plan_text.specs.declared.form.TurnForm.{TurnForm}
use Rattle.plan_session.specs.Makings.{Answers, Judged, Made, any_made, fresh, rule_of, terms_of}
use Rattle.plan_session.specs.Replies.{no_form, out_of_place}
use Rattle.plan_session.specs.declared.reply.LineRefusal.TheVariants.{Call}
use Rattle.plan_session.specs.declared.reply.Reply.{Reply}
use Rattle.plan_session.specs.declared.reply.Reply.TheVariants.{Silent, Refused}
use Rattle.plan_session.specs.declared.stage.Stage.{Stage}
use Rattle.plan_session.specs.declared.stage.Stage.TheVariants as Stages

-- No turn has been accepted yet; or one is made, in points of flow or of a box.
pub data State : Type 0 where
  waiting : State
  flow_turn : Made Flow → State
  box_turn : Made Branches → State

-- How points are typed.
abbrev pub flow_at : Flow → At
flow_at p = One p.value

abbrev pub box_at : Branches → At
box_at p = Two p.left p.right

abbrev pub measure_of : TypedKind → Measure
measure_of Kinds.Flow = flow_measure
measure_of Kinds.Box = box_measure

-- The turn that this form begins.
abbrev pub begun_by : TypedKind → TurnForm → State
begun_by Kinds.Flow t = flow_turn (fresh (agreed flow flow_measure (rule_of flow t.legs) (terms_of t)))
begun_by Kinds.Box t = box_turn (fresh (agreed box box_measure (rule_of box t.legs) (terms_of t)))

abbrev pub BeginsFor : Option Refusal → TurnForm → Reply → State → Type 0
BeginsFor None t r s' = (r ≡ Silent) × (s' ≡ begun_by t.kind t)
BeginsFor (Some f) t r s' = (r ≡ Refused (Call f)) × (s' ≡ waiting)

-- A turn that is not refused is begun.
abbrev pub Begins : TurnForm → Reply → State → Type 0
Begins t r s' = (f : Option Refusal) × Judged (measure_of t.kind) t f × BeginsFor f t r s'

-- Before the turn, only a turn is in its place.
abbrev pub FirstHears : PlanForm → Reply → State → Type 0
FirstHears (turn t) r s' = Begins t r s'
FirstHears (span l ats) r s' = (r ≡ out_of_place) × (s' ≡ waiting)
FirstHears strike r s' = (r ≡ out_of_place) × (s' ≡ waiting)
FirstHears seal r s' = (r ≡ out_of_place) × (s' ≡ waiting)

abbrev pub HearsForm : State → PlanForm → Reply → State → Type 0
HearsForm waiting f r s' = FirstHears f r s'
HearsForm (flow_turn m) f r s' = (m' : Made Flow) × Answers flow_at m f r m' × (s' ≡ flow_turn m')
HearsForm (box_turn m) f r s' = (m' : Made Branches) × Answers box_at m f r m' × (s' ≡ box_turn m')

-- A line that is no form is refused first of all, and changes nothing.
abbrev pub Hears : State → Option PlanForm → Reply → State → Type 0
Hears s None r s' = (r ≡ no_form) × (s' ≡ s)
Hears s (Some f) r s' = HearsForm s f r s'

-- The line says a form, or none, and that is answered so.
abbrev pub SaysAndHears : State → List ℕ → Reply → State → Type 0
SaysAndHears s line r s' = (f : Option PlanForm) × Says line f × Hears s f r s'

-- ---- in memory

abbrev pub state_of : Stage → State
state_of Stages.Waiting = waiting
state_of (Stages.Flow m) = flow_turn (any_made flow flow_measure m)
state_of (Stages.Box m) = box_turn (any_made box box_measure m)
