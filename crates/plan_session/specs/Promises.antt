-- The promise, over the lines that a session has heard. The newest line stands first.
use Rattle.std.specs.Prelude.{◌≡◌, ◌⊎◌, ℕ, false, true, List, [], ◌∷◌, map, Some, None}
use Rattle.turn.specs.Calls.{Answer, Call, lay, strike, seal, History}
use Rattle.turn.specs.Whole.{Whole}
use Rattle.turn.specs.declared.refusal.Refusal.{Refusal}
use Rattle.plan_text.specs.Forms.{PlanForm, Says}
use Rattle.plan_text.specs.Forms.PlanForm.{turn as turn_form, span as span_form, strike as strike_form, seal as seal_form}
use Rattle.plan_text.specs.declared.form.At.{At}
use Rattle.plan_text.specs.declared.form.TurnForm.{TurnForm}
use Rattle.plan_session.specs.Makings.{Called, Judged, Made}
use Rattle.plan_session.specs.Sessions.{State, waiting, flow_turn, box_turn, flow_at, box_at, begun_by, measure_of}

-- No line so far was a turn that is accepted.
abbrev pub NoTurn : List (List ℕ) → Type 0
NoTurn [] = Unit {0}
NoTurn (line ∷ lines) = NoTurn lines × ((t : TurnForm) → Says line (Some (turn_form t)) → (f : Refusal) × Judged (measure_of t.kind) t (Some f))

module _ {P : Type 0} (at : P → At) (wrap : Made P → State) where
  -- The call that a form stands for; a turn stands for none.
  abbrev pub StandsFor : PlanForm → Call P → Type 0
  StandsFor (turn_form t) call = ⊥
  StandsFor (span_form l ats) call = (ps : List P) × (map at ps ≡ ats) × (call ≡ lay ps l 99)
  StandsFor strike_form call = call ≡ strike
  StandsFor seal_form call = call ≡ seal

  abbrev pub SaysCall : List ℕ → Call P → Type 0
  SaysCall line call = (f : PlanForm) × Says line (Some f) × StandsFor f call

  -- The line begins the turn.
  pub record BeginsTurn (line : List ℕ) (m : Made P) (h : History P) : Type 0 where
    pub form : TurnForm
    pub says : Says line (Some (turn_form form))
    pub agreed : Judged (measure_of form.kind) form None
    pub begun : wrap m ≡ begun_by form.kind form
    pub none : h ≡ []

  -- The line makes the call that it says: the turn was m and its history h before, and is m' and h' now.
  pub record MakesCall (line : List ℕ) (m : Made P) (h : History P) (m' : Made P) (h' : History P) : Type 0 where
    pub call : Call P
    pub answer : Answer
    pub open_turn : m.sealed ≡ false
    pub says : SaysCall line call
    pub called : Called m call answer m'
    pub more : h' ≡ (call, answer) ∷ h

  -- After these lines the turn is m, and h is its history: the calls that the lines said since the turn, and their answers. A line makes no call where it says none, and where the turn is sealed.
  abbrev pub Tells : List (List ℕ) → Made P → History P → Type 0
  Tells [] m h = ⊥
  Tells (line ∷ lines) m' h' =
      (NoTurn lines × BeginsTurn line m' h')
      ⊎ ((m : Made P) × (h : History P) × Tells lines m h × MakesCall line m h m' h')
      ⊎ (Tells lines m' h' × ((m'.sealed ≡ true) ⊎ ((call : Call P) → SaysCall line call → ⊥)))

  -- The promise holds of that history.
  abbrev pub KeepsPromise : List (List ℕ) → Made P → Type 0
  KeepsPromise lines m = (h : History P) × Tells lines m h × Whole m.setting h m.progress m.contents

-- What holds of a session after these lines.
abbrev pub Promise : List (List ℕ) → State → Type 0
Promise lines waiting = NoTurn lines
Promise lines (flow_turn m) = KeepsPromise flow_at flow_turn lines m
Promise lines (box_turn m) = KeepsPromise box_at box_turn lines m
