-- What a whole text is answered.
use Rattle.std.specs.Prelude.{◌≡◌, ℕ, ◌<◌, ◌≤◌, ◌⊎◌, List, [], ◌∷◌, ◌++◌, length, None, vec_items}
use Rattle.leg.specs.declared.leg.Leg.{Leg}
use Rattle.plan_text.specs.Lines.{lines_of}
use Rattle.plan_text.specs.Printing.{leg_line, refused_line}
use Rattle.plan_text.specs.declared.form.At.{At}
use Rattle.plan_session.specs.Cards.{GivesReadCard}
use Rattle.plan_session.specs.Promises.{Promise}
use Rattle.plan_session.specs.Replies.{reply_text}
use Rattle.plan_session.specs.Sessions.{State, waiting, flow_turn, box_turn, flow_at, box_at}
use Rattle.plan_session.specs.Views.{Heard, View, new_view, next_number}
use Rattle.plan_session.specs.declared.reply.Reply.{Reply}
use Rattle.plan_session.specs.declared.reply.Reply.TheVariants.{Silent, Refused, Sealed}
use Rattle.plan_session.specs.declared.text.Planned.{Planned}

-- a line for each leg
abbrev pub leg_lines : {P : Type 0} → (P → At) → List (Leg P) → List ℕ
leg_lines at [] = []
leg_lines at (l ∷ ls) = leg_line at l ++ leg_lines at ls

abbrev pub legs_text : State → List ℕ
legs_text waiting = []
legs_text (flow_turn m) = leg_lines flow_at m.contents.legs
legs_text (box_turn m) = leg_lines box_at m.contents.legs

-- An accepted seal has the legs printed before its own line.
abbrev pub legs_before : Reply → State → List ℕ
legs_before Silent s = []
legs_before (Refused f) s = []
legs_before (Sealed legs ticks) s = legs_text s

-- The line is heard, and what is printed for it is added to what was printed before.
pub record Adds (line : List ℕ) (v : View) (before : List ℕ) (v' : View) (out : List ℕ) : Type 0 where
  pub reply : Reply
  pub heard : Heard v line reply v'
  pub more : out ≡ before ++ (legs_before reply v'.state ++ reply_text (next_number v.heard) reply)

-- A session that heard these lines, the newest of which stands first, is v now, and all that was printed is out.
abbrev pub Printed : List (List ℕ) → View → List ℕ → Type 0
Printed [] v out = (v ≡ new_view) × (out ≡ [])
Printed (line ∷ lines) v' out = (v : View) × (before : List ℕ) × Printed lines v before × Adds line v before v' out

-- The lines put before others one by one, so that the last of them comes to stand first.
abbrev pub newest_first : List (List ℕ) → List (List ℕ) → List (List ℕ)
newest_first [] others = others
newest_first (line ∷ lines) others = newest_first lines (line ∷ others)

-- A text that is read: all its lines are heard and answered, in order; the promise holds of the turn that they make; and the card is that of the turn.
pub record Reads (text : List ℕ) (a : Planned) : Type 0 where
  pub view : View
  pub printed : Printed (newest_first (lines_of text) []) view (vec_items a.printed)
  pub promise : Promise (newest_first (lines_of text) []) view.state
  pub card : GivesReadCard view a.card

-- A longer text is refused as a whole.
abbrev pub AnswersText : List ℕ → Planned → Type 0
AnswersText text a =
    ((length text ≤ 16384) × Reads text a)
    ⊎ ((16384 < length text) × (vec_items a.printed ≡ refused_line 43 0) × (a.card ≡ None))
