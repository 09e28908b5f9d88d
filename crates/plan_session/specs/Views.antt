-- A session, line by line.
use Rattle.std.specs.Prelude.{◌≡◌, ℕ, ◌+◌, min, Bool, false, ◌||◌, List, Ok, Err, Result}
use Rattle.plan_text.specs.Printing.{Prints, RefusesShort}
use Rattle.plan_text.specs.declared.refusal.TextRefusal.{TextRefusal}
use Rattle.plan_session.specs.Replies.{is_refusal, reply_text}
use Rattle.plan_session.specs.Sessions.{SaysAndHears, State, waiting, state_of}
use Rattle.plan_session.specs.declared.reply.Reply.{Reply}
use Rattle.plan_session.specs.declared.session.Session.{Session}

-- How many lines were heard, whether one of them was refused, and what has become of them.
pub record View : Type 0 where
  pub heard : ℕ
  pub refused : Bool
  pub state : State

abbrev pub new_view : View
new_view = record { heard = 0; refused = false; state = waiting }

-- The number of the next line. The count stops at the largest number that the program has.
abbrev pub next_number : ℕ → ℕ
next_number n = min (n + 1) 18446744073709551615

-- The line is answered so and counted, and a refusal is kept in mind.
pub record Heard (v : View) (line : List ℕ) (r : Reply) (v' : View) : Type 0 where
  pub hears : SaysAndHears v.state line r v'.state
  pub counted : v'.heard ≡ next_number v.heard
  pub noted : v'.refused ≡ v.refused || is_refusal r

-- The answer to a line is printed into the buffer; a buffer of fewer than 160 octets is refused, and the line is not heard.
abbrev pub AnswersLine : View → List ℕ → List ℕ → Result ℕ TextRefusal → List ℕ → View → Type 0
AnswersLine v line old (Ok n) new v' = (r : Reply) × Heard v line r v' × Prints (reply_text (next_number v.heard) r) old (Ok n) new
AnswersLine v line old (Err f) new v' = RefusesShort old f new × (v' ≡ v)

abbrev pub view_of : Session → View
view_of s = record { heard = s.heard; refused = s.refused; state = state_of s.stage }
