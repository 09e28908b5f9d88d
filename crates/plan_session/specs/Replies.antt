-- What is printed for a line.
use Rattle.std.specs.Prelude.{ℕ, Bool, true, false, List, []}
use Rattle.turn.specs.Refusals.{row}
use Rattle.plan_text.specs.Printing.{refused_line, sealed_line}
use Rattle.plan_text.specs.Refusals.{number_of}
use Rattle.plan_text.specs.declared.refusal.TextRefusal.TheVariants.{NoForm, OutOfPlace}
use Rattle.plan_session.specs.declared.reply.LineRefusal.{LineRefusal}
use Rattle.plan_session.specs.declared.reply.LineRefusal.TheVariants.{Text, Call}
use Rattle.plan_session.specs.declared.reply.Reply.{Reply}
use Rattle.plan_session.specs.declared.reply.Reply.TheVariants.{Silent, Refused, Sealed}

-- The number by which a line's refusal goes.
abbrev pub line_number : LineRefusal → ℕ
line_number (Text f) = number_of f
line_number (Call f) = (row f).0

-- The octets that answer the line of this number.
abbrev pub reply_text : ℕ → Reply → List ℕ
reply_text line Silent = []
reply_text line (Refused f) = refused_line (line_number f) line
reply_text line (Sealed legs ticks) = sealed_line legs ticks

abbrev pub no_form : Reply
no_form = Refused (Text NoForm)

abbrev pub out_of_place : Reply
out_of_place = Refused (Text OutOfPlace)

abbrev pub is_refusal : Reply → Bool
is_refusal Silent = false
is_refusal (Refused f) = true
is_refusal (Sealed legs ticks) = false
