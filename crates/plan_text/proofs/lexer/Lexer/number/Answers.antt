use Rattle.plan_text.specs.Tokens.{number}
use Rattle.plan_text.proofs.Steps.{other, no_number}
use Rattle.plan_text.proofs.lexer.Lexer.number.Goals as goal

pub returns-in_err-part : goal.returns-in_err-part
returns-in_err-part c = rw c.from_residual.ensures (λ z. c.in_err-part.ensures (number z))

pub returns-in_default : goal.returns-in_default
returns-in_default c z = other c.args.self c.in_ok-part.rest _ (number z) c.in_ok-part.ensures.0 (no_number c.in_ok-part.part.token c.in_default.not-Number z)
