use Rattle.plan_text.specs.Tokens.{word}
use Rattle.plan_text.proofs.Steps.{other, no_word}
use Rattle.plan_text.proofs.lexer.Lexer.word.Goals as goal

pub returns-in_err-part : goal.returns-in_err-part
returns-in_err-part c = rw c.from_residual.ensures (λ w. c.in_err-part.ensures (word w))

pub returns-in_default : goal.returns-in_default
returns-in_default c w = other c.args.self c.in_ok-part.rest _ (word w) c.in_ok-part.ensures.0 (no_word c.in_ok-part.part.token c.in_default.not-Word w)
