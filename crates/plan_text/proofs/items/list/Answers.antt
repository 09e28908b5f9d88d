use Rattle.plan_text.specs.Tokens.{opening, word}
use Rattle.plan_text.proofs.Parts.{passes_two}
use Rattle.plan_text.proofs.items.list.Goals as goal

pub returns : goal.returns
returns c g = passes_two c.args.lexer c.in_ok-pass.field-0 opening (word c.args.name.now) c.pass-2.result c.in_ok-pass.ensures g c.pass-2.ensures
