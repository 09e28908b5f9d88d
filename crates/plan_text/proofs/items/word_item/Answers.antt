use Rattle.plan_text.specs.Tokens.{word}
use Rattle.plan_text.specs.Lexing.{IsWord}
use Rattle.plan_text.proofs.Steps.{missed}
use Rattle.plan_text.proofs.Parts.{reads_word}
use Rattle.plan_text.proofs.Fields.{no_list, no_part, no_close, field_read}
use Rattle.plan_text.proofs.items.word_item.Goals as goal

pub returns-in_err-list : goal.returns-in_err-list
returns-in_err-list c g = rw c.from_residual.ensures (no_list word IsWord c.args.name.now c.args.lexer (c.in_err-list.ensures g))

pub returns-in_err-word : goal.returns-in_err-word
returns-in_err-word c g =
    let k = c.in_ok-list.field-0 in
    rw c.from_residual-in_err-word.ensures (no_part word IsWord c.args.name.now c.args.lexer k (c.in_ok-list.ensures g) (λ w ms h s. missed k (word w) (c.in_err-word.ensures w) ms h s))

pub returns-in_err-pass : goal.returns-in_err-pass
returns-in_err-pass c g =
    let k = c.in_ok-list.field-0 in
    let k' = c.in_ok-word.rest in
    rw c.from_residual-in_err-pass.ensures
    (no_close word IsWord c.args.name.now c.args.lexer k (c.in_ok-list.ensures g) k' c.in_ok-word.word.now (reads_word k k' c.in_ok-word.word.now c.in_ok-word.ensures) c.in_err-pass.ensures)

pub returns : goal.returns
returns c g =
    let k = c.in_ok-list.field-0 in
    let k' = c.in_ok-word.rest in
    field_read word IsWord c.args.name.now c.args.lexer k (c.in_ok-list.ensures g) k' c.in_ok-word.word.now (reads_word k k' c.in_ok-word.word.now c.in_ok-word.ensures) c.in_ok-pass.field-0 c.in_ok-pass.ensures
