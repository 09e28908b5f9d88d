use Rattle.std.proofs.Common.{[], ◌∷◌}
use Rattle.plan_text.specs.Tokens.{opening}
use Rattle.plan_text.specs.Reading.{head_word}
use Rattle.plan_text.proofs.Fields.{none_named, other_named, reads_named}
use Rattle.plan_text.specs.Laws.Words.{heads_are_words, heads_apart}
use Rattle.plan_text.proofs.Heads.{bare_bracket, reads_bracketed}
use Rattle.plan_text.proofs.head.read_head.Goals as goal

pub returns-in_err-word : goal.returns-in_err-word
returns-in_err-word c =
    rw c.from_residual-in_err-word.ensures
    (none_named head_word heads_are_words (opening ∷ []) [] c.args.lexer (bare_bracket c.args.lexer c.in_ok-pass.field-0 c.in_ok-pass.ensures c.in_err-word.ensures))

pub returns-in_err-read_word : goal.returns-in_err-read_word
returns-in_err-read_word c =
    rw c.from_residual-in_err-read_word.ensures
    (other_named head_word heads_are_words (opening ∷ []) [] c.args.lexer c.in_ok-word.rest c.in_ok-word.word.now
    (reads_bracketed c.args.lexer c.in_ok-pass.field-0 c.in_ok-pass.ensures c.in_ok-word.rest c.in_ok-word.word.now c.in_ok-word.ensures) c.in_err-read_word.ensures)

pub returns : goal.returns
returns c =
    reads_named head_word heads_are_words (opening ∷ []) [] c.args.lexer c.in_ok-word.rest c.in_ok-word.word.now
    (reads_bracketed c.args.lexer c.in_ok-pass.field-0 c.in_ok-pass.ensures c.in_ok-word.rest c.in_ok-word.word.now c.in_ok-word.ensures) c.in_ok-read_word.field-0 c.in_ok-read_word.ensures heads_apart
