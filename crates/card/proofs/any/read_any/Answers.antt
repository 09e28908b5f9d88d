use Rattle.std.proofs.Common.{sym, ◌∙◌}
use Rattle.std.proofs.lemmas.Result.{err_from_is_err_and}
use Rattle.card.proofs.any.read_any.Goals as goal

pub returns-in_err-read-clause-answer : goal.returns-in_err-read-clause-answer
returns-in_err-read-clause-answer c =
    let failed = err_from_is_err_and c.from_residual.result c.from_residual.ensures.1 in
    let named = sym c.code_of.ensures ∙ c.if-code_of-code.true ∙ c.code.ensures in
    rw (failed.1, failed.2) (record { of_flow = λ _. c.in_err-read.ensures.answer; other = λ unnamed. absurd (unnamed named) })
