use Rattle.std.proofs.Common.{sym, subst, w64, SFits, rules}
use Rattle.std.proofs.lemmas.Int.{to_z-of_z}
use Rattle.decimal.specs.Numbers.{HasFewDigits}
use Rattle.plan_text.specs.Tokens.{number}
use Rattle.plan_text.specs.Reading.{ReadsOne, number_marks}
use Rattle.plan_text.proofs.Parts.{reads_number, reads_no_number}
use Rattle.plan_text.proofs.Fields.{no_list, no_part, no_close, field_read}
use Rattle.plan_text.proofs.items.number_item.Goals as goal

pub returns-in_err-list : goal.returns-in_err-list
returns-in_err-list c g = rw c.from_residual.ensures (no_list number HasFewDigits c.args.name.now c.args.lexer (c.in_err-list.ensures g))

pub returns-in_err-number : goal.returns-in_err-number
returns-in_err-number c g =
    let k = c.in_ok-list.field-0 in
    rw c.from_residual-in_err-number.ensures (no_part number HasFewDigits c.args.name.now c.args.lexer k (c.in_ok-list.ensures g) (reads_no_number k c.in_err-number.ensures))

pub returns-in_err-pass : goal.returns-in_err-pass
returns-in_err-pass c g =
    let k = c.in_ok-list.field-0 in
    let k' = c.in_ok-number.rest in
    rw c.from_residual-in_err-pass.ensures
    (no_close number HasFewDigits c.args.name.now c.args.lexer k (c.in_ok-list.ensures g) k' c.in_ok-number.number (reads_number k k' c.in_ok-number.number c.in_ok-number.ensures) c.in_err-pass.ensures)

pub returns : goal.returns
returns c g =
    let k = c.in_ok-list.field-0 in
    let k' = c.in_ok-number.rest in
    let fits : SFits w64 c.in_ok-number.number = search rules in
    subst (λ z. ReadsOne (number_marks c.args.name.now) HasFewDigits c.args.lexer z c.in_ok-pass.field-0) (sym (to_z-of_z w64 _ fits))
    (field_read number HasFewDigits c.args.name.now c.args.lexer k (c.in_ok-list.ensures g) k' c.in_ok-number.number (reads_number k k' c.in_ok-number.number c.in_ok-number.ensures) c.in_ok-pass.field-0 c.in_ok-pass.ensures)
