use Rattle.std.proofs.Common.{sym, subst, w64, SFits, to_z, of_z, rules}
use Rattle.std.proofs.lemmas.Int.{to_z-of_z}
use Rattle.plan_text.specs.declared.form.At.TheVariants.{One, Two}
use Rattle.plan_text.specs.Forms.{IsTypedAt}
use Rattle.plan_text.specs.Reading.{ReadsOne, at_marks}
use Rattle.plan_text.proofs.Names.{at_word}
use Rattle.plan_text.proofs.Ats.{no_at, no_first, one_read, no_second, not_closed_at, two_read}
use Rattle.plan_text.proofs.items.at_item.Goals as goal

pub returns-in_err-list : goal.returns-in_err-list
returns-in_err-list c = rw c.from_residual.ensures (no_at c.args.lexer (c.in_err-list.ensures at_word))

pub returns-in_err-first : goal.returns-in_err-first
returns-in_err-first c = rw c.from_residual-in_err-first.ensures (no_first c.args.lexer c.in_ok-list.field-0 (c.in_ok-list.ensures at_word) c.in_err-first.ensures)

pub returns-in-Some : goal.returns-in-Some
returns-in-Some c =
    let fits : SFits w64 c.in_ok-first.first = search rules in
    subst (λ z. ReadsOne at_marks IsTypedAt c.args.lexer (One z) c.in-Some.rest) (sym (to_z-of_z w64 _ fits))
    (one_read c.args.lexer c.in_ok-list.field-0 (c.in_ok-list.ensures at_word) c.in_ok-first.first c.in_ok-first.rest c.in_ok-first.ensures c.in-Some.rest c.in-Some.ensures)

pub returns-in_err-second : goal.returns-in_err-second
returns-in_err-second c =
    rw c.from_residual-in_err-second.ensures
    (no_second c.args.lexer c.in_ok-list.field-0 (c.in_ok-list.ensures at_word) c.in_ok-first.first c.in_ok-first.rest c.in_ok-first.ensures c.in_default.ensures c.in_err-second.ensures)

pub returns-in_err-pass : goal.returns-in_err-pass
returns-in_err-pass c =
    rw c.from_residual-in_err-pass.ensures
    (not_closed_at c.args.lexer c.in_ok-list.field-0 (c.in_ok-list.ensures at_word) c.in_ok-first.first c.in_ok-first.rest c.in_ok-first.ensures c.in_default.ensures
    c.in_ok-second.second c.in_ok-second.rest c.in_ok-second.ensures c.in_err-pass.ensures)

pub returns : goal.returns
returns c =
    let one : SFits w64 c.in_ok-first.first = search rules in
    let two : SFits w64 c.in_ok-second.second = search rules in
    subst (λ z. ReadsOne at_marks IsTypedAt c.args.lexer (Two z (to_z w64 (of_z w64 c.in_ok-second.second))) c.in_ok-pass.field-0) (sym (to_z-of_z w64 _ one))
    (subst (λ z. ReadsOne at_marks IsTypedAt c.args.lexer (Two c.in_ok-first.first z) c.in_ok-pass.field-0) (sym (to_z-of_z w64 _ two))
    (two_read c.args.lexer c.in_ok-list.field-0 (c.in_ok-list.ensures at_word) c.in_ok-first.first c.in_ok-first.rest c.in_ok-first.ensures c.in_default.ensures
    c.in_ok-second.second c.in_ok-second.rest c.in_ok-second.ensures c.in_ok-pass.field-0 c.in_ok-pass.ensures))
