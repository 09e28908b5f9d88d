use Rattle.std.proofs.Common.{◌+◌, ◌∷◌, drop, ap, ◌∙◌, sym, subst, arith}
use Rattle.plan_text.specs.Lexing.{TakesNone, Starts}
use Rattle.plan_text.proofs.Taken.{one_octet, inner_close, inner_space_close}
use Rattle.plan_text.proofs.lexer.token_start.Goals as goal

pub returns-then-line-place-eq41 : goal.returns-then-line-place-eq41
returns-then-line-place-eq41 c =
    subst (λ f. Starts f (drop c.args.place c.args.line.now) (drop c.args.place c.args.line.now)) (sym c.if-first.false)
    (inner_close _ _ (one_octet c.args.line.now c.args.place 41 (omega arith) (omega arith)))

pub returns-then-line-place-eq41-2 : goal.returns-then-line-place-eq41-2
returns-then-line-place-eq41-2 c =
    subst (λ f. TakesNone f (drop c.args.place c.args.line.now)) (sym c.if-first.false)
    (inner_space_close _ (drop (c.args.place + 1 + 1) c.args.line.now)
    (one_octet c.args.line.now c.args.place 32 (omega arith) (omega arith) ∙ ap (λ l. 32 ∷ l) (one_octet c.args.line.now (c.args.place + 1) 41 (omega arith) (omega arith))))
