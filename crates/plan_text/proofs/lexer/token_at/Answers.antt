use Rattle.std.proofs.Common.{◌++◌, drop, sym, ap, ◌∙◌, subst, arith, w64, SFits, rules}
use Rattle.std.proofs.lemmas.Int.{to_z-of_z}
use Rattle.plan_text.specs.Lexing.{Begins}
use Rattle.plan_text.specs.Tokens.{number}
use Rattle.plan_text.proofs.Taken.{none_past, none_space, run_at, some, plain, split, stops_there}
use Rattle.plan_text.proofs.lexer.token_at.Goals as goal

pub returns-then-place-line : goal.returns-then-place-line
returns-then-place-line c = none_past c.args.line.now c.args.place (omega arith)

pub returns-then-line-place-eq32 : goal.returns-then-line-place-eq32
returns-then-line-place-eq32 c = none_space c.args.line.now c.args.place (omega arith) (omega arith)

pub returns-in-Some : goal.returns-in-Some
returns-in-Some c =
    let fits : SFits w64 c.in-Some.number = search rules in
    let e = c.run_end-end.ensures in
    let run = run_at c.args.line.now c.args.place c.run_end-end.result (omega arith) c.if-line-place-eq40.false c.if-line-place-eq41.false c.if-line-place-eq32.false e.within e.all e.stops in
    let told = c.in-Some.ensures.value in
    subst (λ z. Begins (drop c.args.place c.args.line.now) (number z) (drop c.run_end-end.result c.args.line.now)) (sym (to_z-of_z w64 _ fits))
    (record { mark = told.0; ends = stops_there run; whole = split run ∙ ap (λ w. w ++ drop c.run_end-end.result c.args.line.now) told.1 })

pub returns-in-None : goal.returns-in-None
returns-in-None c =
    let e = c.run_end-end.ensures in
    let run = run_at c.args.line.now c.args.place c.run_end-end.result (omega arith) c.if-line-place-eq40.false c.if-line-place-eq41.false c.if-line-place-eq32.false e.within e.all e.stops in
    record { mark = (some run, plain run, c.in-None.ensures.value); ends = stops_there run; whole = split run }
