use Rattle.std.proofs.Common.{◌≡◌, ◌+◌, ◌-◌, ◌<◌, length, get_or, take, drop, sym, ap, ◌∙◌, arith}
use Rattle.std.proofs.lemmas.List.{get_or-take, get_or-drop}
use Rattle.plan_text.specs.Lexing.{is_plain_octet}
use Rattle.plan_text.proofs.lexer.run_end.Goals as goal

pub returns-clause-all : goal.returns-clause-all
returns-clause-all c k from before =
    let line = c.args.line.now in
    let place = c.args.place in
    let here : k - place < c.run_length.result = omega arith in
    let inside : k - place < length line - place = grind arith in
    let there : place + (k - place) ≡ k = omega arith in
    let same : get_or (take (length line - place) (drop place line)) (k - place) 0 ≡ get_or line k 0
    = get_or-take (length line - place) (drop place line) (k - place) 0 inside ∙ get_or-drop place line (k - place) 0 ∙ ap (λ i. get_or line i 0) there in
    ap is_plain_octet (sym same) ∙ c.run_length.ensures.all (k - place) here
