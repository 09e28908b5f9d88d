use Rattle.std.proofs.Common.{◌≡◌}
use Rattle.std.specs.Bool.{Decides}
use Rattle.plan_text.specs.Tokens.{mark_of}
use Rattle.plan_text.proofs.Steps.{passed}
use Rattle.plan_text.proofs.Tokens.{same_mark_told}
use Rattle.plan_text.proofs.lexer.Lexer.pass.Goals as goal

pub returns : goal.returns
returns c =
    let here : Decides c.eq.result (mark_of c.in_ok-part.part.token ≡ mark_of c.args.token) = rw c.eq.ensures (same_mark_told c.in_ok-part.part.token c.args.token) in
    rw c.then_some.ensures (passed c.args.self c.in_ok-part.rest (mark_of c.in_ok-part.part.token) (mark_of c.args.token) c.eq.result c.in_ok-part.ensures.0 here)
