use Rattle.std.proofs.Common.{◌∷◌, ap, ◌∙◌, vec_items}
use Rattle.plan_session.specs.Texts.{newest_first}
use Rattle.plan_session.specs.Views.{view_of}
use Rattle.plan_session.proofs.text.print_answers.Goals as goal

pub loop-line-preserved : goal.loop-line-preserved
loop-line-preserved c =
    let inv = c.loop-line.invariant in
    let line = c.in-Some.line.now in
    let more = c.in_ok-print_answer.ensures inv.0 inv.3 in
    (line ∷ inv.0, inv.1 ∙ ap (λ ls. newest_first ls inv.0) c.in-Some.ensures.lines, (view_of c.loop-line.session, vec_items c.loop-line.printed, inv.2, more.0), more.1)
