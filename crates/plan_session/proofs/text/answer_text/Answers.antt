use Rattle.std.proofs.Common.{inl}
use Rattle.plan_session.specs.Views.{view_of}
use Rattle.plan_session.proofs.text.answer_text.Goals as goal

pub returns : goal.returns
returns c =
    let heard = c.in_ok-printed.ensures in
    inl (c.in_default.ensures, record { view = view_of c.print_answers.new.session; printed = heard.0; promise = heard.1; card = c.in_ok-card.ensures.read _ heard.1 })
