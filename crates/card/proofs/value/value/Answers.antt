use Rattle.std.proofs.Common.{rules}
use Rattle.card.proofs.Values.{told_first, value_answer, value_given}
use Rattle.card.proofs.value.value.Goals as goal

pub returns-clause-answer : goal.returns-clause-answer
returns-clause-answer c =
    let card = c.in_ok-told.ensures in
    let tells = told_first c.args.tick _ (λ before l after called. search rules) card.legs.0 c.in_ok-told.told card.legs.2 in
    value_answer c.args.card.now c.args.tick card.answer card.legs.0 card.legs.1 c.in_ok-told.told tells _ c.ok_or.ensures.value

pub returns-clause-told : goal.returns-clause-told
returns-clause-told c =
    let card = c.in_ok-told.ensures in
    let tells = told_first c.args.tick _ (λ before l after called. search rules) card.legs.0 c.in_ok-told.told card.legs.2 in
    value_given c.args.card.now c.args.tick card.answer card.legs.0 card.legs.1 c.in_ok-told.told tells _ c.ok_or.ensures.value
