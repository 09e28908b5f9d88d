use Rattle.std.proofs.Common.{length, arith}
use Rattle.plan_session.proofs.CardsMade.{card_refused}
use Rattle.plan_session.proofs.to_card.card_of.Goals as goal

pub returns-in-Err : goal.returns-in-Err
returns-in-Err g c =
    let r = c.in-Err.ensures.answer in
    let n = length c.as_mut_slice.result.now in
    let len = c.as_mut_slice.ensures.len in
    let of = c.in_ok-card.ensures.len in
    let ok = c.in_ok-card.card.ok in
    let room = c.length_of_card.ensures in
    card_refused g.P.Ordinate.kind c.args.legs.now n c.in-Err.field-0.leg c.in-Err.field-0.why (omega (arith, len, of, room)) (omega (arith, ok, len)) r
