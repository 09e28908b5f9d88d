use Rattle.std.proofs.Common.{rules, List, ◌++◌, None, sym, ap, ◌∙◌, subst}
use Rattle.std.proofs.lemmas.Result.{err_from_is_err_and}
use Rattle.leg.specs.declared.leg.Leg.{Leg}
use Rattle.leg.proofs.Seams.{runs_seamless}
use Rattle.card.specs.Cards.{Carries}
use Rattle.card.proofs.Carried.{carried_one}
use Rattle.card.proofs.Keeping.{kept_all}
use Rattle.card.proofs.Reading.{reasons_one}
use Rattle.card.proofs.read.read.Goals as goal

pub returns-in_err-legs-clause-answer : goal.returns-in_err-legs-clause-answer
returns-in_err-legs-clause-answer g c =
    let failed = err_from_is_err_and c.from_residual.result c.from_residual.ensures.1 in
    rw (failed.1, failed.2) c.in_err-legs.ensures.answer

pub returns-in_err-legs-clause-one : goal.returns-in_err-legs-clause-one
returns-in_err-legs-clause-one g c = reasons_one g.P.Ordinate.kind c.args.card.now g.met.P.Ordinate.lawful

pub returns-in_err-legs-2-clause-answer : goal.returns-in_err-legs-2-clause-answer
returns-in_err-legs-2-clause-answer g c =
    let failed = err_from_is_err_and c.from_residual-in_err-legs-2.result c.from_residual-in_err-legs-2.ensures.1 in
    rw (failed.1, failed.2) c.in_ok-legs.ensures.answer

pub returns-in_err-legs-2-clause-only : goal.returns-in_err-legs-2-clause-only
returns-in_err-legs-2-clause-only g c = carried_one g.P.Ordinate.kind c.args.card.now g.met.P.Ordinate.lawful

pub returns-in_err-legs-2-clause-one : goal.returns-in_err-legs-2-clause-one
returns-in_err-legs-2-clause-one g c = reasons_one g.P.Ordinate.kind c.args.card.now g.met.P.Ordinate.lawful

pub returns-clause-only : goal.returns-clause-only
returns-clause-only g c = carried_one g.P.Ordinate.kind c.args.card.now g.met.P.Ordinate.lawful

pub returns-clause-one : goal.returns-clause-one
returns-clause-one g c = reasons_one g.P.Ordinate.kind c.args.card.now g.met.P.Ordinate.lawful

pub returns-clause-legs : goal.returns-clause-legs
returns-clause-legs g c =
    let card = c.in_ok-legs.ensures.legs in
    let kept = kept_all c.new.result _ (λ before l after called. search rules) card.0 c.in_ok-legs.legs card.2 c.in_ok-legs-2.field-0 c.in_ok-legs-2.was in
    subst (Carries g.P.Ordinate.kind c.args.card.now) (sym (kept ∙ ap (λ (start : List (Leg _)). start ++ card.0) c.new.ensures.items)) card.1

pub returns-clause-seamless : goal.returns-clause-seamless
returns-clause-seamless g c = runs_seamless None _ (returns-clause-legs g c).chained.ticks
