use Rattle.std.proofs.Common.{inr, subst, sym}
use Rattle.plan_session.specs.Cards.{StateCard}
use Rattle.plan_session.specs.Sessions.{state_of}
use Rattle.plan_session.specs.declared.stage.Stage.{Stage}
use Rattle.plan_session.proofs.CardsMade.{given_read}
use Rattle.plan_session.proofs.Stages.{ok_map}
use Rattle.plan_session.proofs.session.Session.card.Goals as goal

pub returns-in-Flow-clause-read : goal.returns-in-Flow-clause-read
returns-in-Flow-clause-read c =
    ok_map c.card.result (λ card x lines k. given_read c.args.self.now card lines k (inr (c.if-self.false, subst (λ (t : Stage). StateCard (state_of t) card) (sym c.in-Flow.is) x))) c.card.ensures.card

pub returns-in-Box-clause-read : goal.returns-in-Box-clause-read
returns-in-Box-clause-read c =
    ok_map c.card-in-Box.result (λ card x lines k. given_read c.args.self.now card lines k (inr (c.if-self.false, subst (λ (t : Stage). StateCard (state_of t) card) (sym c.in-Box.is) x))) c.card-in-Box.ensures.card
