use Rattle.std.proofs.Common.{ℕ, length, ap, ◌∙◌, subst}
use Rattle.card.specs.Cards.{capacity}
use Rattle.card.proofs.Carried.{carried_accepted}
use Rattle.card_writer.specs.Outlet.{Fit, Refuses, written}
use Rattle.card_writer.proofs.Started.{started_length}
use Rattle.card_writer.proofs.Listing.{fit_unrefused, carries_fit, written_carries}
use Rattle.card_writer.proofs.write.write.Goals as goal

pub returns-in_err-check_legs-clause-same_octets : goal.returns-in_err-check_legs-clause-same_octets
returns-in_err-check_legs-clause-same_octets g c =
    let K = g.P.Ordinate.kind in
    let ls = c.args.legs.now in
    let e = c.in_err-check_legs.field-0.0 in
    let refused = subst (λ (room : ℕ). Refuses K room ls e.leg e.why) c.capacity.ensures c.in_err-check_legs.ensures in
    λ xs len h. absurd (fit_unrefused K _ ls e.leg e.why (subst (λ (n : ℕ). Fit K (capacity K n) ls) len (carries_fit K xs ls h)) refused)

pub returns-clause-reads_back : goal.returns-clause-reads_back
returns-clause-reads_back g c =
    let K = g.P.Ordinate.kind in
    let ls = c.args.legs.now in
    let n = length c.args.card.now in
    let fit = subst (λ (room : ℕ). Fit K room ls) c.capacity.ensures c.in_ok-check_legs.ensures in
    let done = c.put_legs.ensures ∙ ap (written K ls) (ap length c.begin.ensures ∙ started_length K n) in
    λ long chained. let h = written_carries K n ls _ long fit chained done in (h, carried_accepted K _ g.met.P.Ordinate.lawful ls h)
