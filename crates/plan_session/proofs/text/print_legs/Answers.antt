use Rattle.std.proofs.Common.{◌≡◌, ℕ, ◌+◌, Some, Option, Ok, List, ap, ◌∙◌, ◌++◌, subst₂, sym, vec_items, take, arith}
use Rattle.std.proofs.lemmas.List.{append_assoc}
use Rattle.plan_session.specs.Listing.{NoSuchLeg, ShowsLeg}
use Rattle.plan_session.specs.Promises.{Promise}
use Rattle.plan_session.specs.Sessions.{State, state_of}
use Rattle.plan_session.proofs.Stages.{stage_ready, state_few}
use Rattle.plan_session.proofs.Texted.{all_legs, first_all, first_legs, first_more, leg_refused}
use Rattle.plan_session.proofs.text.print_legs.Goals as goal

pub returns-in_default-clause-legs : goal.returns-in_default-clause-legs
returns-in_default-clause-legs c =
    let short = leg_refused _ _ _ _ _ c.in_default.ensures.shows in
    let room = c.loop-i.invariant.room in
    absurd (omega (arith, short, room))

pub loop-i-preserved : goal.loop-i-preserved
loop-i-preserved c =
    let inv = c.loop-i.invariant in
    let s = state_of c.args.session.now.stage in
    let before = vec_items c.args.printed.now in
    let octets = take c.in-Some.length c.leg.new.buffer in
    let same : state_of c.loop-i.session.stage ≡ s = ap (λ z. state_of z.stage) inv.same in
    let shows : ShowsLeg s c.loop-i.i c.loop-i.buffer (Ok (Some c.in-Some.length)) c.leg.new.buffer =
    subst₂ (λ (z : State) (o : Option ℕ). ShowsLeg z c.loop-i.i c.loop-i.buffer (Ok o) c.leg.new.buffer) same c.in-Some.is c.in-Ok.ensures.shows in
    record {
      same = c.leg.ensures.same ∙ inv.same;
      room = c.leg.auto.buffer ∙ inv.room;
      printed =
          c.in_ok-extend_from_slice.ensures.items ∙ ap (λ (us : List ℕ). us ++ octets) inv.printed ∙ append_assoc before (first_legs s c.loop-i.i) octets
          ∙ ap (λ (us : List ℕ). before ++ us) (sym (first_more s c.loop-i.i c.loop-i.buffer c.leg.new.buffer c.in-Some.length shows));
    }

pub returns-in_default-shown-clause-legs : goal.returns-in_default-shown-clause-legs
returns-in_default-shown-clause-legs c =
    let inv = c.loop-i.invariant in
    let s = state_of c.args.session.now.stage in
    let same : state_of c.loop-i.session.stage ≡ s = ap (λ z. state_of z.stage) inv.same in
    λ lines k sealed.
    let none = subst₂ (λ (z : State) (o : Option ℕ). (lines : List (List ℕ)) → Promise lines z → NoSuchLeg z c.loop-i.i o) same c.in_default-shown.is c.in-Ok.ensures.whole lines k in
    inv.printed ∙ ap (λ (us : List ℕ). vec_items c.args.printed.now ++ us) (first_all s c.loop-i.i (all_legs s c.loop-i.i sealed none))

pub returns-clause-legs : goal.returns-clause-legs
returns-clause-legs c =
    let s = state_of c.args.session.now.stage in
    let over = c.loop-i-test.false in
    λ lines k sealed.
    let few = state_few s (stage_ready c.args.session.now.stage lines k) in
    c.loop-i.invariant.printed ∙ ap (λ (us : List ℕ). vec_items c.args.printed.now ++ us) (first_all s c.loop-i.i (omega (arith, few, over)))
