-- The cards of promised turns.
use Rattle.std.proofs.Common.{◌≡◌, inl, inr, ℕ, ◌+◌, ◌-◌, ◌*◌, ◌/◌, ◌≤◌, min, List, length, Some, None, Option, vec_items, sym, ap, subst, ◌∙◌, arith}
use Rattle.std.specs.Global.{Vec}
use Rattle.std.proofs.Math.Nat.{mul-div_cancel_left}
use Rattle.ordinate.specs.Kinds.{Kind, Lawful}
use Rattle.ordinate.specs.Flows.{flow}
use Rattle.ordinate.specs.Boxes.{box}
use Rattle.ordinate.specs.Laws.Kinds.{flow_lawful, box_lawful}
use Rattle.leg.specs.Chains.{Chained, Each}
use Rattle.leg.specs.Legs.{IsLeg}
use Rattle.leg.specs.declared.leg.Leg.{Leg}
use Rattle.outlet.specs.declared.put_refusal.PutRefusal.{PutRefusal}
use Rattle.card.specs.Cards.{Carries, capacity, card_of}
use Rattle.card.specs.Records.{record_length}
use Rattle.card.proofs.Carried.{carried_accepted}
use Rattle.card_writer.specs.Outlet.{Fit, Refuses}
use Rattle.card_writer.proofs.Listing.{fit_unrefused, written_carries}
use Rattle.card_writer.proofs.Started.{card_length, written_long}
use Rattle.plan_session.specs.Cards.{GivesCard, GivesReadCard, IsRead, MakesCard, StateCard, StateIsRead}
use Rattle.plan_session.specs.Makings.{Made}
use Rattle.plan_session.specs.Promises.{Promise}
use Rattle.plan_session.specs.Sessions.{State, waiting, flow_turn, box_turn, state_of}
use Rattle.plan_session.specs.Views.{view_of}
use Rattle.plan_session.specs.declared.session.Session.{Session}
use Rattle.plan_session.proofs.Stages.{Ready, StageReady, stage_ready}

module _ {P : Type 0} (K : Kind P) (ls : List (Leg P)) where
  abbrev pub exact : ℕ
  exact = 8 + record_length K * length ls

  -- A card has room for as many records as it was made for.
  room_for_all : length ls ≤ 67108864 → length ls ≤ capacity K exact
  room_for_all h =
      let w = record_length K in
      let e : exact - 8 ≡ w * length ls = omega arith in
      let d : w * length ls / w ≡ length ls = mul-div_cancel_left (length ls) {n = w} (omega arith) in
      subst (λ (k : ℕ). length ls ≤ min (k / w) 67108864) (sym e) (subst (λ (q : ℕ). length ls ≤ min q 67108864) (sym d) (omega arith))

  fit_all : Each (IsLeg K) ls → length ls ≤ 67108864 → Fit K (capacity K exact) ls
  fit_all e h = record { legs = e; fits = room_for_all h }

  -- No memory is as long as the largest number.
  exact_length : (n : ℕ) → n ≡ min exact 18446744073709551615 → n ≤ 9223372036854775807 → n ≡ exact
  exact_length n e h = omega arith

  pub card_refused : (n : ℕ) (i : ℕ) (why : PutRefusal) → n ≡ min exact 18446744073709551615 → n ≤ 9223372036854775807 → Refuses K (capacity K n) ls i why → Each (IsLeg K) ls → length ls ≤ 67108864 → ⊥
  card_refused n i why e h r legs few = fit_unrefused K (capacity K n) ls i why (subst (λ (k : ℕ). Fit K (capacity K k) ls) (sym (exact_length n e h)) (fit_all legs few)) r

  card_carries : (xs : List ℕ) → Each (IsLeg K) ls → Chained ls → length ls ≤ 67108864 → xs ≡ card_of K ls exact → Carries K xs ls
  card_carries xs legs chained few e = written_carries K exact ls xs (omega arith) (fit_all legs few) chained (e ∙ sym (written_long K ls exact (omega arith)))

module _ {P : Type 0} (K : Kind P) (law : Lawful K) where
  read_of : (m : Made P) (card : Option (Vec ℕ)) → Ready K m → MakesCard K m card → IsRead K m card
  read_of m card r (inl x) = subst (λ (c : Option (Vec ℕ)). IsRead K m c) (sym x.1) x.0
  read_of m (Some card) r (inr x) =
      let few = r.few in
      let carries = card_carries K m.contents.legs (vec_items card) r.legs r.chained (omega arith) x.1 in
      (x.0, carries, ap length x.1 ∙ card_length K m.contents.legs (exact K m.contents.legs) (omega arith), carried_accepted K (vec_items card) law m.contents.legs carries)
  read_of m None r (inr x) = let few = r.few in absurd (x.1 r.legs (omega arith))

state_read : (s : State) (card : Option (Vec ℕ)) → StageReady s → StateCard s card → StateIsRead s card
state_read waiting card r x = x
state_read (flow_turn m) card r x = read_of flow flow_lawful m card r x
state_read (box_turn m) card r x = read_of box box_lawful m card r x

pub given_read : (s : Session) (card : Option (Vec ℕ)) (lines : List (List ℕ)) → Promise lines (state_of s.stage) → GivesCard (view_of s) card → GivesReadCard (view_of s) card
given_read s card lines k (inl x) = inl x
given_read s card lines k (inr x) = inr (x.0, state_read (state_of s.stage) card (stage_ready s.stage lines k) x.1)
