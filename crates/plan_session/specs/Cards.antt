-- The card of a session's turn.
use Rattle.std.specs.Prelude.{◌≡◌, ℕ, ◌+◌, ◌*◌, ◌≤◌, ◌⊎◌, true, false, List, length, Some, None, Option, vec_items}
use Rattle.std.specs.Global.{Vec}
use Rattle.ordinate.specs.Kinds.{Kind}
use Rattle.ordinate.specs.Flows.{flow}
use Rattle.ordinate.specs.Boxes.{box}
use Rattle.leg.specs.Chains.{Each}
use Rattle.leg.specs.Legs.{IsLeg}
use Rattle.leg.specs.Reasons.{First}
use Rattle.leg.specs.declared.leg.Leg.{Leg}
use Rattle.card.specs.Cards.{Carries, card_of, reasons}
use Rattle.card.specs.Records.{record_length}
use Rattle.plan_session.specs.Makings.{Made}
use Rattle.plan_session.specs.Sessions.{State, waiting, flow_turn, box_turn}
use Rattle.plan_session.specs.Views.{View}

module _ {P : Type 0} (K : Kind P) where
  -- The card of the legs, with no octet behind them; there is none of what no card takes.
  abbrev pub IsCard : List (Leg P) → Option (Vec ℕ) → Type 0
  IsCard ls (Some card) = vec_items card ≡ card_of K ls (8 + record_length K * length ls)
  IsCard ls None = Each (IsLeg K) ls → length ls ≤ 67108864 → ⊥

  -- A turn that is not sealed gives none.
  abbrev pub MakesCard : Made P → Option (Vec ℕ) → Type 0
  MakesCard m card = ((m.sealed ≡ false) × (card ≡ None)) ⊎ ((m.sealed ≡ true) × IsCard m.contents.legs card)

  -- The card of a sealed turn carries its legs, has no octet behind them, and is one that the reader accepts; and every sealed turn has one.
  abbrev pub IsRead : Made P → Option (Vec ℕ) → Type 0
  IsRead m (Some card) =
      (m.sealed ≡ true) × Carries K (vec_items card) m.contents.legs × (length (vec_items card) ≡ 8 + record_length K * length m.contents.legs)
      × First (reasons K (vec_items card)) None
  IsRead m None = m.sealed ≡ false

abbrev pub StateCard : State → Option (Vec ℕ) → Type 0
StateCard waiting card = card ≡ None
StateCard (flow_turn m) card = MakesCard flow m card
StateCard (box_turn m) card = MakesCard box m card

abbrev pub StateIsRead : State → Option (Vec ℕ) → Type 0
StateIsRead waiting card = card ≡ None
StateIsRead (flow_turn m) card = IsRead flow m card
StateIsRead (box_turn m) card = IsRead box m card

-- A session in which a line was refused gives no card.
abbrev pub GivesCard : View → Option (Vec ℕ) → Type 0
GivesCard v card = ((v.refused ≡ true) × (card ≡ None)) ⊎ ((v.refused ≡ false) × StateCard v.state card)

-- So it is where the promise holds.
abbrev pub GivesReadCard : View → Option (Vec ℕ) → Type 0
GivesReadCard v card = ((v.refused ≡ true) × (card ≡ None)) ⊎ ((v.refused ≡ false) × StateIsRead v.state card)
