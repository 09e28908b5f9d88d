-- What a sealed turn tells at a tick.
use Rattle.std.specs.Prelude.{◌≡◌, ℕ, ◌⊎◌, List, [], ◌∷◌, length, ℤ, pos, negsuc, ◌<ℤ◌, Some, None, Option}
use Rattle.ordinate.specs.Kinds.{Kind}
use Rattle.ordinate.specs.declared.flow.Flow.{Flow}
use Rattle.leg.specs.Legs.{IsLeg}
use Rattle.leg.specs.Reasons.{Reason, because}
use Rattle.leg.specs.Ticks.{Covers}
use Rattle.leg.specs.Values.{leg_value}
use Rattle.leg.specs.declared.leg.Leg.{Leg}
use Rattle.outlet.specs.Outlets.{Contents}
use Rattle.turn.specs.Calls.{whole_ticks}
use Rattle.turn.specs.declared.refusal.Refusal.{Refusal}
use Rattle.turn.specs.declared.refusal.Refusal.TheVariants.{Foreign, NoLegThere, TickPastEnd}
use Rattle.planner.specs.declared.sealed.Sealed.{Sealed}

module _ {P : Type 0} (K : Kind P) where
  -- One coordinate of a leg: what a leg of flow would be there.
  abbrev pub coordinate_leg : Leg P → ℕ → Leg Flow
  coordinate_leg l i =
      record {
        stretch = l.stretch;
        degree = l.degree;
        start = record { value = K.coordinate l.start i };
        middle = record { value = K.coordinate l.middle i };
        end = record { value = K.coordinate l.end i };
      }

  -- The leg's point at a tick that it covers: at each coordinate the exact value, rounded down.
  abbrev pub point_at : Leg P → ℕ → P
  point_at l a = K.made (λ i. leg_value (coordinate_leg l i) a)

  -- The leg is one, and covers the tick; no leg covers a tick below 0.
  abbrev pub CoversTick : Leg P → ℤ → Type 0
  CoversTick l (pos a) = IsLeg K l × Covers l.stretch a
  CoversTick l (negsuc a) = ⊥

  -- What the first leg of the list that covers the tick tells, if there is one.
  abbrev pub FirstTells : List (Leg P) → ℤ → Option P → Type 0
  FirstTells [] a r = r ≡ None
  FirstTells (l ∷ ls) a r = (CoversTick l a × (r ≡ Some (point_at l (whole_ticks a)))) ⊎ ((¬ (CoversTick l a)) × FirstTells ls a r)

  -- Why a sealed turn tells nothing at the tick a: the outlet does not hold as many legs as were put, the tick is past the agreed end, or no leg covers it.
  abbrev pub tell_reasons : {R : Type 0} → Sealed P R → Contents P → ℤ → List (Reason Refusal)
  tell_reasons s c a =
      because (¬ (length c.legs ≡ s.count)) Foreign
      ∷ because (pos s.end <ℤ a) TickPastEnd
      ∷ because (FirstTells c.legs a None) NoLegThere
      ∷ []

-- Why a sealed turn is not listed.
abbrev pub list_reasons : {P R : Type 0} → Sealed P R → Contents P → List (Reason Refusal)
list_reasons s c = because (¬ (length c.legs ≡ s.count)) Foreign ∷ []
