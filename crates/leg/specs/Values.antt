-- The exact value of a flow leg at a tick, rounded down.
use Rattle.std.specs.Prelude.{◌≡◌, ℕ, ◌+◌, ◌-◌, ◌*◌, ◌/◌, ◌<◌, cond, ◌⊎◌, List, [], ◌∷◌, ℤ, pos, negsuc, ◌+ℤ◌, ◌*ℤ◌, Some, None, Option, ◌==◌}
use Rattle.ordinate.specs.Flows.{flow}
use Rattle.ordinate.specs.declared.flow.Flow.{Flow}
use Rattle.leg.specs.Legs.{IsLeg}
use Rattle.leg.specs.Ticks.{Covers, moment}
use Rattle.leg.specs.Chains.{last_or}
use Rattle.leg.specs.declared.leg.Leg.{Leg}

-- z / n, rounded down; negsuc a is -(a + 1)
abbrev pub floor : ℤ → ℕ → ℤ
floor (pos a) n = pos (a / n)
floor (negsuc a) n = negsuc (a / n)

-- (v - s) p + s z: v times the value at s / v of the straight leg from p to z
abbrev pub line : ℕ → ℕ → ℤ → ℤ → ℤ
line v s p z = (pos (v - s) *ℤ p) +ℤ (pos s *ℤ z)

-- (v - s)² p + 2 s (v - s) q + s² z: v² times the value at s / v of the quadratic leg
abbrev pub parabola : ℕ → ℕ → ℤ → ℤ → ℤ → ℤ
parabola v s p q z = ((pos ((v - s) * (v - s)) *ℤ p) +ℤ (pos (2 * s * (v - s)) *ℤ q)) +ℤ (pos (s * s) *ℤ z)

-- The value at the moment s / v, rounded down, of a leg of degree m with the points p, q and z.
abbrev pub value_at : ℕ → ℕ → ℕ → ℤ → ℤ → ℤ → ℤ
value_at m v s p q z = cond (m == 1) (floor (line v s p z) v) (floor (parabola v s p q z) (v * v))

abbrev pub leg_value : Leg Flow → ℕ → ℤ
leg_value l a = value_at l.degree l.stretch.ticks (moment l.stretch a) l.start.value l.middle.value l.end.value

-- The leg covers the tick a, and v is its value there.
pub record Tells (l : Leg Flow) (a : ℕ) (v : Flow) : Type 0 where
  pub leg : IsLeg flow l
  pub covers : Covers l.stretch a
  pub value : v.value ≡ leg_value l a

-- What the first leg of the list that covers the tick tells, if there is one.
abbrev pub FirstTells : List (Leg Flow) → ℕ → Option Flow → Type 0
FirstTells [] a r = r ≡ None
FirstTells (l ∷ ls) a r = ((v : Flow) × Tells l a v × (r ≡ Some v)) ⊎ (((v : Flow) → Tells l a v → ⊥) × FirstTells ls a r)

-- The tick is past the last leg, or there is no leg.
abbrev pub PastLast : {P : Type 0} → Option (Leg P) → ℕ → Type 0
PastLast None a = Unit {0}
PastLast (Some l) a = l.stretch.from + l.stretch.ticks < a

abbrev pub Past : {P : Type 0} → List (Leg P) → ℕ → Type 0
Past ls a = PastLast (last_or None ls) a
