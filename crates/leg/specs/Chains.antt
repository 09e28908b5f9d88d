-- The chain of legs: ticks and cells, and, apart from them, points.
use Rattle.std.specs.Prelude.{◌≡◌, ◌+◌, ◌*◌, ◌^◌, List, [], ◌∷◌, map, Some, None, Option}
use Rattle.leg.specs.Legs.{Stands}
use Rattle.leg.specs.Ticks.{begins_at, Abuts}
use Rattle.leg.specs.declared.leg.Leg.{Leg}
use Rattle.leg.specs.declared.leg.Stretch.{Stretch}

abbrev pub Each : {A : Type 0} → (A → Type 0) → List A → Type 0
Each Q [] = Unit {0}
Each Q (x ∷ xs) = Q x × Each Q xs

abbrev pub last_or : {A : Type 0} → Option A → List A → Option A
last_or o [] = o
last_or o (x ∷ xs) = last_or (Some x) xs

-- ---- ticks and cells

-- The stretch is the last one of its span.
abbrev pub Last : Stretch → Type 0
Last h = h.cell.index + 1 ≡ 2 ^ h.cell.depth

-- The stretch h goes on where the stretch p ends: in the next span where p is the last of its own, and else in the same.
pub record Next (p h : Stretch) : Type 0 where
  pub after : Last p → (h.from ≡ p.from + p.ticks) × (h.cell.index ≡ 0)
  pub inside : (Last p → ⊥) → (h.from ≡ p.from) × (h.ticks ≡ p.ticks) × ((p.cell.index + 1) * 2 ^ h.cell.depth ≡ h.cell.index * 2 ^ p.cell.depth)

-- The stretch goes on from the one before; the first of all begins the turn.
abbrev pub GoesOn : Option Stretch → Stretch → Type 0
GoesOn None h = (h.from ≡ 0) × (h.cell.index ≡ 0)
GoesOn (Some p) h = Next p h

abbrev pub RunsOn : Option Stretch → List Stretch → Type 0
RunsOn o [] = Unit {0}
RunsOn o (h ∷ hs) = GoesOn o h × RunsOn (Some h) hs

-- No gap and no overlap: the first stretch begins at tick 0, and each other one where the one before ends.
abbrev pub BeginsAfter : Option Stretch → Stretch → Type 0
BeginsAfter None h = begins_at h ≡ 0
BeginsAfter (Some p) h = Abuts p h

abbrev pub Seamless : Option Stretch → List Stretch → Type 0
Seamless o [] = Unit {0}
Seamless o (h ∷ hs) = BeginsAfter o h × Seamless (Some h) hs

-- No span is left open.
abbrev pub Closed : Option Stretch → Type 0
Closed None = Unit {0}
Closed (Some h) = Last h

module _ {P : Type 0} where
  abbrev pub stretches : List (Leg P) → List Stretch
  stretches ls = map (λ l. l.stretch) ls

  -- ---- points

  -- The leg starts where the one before ended.
  abbrev pub Meets : Option (Leg P) → Leg P → Type 0
  Meets None l = Unit {0}
  Meets (Some p) l = l.start ≡ p.end

  abbrev pub Joined : Option (Leg P) → List (Leg P) → Type 0
  Joined o [] = Unit {0}
  Joined o (l ∷ ls) = Meets o l × Joined (Some l) ls

  -- ---- both

  abbrev pub stretch_of : Option (Leg P) → Option Stretch
  stretch_of None = None
  stretch_of (Some l) = Some l.stretch

  -- The leg goes on from the one before, in ticks and cells and in its points.
  abbrev pub Follows : Option (Leg P) → Leg P → Type 0
  Follows o l = GoesOn (stretch_of o) l.stretch × Meets o l

  abbrev pub ClosedAfter : Option (Leg P) → Type 0
  ClosedAfter o = Closed (stretch_of o)

  -- The leg before, if any, has ticks and a cell that a leg may have.
  abbrev pub Standing : Option (Leg P) → Type 0
  Standing None = Unit {0}
  Standing (Some l) = Stands l.stretch

  pub record Chained (ls : List (Leg P)) : Type 0 where
    pub ticks : RunsOn None (stretches ls)
    pub closed : Closed (last_or None (stretches ls))
    pub points : Joined None ls
