-- Which numbers and points a leg may have.
use Rattle.std.specs.Prelude.{◌≡◌, ◌+◌, ◌^◌, ◌<◌, ◌≤◌, ◌⊎◌}
use Rattle.ordinate.specs.Kinds.{Kind, InRange}
use Rattle.leg.specs.declared.leg.Leg.{Leg}
use Rattle.leg.specs.declared.leg.Stretch.{Stretch}

pub record Stands (h : Stretch) : Type 0 where
  pub begins : h.from ≤ 65535
  pub lasts : 1 ≤ h.ticks
  pub brief : h.ticks ≤ 4096
  pub ends : h.from + h.ticks ≤ 65536
  pub shallow : h.cell.depth ≤ 10
  pub inside : h.cell.index < 2 ^ h.cell.depth

pub record IsLeg {P : Type 0} (K : Kind P) (l : Leg P) : Type 0 where
  pub place : Stands l.stretch
  pub one_or_two : (l.degree ≡ 1) ⊎ (l.degree ≡ 2)
  pub straight : l.degree ≡ 1 → l.middle ≡ l.start
  pub start_in : InRange K l.start
  pub middle_in : InRange K l.middle
  pub end_in : InRange K l.end
