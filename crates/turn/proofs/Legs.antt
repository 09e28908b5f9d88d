-- Every leg of a whole turn is one that a leg may be.
use Rattle.std.proofs.Common.{◌≡◌, ℕ, ◌+◌, ◌≤◌, List, [], ◌∷◌, length, sym, subst, arith}
use Rattle.distance.specs.Measures.{point}
use Rattle.bezier.specs.Bernstein.{degree_of}
use Rattle.bezier.specs.Rounds.{cell_points}
use Rattle.bezier.proofs.Parts.{inside_cell, length_cell}
use Rattle.leg.specs.Chains.{Each}
use Rattle.leg.specs.Legs.{IsLeg}
use Rattle.leg.specs.declared.leg.Cell.{Cell}
use Rattle.leg.specs.declared.leg.Leg.{Leg}
use Rattle.outlet.specs.Outlets.{Contents}
use Rattle.curve.specs.Cells.{Allowed}
use Rattle.curve.specs.Legs.{leg_of}
use Rattle.curve.proofs.Fitting.{in_range, one_or_two, straight, wide}
use Rattle.curve.proofs.Pieces.{each_append}
use Rattle.turn.specs.Calls.{History, Progress, Span, end_tick, standing}
use Rattle.turn.specs.Outcomes.{legs_for}
use Rattle.turn.specs.Reasons.{cell_passes}
use Rattle.turn.specs.Settings.{LawfulSetting, Setting}
use Rattle.turn.specs.Whole.{Whole}
use Rattle.turn.proofs.Kept.{Drawn, drawn, stand}
use Rattle.turn.proofs.Standing.{Stand}

module _ {P : Type 0} (A : Setting P) (law : LawfulSetting A) where
  module _ (shallow : A.depth ≤ 10) (short : A.end ≤ 65536) where
    leg_is : (S : ℕ) (s : Span P) → Drawn A s → S + s.ticks ≤ A.end → (c : Cell) → Allowed A.depth (cell_passes A s.points) c
        → IsLeg A.kind (leg_of A.kind A.measure A.rule S s.ticks s.points c)
    leg_is S s d t c w =
        let qs = cell_points A.kind c.depth c.index s.points in
        let e : length qs ≡ length s.points = length_cell A.kind c.depth c.index s.points in
        let inside = inside_cell A.kind law.kind A.measure.limit c.depth c.index s.points d.inside in
        let low = d.enough in
        let high = d.few in
        let some = d.some in
        let brief = d.brief in
        let deep = w.shallow in
        record {
          place = record { begins = omega arith; lasts = some; brief = brief; ends = omega arith; shallow = omega arith; inside = w.inside };
          one_or_two = one_or_two A.rule.degree;
          straight = λ q. law.rule.straight (straight A.rule.degree q) qs;
          start_in = wide A.kind A.measure law.measure (point A.kind qs 0) (inside 0 (omega arith));
          middle_in = in_range A.kind A.measure law.measure (A.rule.middle qs) (law.rule.near qs (omega arith) (omega arith) inside);
          end_in = wide A.kind A.measure law.measure (point A.kind qs (degree_of A.kind qs)) (inside (degree_of A.kind qs) (omega arith));
        }

    legs_are : (S : ℕ) (s : Span P) → Drawn A s → S + s.ticks ≤ A.end → (cs : List Cell) → Each (Allowed A.depth (cell_passes A s.points)) cs
        → Each (IsLeg A.kind) (legs_for A S s.points s.ticks cs)
    legs_are S s d t [] w = tt
    legs_are S s d t (c ∷ cs) w = (leg_is S s d t c w.0, legs_are S s d t cs w.1)

    stand_legs : (ss : List (Span P)) (ls : List (Leg P)) → Each (Drawn A) ss → end_tick ss ≤ A.end → Stand A ss ls → Each (IsLeg A.kind) ls
    stand_legs [] ls d t h = subst (Each (IsLeg A.kind)) (sym h) tt
    stand_legs (s ∷ ss) ls d t h =
        let o = h.4.legs in
        subst (Each (IsLeg A.kind)) (sym h.2)
        (each_append (IsLeg A.kind) h.0 h.1 (stand_legs ss h.0 d.1 (omega arith) h.3)
        (subst (Each (IsLeg A.kind)) (sym o.made) (legs_are (end_tick ss) s d.0 t o.cells o.fewest.division.allowed)))

    pub whole_legs : (h : History P) (g : Progress P) (c : Contents P) → Whole A h g c → Each (IsLeg A.kind) c.legs
    whole_legs h g c w = stand_legs (standing h) c.legs (drawn A c.capacity h w.answered) w.in_time (stand A h g c w)
