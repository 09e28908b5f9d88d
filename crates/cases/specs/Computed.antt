-- What the definitions come to, by tests that compute: the answers of calls, the legs of a curve, and what legs tell. `Deciding` (Cases.antt) says that they are the definitions' own.
use Rattle.std.specs.Prelude.{ℕ, suc, ◌+◌, ◌-◌, ◌*◌, Bool, false, ◌&&◌, ◌||◌, not, ◌==◌, cond, is_none, List, [], ◌∷◌, length, ℤ, pos, negsuc, ◌+ℤ◌, neg_ℤ, int_le, int_lt, nat_lt, Some, None, Option}
use Rattle.std.specs.Option.{option_eq, option_map}
use Rattle.std.specs.Ordering.{int_eq}
use Rattle.std.specs.Cmp.Lexicographic.{pointwise}
use Rattle.ordinate.specs.Kinds.{Kind}
use Rattle.bezier.specs.Tests.{every}
use Rattle.leg.specs.Ticks.{begins_at, cells, ends_at}
use Rattle.leg.specs.declared.leg.Cell.{Cell}
use Rattle.leg.specs.declared.leg.Leg.{Leg}
use Rattle.leg.specs.declared.leg.Stretch.{Stretch}
use Rattle.curve.specs.Cells.{halving}
use Rattle.curve.specs.Refusals.{work_wanted}
use Rattle.turn.specs.Calls.{Answer, Call, lay, strike, seal, Span, after_call, answer_of, end_tick, whole_ticks}
use Rattle.turn.specs.Outcomes.{legs_for}
use Rattle.turn.specs.Reasons.{cell_passes, end_point, first_point}
use Rattle.turn.specs.Settings.{Setting}
use Rattle.turn.specs.declared.refusal.Refusal.{Refusal}
use Rattle.curve.specs.declared.refusal.CurveRefusal.TheVariants.{PointCount, PointBeyond, ShortWork, TooBent, TooManyLegs}
use Rattle.turn.specs.declared.refusal.Refusal.TheVariants.{Curve, Ticks, PastEnd, Apart, Empty, NotFull, TickPastEnd, NoLegThere}
use Rattle.planner.specs.Telling.{point_at}

-- ---- whether two are the same

abbrev pub same_stretch : Stretch → Stretch → Bool
same_stretch h i = (h.from == i.from) && (h.ticks == i.ticks) && (h.cell.depth == i.cell.depth) && (h.cell.index == i.cell.index)

module _ {P : Type 0} (K : Kind P) where
  abbrev pub same_point : P → P → Bool
  same_point p q = every (K.dimension - 1) (λ i. int_eq (K.coordinate p i) (K.coordinate q i))

  abbrev pub same_leg : Leg P → Leg P → Bool
  same_leg l m = same_stretch l.stretch m.stretch && (l.degree == m.degree) && same_point l.start m.start && same_point l.middle m.middle && same_point l.end m.end

  abbrev pub same_legs : Option (List (Leg P)) → Option (List (Leg P)) → Bool
  same_legs o p = option_eq (pointwise same_leg) o p

-- ---- the first refusal: a test for each reason, in the order of the reasons

abbrev pub when : Bool → Refusal → Option Refusal
when b f = cond b (Some f) None

abbrev pub first_of : List (Option Refusal) → Option Refusal
first_of [] = None
first_of (None ∷ os) = first_of os
first_of (Some f ∷ os) = Some f

-- ---- calls

abbrev pub added : Option ℕ → Option (List Cell) → Option ℕ
added None o = None
added (Some k) None = None
added (Some k) (Some cs) = Some (k + length cs)

abbrev pub exceeds : ℕ → Option ℕ → Bool
exceeds n None = false
exceeds n (Some k) = nat_lt n k

module _ {P : Type 0} (A : Setting P) where
  -- The cells that the halving of a curve finds.
  abbrev pub found : List P → Option (List Cell)
  found ps = halving A.depth (cell_passes A ps)

  -- The legs of a curve over the first four ticks of the turn; none where it is too bent.
  abbrev pub legs : List P → Option (List (Leg P))
  legs ps = option_map (legs_for A 0 ps 4) (found ps)

  -- The point may be drawn.
  abbrev pub drawn : P → Bool
  drawn p = every (A.kind.dimension - 1) (λ i. int_le (neg_ℤ (pos A.measure.limit)) (A.kind.coordinate p i) && int_le (A.kind.coordinate p i) (pos A.measure.limit))

  -- The first that may not.
  abbrev pub first_beyond : List P → Option ℕ
  first_beyond [] = None
  first_beyond (p ∷ ps) = cond (drawn p) (option_map suc (first_beyond ps)) (Some 0)

  abbrev pub apart : Option P → P → Bool
  apart None p = false
  apart (Some q) p = not (same_point A.kind p q)

  -- How many legs the spans take.
  abbrev pub legs_taken : List (Span P) → Option ℕ
  legs_taken [] = Some 0
  legs_taken (s ∷ ss) = added (legs_taken ss) (found s.points)

  -- The tests of a call where these spans stand, with legs in an outlet of this capacity.
  abbrev pub tests : ℕ → List (Span P) → Call P → List (Option Refusal)
  tests capacity ss (lay ps l work) =
      None
      ∷ when (nat_lt (length ps) (A.rule.lowest + 1) || nat_lt 9 (length ps)) (Curve PointCount)
      ∷ option_map (λ i. Curve (PointBeyond i)) (first_beyond ps)
      ∷ when (int_lt l (pos 1) || int_lt (pos 4096) l) Ticks
      ∷ when (int_lt (pos A.end) (pos (end_tick ss) +ℤ l)) PastEnd
      ∷ when (apart (end_point A ss) (first_point A ps)) Apart
      ∷ when (nat_lt work (work_wanted A.kind A.measure A.rule A.depth ps)) (Curve ShortWork)
      ∷ when (is_none (found ps)) (Curve TooBent)
      ∷ when (exceeds capacity (added (legs_taken ss) (found ps))) (Curve TooManyLegs)
      ∷ []
  tests capacity ss strike = None ∷ when (length ss == 0) Empty ∷ None ∷ []
  tests capacity ss seal = None ∷ when (nat_lt (end_tick ss) A.end) NotFull ∷ []

  -- The answers of calls in order, where these spans stand before the first.
  abbrev pub answers : ℕ → List (Span P) → List (Call P) → List Answer
  answers capacity ss [] = []
  answers capacity ss (c ∷ calls) =
      answer_of (first_of (tests capacity ss c)) ∷ answers capacity (after_call c (answer_of (first_of (tests capacity ss c))) ss) calls

-- ---- what legs tell

abbrev pub covers : Stretch → ℤ → Bool
covers h (pos a) = int_le (pos (begins_at h)) (pos (cells h * a)) && int_le (pos (cells h * a)) (pos (ends_at h))
covers h (negsuc a) = false

module _ {P : Type 0} (K : Kind P) where
  -- What the first leg that covers the tick tells there.
  abbrev pub first_told : List (Leg P) → ℤ → Option P
  first_told [] a = None
  first_told (l ∷ ls) a = cond (covers l.stretch a) (Some (point_at K l (whole_ticks a))) (first_told ls a)

  -- The tests of telling a turn with this end and these legs.
  abbrev pub tell_tests : ℕ → List (Leg P) → ℤ → List (Option Refusal)
  tell_tests end ls a = None ∷ when (int_lt (pos end) a) TickPastEnd ∷ when (is_none (first_told ls a)) NoLegThere ∷ []
