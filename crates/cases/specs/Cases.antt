-- Cases worked by hand: short turns, and what the definitions have to come to on them.
use Rattle.std.specs.Prelude.{◌≡◌, ℕ, Bool, false, ◌&&◌, ◌==◌, List, [], ◌∷◌, map, length, ℤ, pos, neg_ℤ, Some, None, Option}
use Rattle.std.specs.Bool.{Decides}
use Rattle.std.specs.Option.{option_eq, option_map}
use Rattle.std.specs.Cmp.Lexicographic.{pointwise}
use Rattle.ordinate.specs.Kinds.{Lawful}
use Rattle.ordinate.specs.Flows.{flow}
use Rattle.ordinate.specs.Boxes.{box}
use Rattle.ordinate.specs.declared.flow.Flow.{Flow}
use Rattle.ordinate.specs.declared.branches.Branches.{Branches}
use Rattle.distance.specs.Measures.{Reaches, halfway}
use Rattle.distance.specs.Flows.{flow_measure}
use Rattle.distance.specs.Boxes.{box_measure}
use Rattle.bezier.specs.Reductions.{Rule, chord, matching}
use Rattle.leg.specs.Chains.{Each}
use Rattle.leg.specs.Legs.{IsLeg}
use Rattle.leg.specs.Reasons.{First, refusal}
use Rattle.leg.specs.declared.leg.Leg.{Leg}
use Rattle.outlet.specs.Outlets.{Contents}
use Rattle.curve.specs.Cells.{cell}
use Rattle.turn.specs.Calls.{Call, lay, seal, strike}
use Rattle.turn.specs.Refusals.{row}
use Rattle.turn.specs.Runs.{recorded}
use Rattle.turn.specs.Settings.{Setting}
use Rattle.turn.specs.Whole.{Answered}
use Rattle.planner.specs.Telling.{FirstTells, tell_reasons}
use Rattle.planner.specs.declared.sealed.Sealed.{Sealed}
use Rattle.cases.specs.Computed.{answers, drawn, first_of, first_told, legs, same_legs, same_point, tell_tests}

-- ---- cases

-- A refusal by its number, with the point that it names; none where the call is accepted.
abbrev pub Row : Type 0
Row = Option (ℕ × Option ℕ)

abbrev pub same_rows : Row → Row → Bool
same_rows o p = option_eq (λ x y. (x.0 == y.0) && option_eq (λ i j. i == j) x.1 y.1) o p

-- What was worked by hand of the turn of one curve, which is drawn over the first four ticks of the turn.
pub data Fact (P : Type 0) : Type 0 where
  -- the answers of calls, over an empty outlet with room for four legs
  answered : List (Call P) → List Row → Fact P
  -- the legs of the curve; none where it is too bent
  has_legs : Option (List (Leg P)) → Fact P
  -- what they tell at the ticks 0 to 4
  tells : List P → Fact P
  -- why they tell nothing at a tick
  untold : ℤ → Row → Fact P

pub data Case : Type 0 where
  flow_turn : Setting Flow → List Flow → Fact Flow → Case
  box_turn : Setting Branches → List Branches → Fact Branches → Case
  -- the halving of two coordinates
  half_way : ℤ → ℤ → ℤ → Case

module _ {P : Type 0} (A : Setting P) where
  abbrev pub told : Option (List (Leg P)) → ℤ → Option P
  told None a = None
  told (Some ls) a = first_told A.kind ls a

  abbrev pub tells_nothing : Option (List (Leg P)) → ℤ → Row → Bool
  tells_nothing None a r = false
  tells_nothing (Some ls) a r = same_rows (option_map row (first_of (tell_tests A.kind A.end ls a))) r

  abbrev pub fact_holds : List P → Fact P → Bool
  fact_holds ps (answered calls rows) = pointwise same_rows (map (λ a. option_map row (refusal a)) (answers A 4 [] calls)) rows
  fact_holds ps (has_legs o) = same_legs A.kind (legs A ps) o
  fact_holds ps (tells qs) = pointwise (option_eq (same_point A.kind)) (map (told (legs A ps)) (pos 0 ∷ pos 1 ∷ pos 2 ∷ pos 3 ∷ pos 4 ∷ [])) (map Some qs)
  fact_holds ps (untold a r) = tells_nothing (legs A ps) a r

abbrev pub holds : Case → Bool
holds (flow_turn A ps f) = fact_holds A ps f
holds (box_turn A ps f) = fact_holds A ps f
holds (half_way a b answer) = same_point flow (halfway flow (record { value = a }) (record { value = b })) (record { value = answer })

-- ---- the turns: their tolerance and depth, and the end, tick 4

abbrev pub flow_by : Rule Flow → ℕ → ℕ → Setting Flow
flow_by R t D = record { kind = flow; measure = flow_measure; rule = R; tolerance = t; depth = D; end = 4 }

abbrev pub box_by : Rule Branches → ℕ → ℕ → Setting Branches
box_by R t D = record { kind = box; measure = box_measure; rule = R; tolerance = t; depth = D; end = 4 }

abbrev pub flows : List ℤ → List Flow
flows zs = map (λ z. record { value = z }) zs

abbrev pub naturals : List ℕ → List Flow
naturals ns = map (λ n. record { value = pos n }) ns

abbrev pub branches : ℤ → ℤ → Branches
branches a b = record { left = a; right = b }

abbrev pub leg : {P : Type 0} → ℕ → ℕ → ℕ → P → P → P → Leg P
leg d k m p q z = record { stretch = record { from = 0; ticks = 4; cell = cell d k }; degree = m; start = p; middle = q; end = z }

-- The leg over the cell (d, k), straight from p to z, and the quadratic one from p by q to z.
abbrev pub straight : ℕ → ℕ → ℤ → ℤ → Leg Flow
straight d k p z = leg d k 1 (record { value = p }) (record { value = p }) (record { value = z })

abbrev pub quadratic : ℕ → ℕ → ℤ → ℤ → ℤ → Leg Flow
quadratic d k p q z = leg d k 2 (record { value = p }) (record { value = q }) (record { value = z })

-- The curve over four ticks, with enough work points.
abbrev pub laid : {P : Type 0} → List P → Call P
laid ps = lay ps (pos 4) 99

abbrev pub refused : ℕ → Row
refused n = Some (n, None)

-- Lay and seal are accepted.
abbrev pub both_accepted : {P : Type 0} → List P → Fact P
both_accepted ps = answered (laid ps ∷ seal ∷ []) (None ∷ None ∷ [])

abbrev pub rise : List Flow
rise = naturals (0 ∷ 0 ∷ 0 ∷ 64 ∷ [])

abbrev pub hill : List Flow
hill = naturals (0 ∷ 64 ∷ 0 ∷ [])

abbrev pub ridge : List Flow
ridge = naturals (0 ∷ 64 ∷ 0 ∷ 0 ∷ [])

abbrev pub step : List Flow
step = naturals (0 ∷ 0 ∷ 0 ∷ 1 ∷ [])

-- Both branches rise to 64 and fall again.
abbrev pub box_hill : List Branches
box_hill = branches (pos 0) (pos 0) ∷ branches (pos 64) (pos 64) ∷ branches (pos 0) (pos 0) ∷ []

abbrev pub at_limit : List Flow
at_limit = naturals (0 ∷ 2147483648 ∷ [])

abbrev pub past_limit : List Flow
past_limit = naturals (0 ∷ 2147483649 ∷ [])

-- ---- the cases

abbrev pub worked : List Case
worked =
    flow_turn (flow_by (matching flow) 10 1) rise (both_accepted rise)
    ∷ flow_turn (flow_by (matching flow) 10 1) rise (has_legs (Some (quadratic 1 0 (pos 0) (neg_ℤ (pos 2)) (pos 8) ∷ quadratic 1 1 (pos 8) (pos 18) (pos 64) ∷ [])))
    ∷ flow_turn (flow_by (matching flow) 10 1) rise (tells (naturals (0 ∷ 1 ∷ 8 ∷ 27 ∷ 64 ∷ [])))
    ∷ flow_turn (flow_by (matching flow) 10 1) rise (untold (pos 5) (refused 16))
    ∷ flow_turn (flow_by (matching flow) 10 1) rise (untold (neg_ℤ (pos 1)) (refused 17))
    -- eight work points are enough, and seven are not
    ∷ flow_turn (flow_by (matching flow) 10 1) rise (answered (lay rise (pos 4) 8 ∷ []) (None ∷ []))
    ∷ flow_turn (flow_by (matching flow) 10 1) rise (answered (lay rise (pos 4) 7 ∷ []) (refused 10 ∷ []))
    -- with one grain more the whole curve is one leg
    ∷ flow_turn (flow_by (matching flow) 11 1) rise (both_accepted rise)
    ∷ flow_turn (flow_by (matching flow) 11 1) rise (has_legs (Some (quadratic 0 0 (pos 0) (neg_ℤ (pos 16)) (pos 64) ∷ [])))
    ∷ flow_turn (flow_by (matching flow) 11 1) rise (tells (flows (pos 0 ∷ neg_ℤ (pos 2) ∷ pos 8 ∷ pos 30 ∷ pos 64 ∷ [])))
    ∷ flow_turn (flow_by (chord flow) 17 1) hill (both_accepted hill)
    ∷ flow_turn (flow_by (chord flow) 17 1) hill (has_legs (Some (straight 1 0 (pos 0) (pos 32) ∷ straight 1 1 (pos 32) (pos 0) ∷ [])))
    ∷ flow_turn (flow_by (chord flow) 17 1) hill (tells (naturals (0 ∷ 16 ∷ 32 ∷ 16 ∷ 0 ∷ [])))
    -- with one grain less it is too bent, so nothing is laid, and one depth more helps
    ∷ flow_turn (flow_by (chord flow) 16 1) hill (answered (laid hill ∷ strike ∷ seal ∷ []) (refused 11 ∷ refused 13 ∷ refused 15 ∷ []))
    ∷ flow_turn (flow_by (chord flow) 16 1) hill (has_legs None)
    ∷ flow_turn (flow_by (chord flow) 16 2) hill (both_accepted hill)
    ∷ flow_turn (flow_by (chord flow) 16 2) hill (has_legs (Some (straight 2 0 (pos 0) (pos 24) ∷ straight 2 1 (pos 24) (pos 32) ∷ straight 2 2 (pos 32) (pos 24) ∷ straight 2 3 (pos 24) (pos 0) ∷ [])))
    ∷ flow_turn (flow_by (chord flow) 16 2) hill (tells (naturals (0 ∷ 24 ∷ 32 ∷ 24 ∷ 0 ∷ [])))
    -- a half that passes is not halved
    ∷ flow_turn (flow_by (chord flow) 17 2) ridge (both_accepted ridge)
    ∷ flow_turn (flow_by (chord flow) 17 2) ridge (has_legs (Some (straight 2 0 (pos 0) (pos 27) ∷ straight 2 1 (pos 27) (pos 24) ∷ straight 1 1 (pos 24) (pos 0) ∷ [])))
    ∷ flow_turn (flow_by (chord flow) 17 2) ridge (tells (naturals (0 ∷ 27 ∷ 24 ∷ 12 ∷ 0 ∷ [])))
    -- a quadratic curve is its own leg
    ∷ flow_turn (flow_by (matching flow) 1 0) hill (both_accepted hill)
    ∷ flow_turn (flow_by (matching flow) 1 0) hill (has_legs (Some (quadratic 0 0 (pos 0) (pos 64) (pos 0) ∷ [])))
    ∷ flow_turn (flow_by (matching flow) 1 0) hill (tells (naturals (0 ∷ 24 ∷ 32 ∷ 24 ∷ 0 ∷ [])))
    -- the middle is -1/4 before it is rounded
    ∷ flow_turn (flow_by (matching flow) 1 0) step (both_accepted step)
    ∷ flow_turn (flow_by (matching flow) 1 0) step (has_legs (Some (quadratic 0 0 (pos 0) (neg_ℤ (pos 1)) (pos 1) ∷ [])))
    ∷ flow_turn (flow_by (matching flow) 1 0) step (tells (flows (pos 0 ∷ neg_ℤ (pos 1) ∷ neg_ℤ (pos 1) ∷ pos 0 ∷ pos 1 ∷ [])))
    -- a box is measured where both branches flow together
    ∷ box_turn (box_by (chord box) 128 0) box_hill (both_accepted box_hill)
    ∷ box_turn (box_by (chord box) 128 0) box_hill (has_legs (Some (leg 0 0 1 (branches (pos 0) (pos 0)) (branches (pos 0) (pos 0)) (branches (pos 0) (pos 0)) ∷ [])))
    ∷ box_turn (box_by (chord box) 128 0) box_hill (tells (branches (pos 0) (pos 0) ∷ branches (pos 0) (pos 0) ∷ branches (pos 0) (pos 0) ∷ branches (pos 0) (pos 0) ∷ branches (pos 0) (pos 0) ∷ []))
    ∷ box_turn (box_by (chord box) 127 0) box_hill (answered (laid box_hill ∷ seal ∷ []) (refused 11 ∷ refused 15 ∷ []))
    ∷ half_way (neg_ℤ (pos 1)) (pos 0) (neg_ℤ (pos 1))
    ∷ half_way (pos 0) (pos 1) (pos 0)
    -- a point at the limit may be drawn, and the next one is named
    ∷ flow_turn (flow_by (chord flow) 1 0) at_limit (both_accepted at_limit)
    ∷ flow_turn (flow_by (chord flow) 1 0) at_limit (has_legs (Some (straight 0 0 (pos 0) (pos 2147483648) ∷ [])))
    ∷ flow_turn (flow_by (chord flow) 1 0) at_limit (tells (naturals (0 ∷ 536870912 ∷ 1073741824 ∷ 1610612736 ∷ 2147483648 ∷ [])))
    ∷ flow_turn (flow_by (chord flow) 1 0) past_limit (answered (laid past_limit ∷ seal ∷ []) (Some (6, Some 1) ∷ refused 15 ∷ []))
    ∷ []

-- ---- what the tests decide: facts that the contracts speak of, over the points P and the program's type R of a reduction

pub record Deciding (P R : Type 0) : Type 0 where
  -- the answers are those that the promise about lists of calls wants
  pub answering : (A : Setting P) → Lawful A.kind → (capacity : ℕ) (calls : List (Call P)) → Answered A capacity (recorded [] calls (answers A capacity [] calls))
  pub same_legs : (A : Setting P) → Lawful A.kind → (o p : Option (List (Leg P))) → Decides (same_legs A.kind o p) (o ≡ p)
  pub same_point : (A : Setting P) → Lawful A.kind → (p q : P) → Decides (same_point A.kind p q) (p ≡ q)
  pub drawing : (A : Setting P) → Lawful A.kind → (p : P) → Decides (drawn A p) (Reaches A.kind A.measure.limit p)
  -- what legs tell is what the first that covers the tick does
  pub telling : (A : Setting P) (ls : List (Leg P)) (a : ℤ) → Each (IsLeg A.kind) ls → FirstTells A.kind ls a (first_told A.kind ls a)
  pub telling_nothing : (A : Setting P) (s : Sealed P R) (c : Contents P) (a : ℤ) → length c.legs ≡ s.count → Each (IsLeg A.kind) c.legs
      → First (tell_reasons A.kind s c a) (first_of (tell_tests A.kind s.end c.legs a))
