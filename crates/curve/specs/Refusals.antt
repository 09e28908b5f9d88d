-- Why a curve is refused.
use Rattle.std.specs.Prelude.{◌≡◌, ℕ, ◌+◌, ◌*◌, ◌<◌, ◌≤◌, ◌⊎◌, List, [], ◌∷◌, ◌++◌, map, length, drop, replicate, codes, decimal, ℤ, pos, ◌<ℤ◌, Some, None, Ok, Err, Option, Result}
use Rattle.ordinate.specs.Kinds.{Kind}
use Rattle.distance.specs.Measures.{Beyond, Inside, Measure, blank}
use Rattle.bezier.specs.Reductions.{Rule}
use Rattle.leg.specs.Reasons.{Reason, because}
use Rattle.leg.specs.declared.leg.Cell.{Cell}
use Rattle.outlet.specs.Outlets.{Contents, with_legs}
use Rattle.curve.specs.Fewest.{Divisible, Fewest}
use Rattle.curve.specs.Legs.{Fitted, leg_of, passing}
use Rattle.curve.specs.declared.refusal.CurveRefusal.{CurveRefusal}
use Rattle.curve.specs.declared.refusal.CurveRefusal.TheVariants.{Tolerance, Depth, PointCount, PointBeyond, ShortWork, TooBent, TooManyLegs}
use Rattle.curve.specs.declared.tally.Tally.{Tally}

-- Each refusal's number, and the point that it names.
abbrev pub row : CurveRefusal → ℕ × Option ℕ
row Tolerance = (1, None)
row Depth = (2, None)
row PointCount = (5, None)
row (PointBeyond j) = (6, Some j)
row ShortWork = (10, None)
row TooBent = (11, None)
row TooManyLegs = (12, None)

-- In words, why the curve is refused.
abbrev pub words : CurveRefusal → List ℕ
words Tolerance = codes "the tolerance is not from 1 to the limit"
words Depth = codes "the depth is not from 0 to 10"
words PointCount = codes "too few points for the reduction, or more than nine"
words (PointBeyond j) = codes "point " ++ (decimal j ++ codes " lies beyond the limit")
words ShortWork = codes "too few work points"
words TooBent = codes "the curve is too bent"
words TooManyLegs = codes "more legs than the outlet has room for"

-- How a refusal is printed: with its number and the words.
abbrev pub printed : CurveRefusal → List ℕ
printed f = codes "refused " ++ (decimal (row f).0 ++ (codes ": " ++ words f))

-- ---- the reasons

abbrev pub Outside : ℕ → ℕ → ℕ → Type 0
Outside low high n = (n < low) ⊎ (high < n)

-- The tolerance is agreed from 1 to the limit, the depth from 0 to 10.
abbrev pub accuracy_reasons : Measure → ℤ → ℤ → List (Reason CurveRefusal)
accuracy_reasons M t D =
    because ((t <ℤ pos 1) ⊎ (pos M.limit <ℤ t)) Tolerance
    ∷ because ((D <ℤ pos 0) ⊎ (pos 10 <ℤ D)) Depth
    ∷ []

module _ {P : Type 0} (K : Kind P) (M : Measure) (R : Rule P) where
  -- A reduction takes curves from its lowest degree up to degree 8, with points that may be drawn.
  abbrev pub point_reasons : List P → List (Reason CurveRefusal)
  point_reasons ps =
      because (Outside (R.lowest + 1) 9 (length ps)) PointCount
      ∷ (λ f. (j : ℕ) × Beyond K M.limit ps j × (f ≡ PointBeyond j))
      ∷ []

  -- A curve that may be drawn.
  pub record Drawable (ps : List P) : Type 0 where
    pub enough : R.lowest < length ps
    pub few : length ps ≤ 9
    pub inside : Inside K M.limit ps

  -- W: a row of n + 1 work points for each depth
  abbrev pub work_wanted : ℕ → List P → ℕ
  work_wanted D ps = (D + 1) * length ps

  -- Why the halving is not begun: the points, and then too few work points.
  abbrev pub early_reasons : ℕ → List P → ℕ → List (Reason CurveRefusal)
  early_reasons D ps work = point_reasons ps ++ (because (work < work_wanted D ps) ShortWork ∷ [])

  -- Why a curve has no legs to count: it has no division.
  abbrev pub bent : ℕ → ℕ → List P → Reason CurveRefusal
  bent t D ps = because (¬ (Divisible D (passing K M R t ps))) TooBent

  -- Why its legs are not put: the fewest legs are more than there is room for.
  abbrev pub crowded : ℕ → ℕ → List P → ℕ → Reason CurveRefusal
  crowded t D ps free = because ((cs : List Cell) × Fewest D (passing K M R t ps) cs × (free < length cs)) TooManyLegs

  -- Why a curve is not counted, and why its legs are not put: the first that holds.
  abbrev pub count_reasons : ℕ → ℕ → List P → ℕ → List (Reason CurveRefusal)
  count_reasons t D ps work = early_reasons D ps work ++ (bent t D ps ∷ [])

  abbrev pub put_reasons : ℕ → ℕ → List P → ℕ → ℕ → List (Reason CurveRefusal)
  put_reasons t D ps work free = early_reasons D ps work ++ (bent t D ps ∷ crowded t D ps free ∷ [])

  -- ---- what an accepted curve is answered

  -- The legs are counted, and the cells that were tested: one less than twice as many.
  abbrev pub Counted : ℕ → ℕ → List P → Tally → Type 0
  Counted t D ps y = (cs : List Cell) × Fitted K M R t D ps cs × (y.legs ≡ length cs) × (y.cells + 1 ≡ 2 * length cs)

  -- ---- what is left

  -- Once the halving is begun, the first W work points end at zero; the others, and all of them where it is not begun, stay.
  abbrev pub work_after : {A : Type 0} → Result A CurveRefusal → ℕ → List P → List P
  work_after (Ok x) W work = replicate W (blank K) ++ drop W work
  work_after (Err TooBent) W work = replicate W (blank K) ++ drop W work
  work_after (Err TooManyLegs) W work = replicate W (blank K) ++ drop W work
  work_after (Err Tolerance) W work = work
  work_after (Err Depth) W work = work
  work_after (Err PointCount) W work = work
  work_after (Err (PointBeyond j)) W work = work
  work_after (Err ShortWork) W work = work

  -- An accepted curve's legs are put, in order; a refused one puts nothing.
  abbrev pub PutLegs : ℕ → ℕ → ℕ → ℕ → List P → Result Tally CurveRefusal → Contents P → Contents P → Type 0
  PutLegs t D S L ps (Ok y) c c' =
      (cs : List Cell) × Fitted K M R t D ps cs × (y.legs ≡ length cs) × (y.cells + 1 ≡ 2 * length cs) × (c' ≡ with_legs c (map (leg_of K M R S L ps) cs))
  PutLegs t D S L ps (Err f) c c' = c' ≡ c
