-- Why a call is refused: its reasons in order. The first that holds decides, and where none holds the call is accepted.
use Rattle.std.specs.Prelude.{◌≡◌, ℕ, ◌+◌, ◌<◌, Bool, ◌⊎◌, List, [], ◌∷◌, length, pos, ◌+ℤ◌, ◌<ℤ◌, Some, None, Option}
use Rattle.distance.specs.Measures.{Beyond, point}
use Rattle.bezier.specs.Bernstein.{degree_of}
use Rattle.leg.specs.Chains.{Last}
use Rattle.leg.specs.Reasons.{Reason, because}
use Rattle.leg.specs.declared.leg.Cell.{Cell}
use Rattle.leg.specs.declared.leg.Leg.{Leg}
use Rattle.outlet.specs.Outlets.{Contents, room}
use Rattle.curve.specs.Fewest.{Divisible, Fewest}
use Rattle.curve.specs.Legs.{passing}
use Rattle.curve.specs.Refusals.{Outside, work_wanted}
use Rattle.turn.specs.Calls.{Call, lay, strike, seal, Progress, Span, end_tick, last_leg}
use Rattle.turn.specs.Settings.{Full, Setting}
use Rattle.turn.specs.declared.refusal.Refusal.{Refusal}
use Rattle.curve.specs.declared.refusal.CurveRefusal.TheVariants.{PointCount, PointBeyond, ShortWork, TooBent, TooManyLegs}
use Rattle.turn.specs.declared.refusal.Refusal.TheVariants.{Curve, Foreign, Ticks, PastEnd, Apart, Empty, Torn, NotFull}

-- What a call meets, as far as its reasons ask.
pub record Situation (P : Type 0) : Type 1 where
  pub foreign : Type 0  -- the outlet does not hold as many legs as the draft has put
  pub laid : ℕ  -- the laid ticks
  pub end_value : Option P  -- the end value
  pub crowded : ℕ → Type 0  -- so many legs are more than there is room for
  pub empty : Type 0  -- no leg stands
  pub torn : Type 0  -- the last leg does not close a span where the laid ticks end

-- A span goes on from the end value, where there is one.
abbrev pub Continues : {P : Type 0} → Option P → P → Type 0
Continues None p = Unit {0}
Continues (Some q) p = p ≡ q

module _ {P : Type 0} (A : Setting P) where
  abbrev pub first_point : List P → P
  first_point ps = point A.kind ps 0

  abbrev pub last_point : List P → P
  last_point ps = point A.kind ps (degree_of A.kind ps)

  -- The control-point test of a cell of a curve.
  abbrev pub cell_passes : List P → Cell → Bool
  cell_passes ps = passing A.kind A.measure A.rule A.tolerance ps

  abbrev pub reasons : Situation P → Call P → List (Reason Refusal)
  reasons now (lay ps l work) =
      because now.foreign Foreign
      ∷ because (Outside (A.rule.lowest + 1) 9 (length ps)) (Curve PointCount)
      ∷ (λ f. (j : ℕ) × Beyond A.kind A.measure.limit ps j × (f ≡ Curve (PointBeyond j)))
      ∷ because ((l <ℤ pos 1) ⊎ (pos 4096 <ℤ l)) Ticks
      ∷ because (pos A.end <ℤ (pos now.laid +ℤ l)) PastEnd
      ∷ because (¬ (Continues now.end_value (first_point ps))) Apart
      ∷ because (work < work_wanted A.kind A.measure A.rule A.depth ps) (Curve ShortWork)
      ∷ because (¬ (Divisible A.depth (cell_passes ps))) (Curve TooBent)
      ∷ because ((cs : List Cell) × Fewest A.depth (cell_passes ps) cs × now.crowded (length cs)) (Curve TooManyLegs)
      ∷ []
  reasons now strike = because now.foreign Foreign ∷ because now.empty Empty ∷ because now.torn Torn ∷ []
  reasons now seal = because now.foreign Foreign ∷ because (¬ (Full A now.laid)) NotFull ∷ []

  -- What a call meets at any draft and any outlet.
  abbrev pub facing : Progress P → Contents P → Situation P
  facing g c =
      record {
        foreign = ¬ (length c.legs ≡ g.count);
        laid = g.laid;
        end_value = g.end_value;
        crowded = λ n. room c < n;
        empty = g.count ≡ 0;
        torn = (l : Leg P) × (last_leg c.legs ≡ Some l) × ((¬ (l.stretch.from + l.stretch.ticks ≡ g.laid)) ⊎ (¬ (Last l.stretch)));
      }

  -- ---- what a call meets where these calls alone have altered the draft and its outlet since both were empty: by the standing spans

  -- n legs are the fewest for the spans: as many for each as its divisions with the fewest cells have.
  abbrev pub FewestLegs : List (Span P) → ℕ → Type 0
  FewestLegs [] n = n ≡ 0
  FewestLegs (s ∷ ss) n = (cs : List Cell) × Fewest A.depth (cell_passes s.points) cs × (k : ℕ) × FewestLegs ss k × (n ≡ k + length cs)

  -- the point that the spans end at
  abbrev pub end_point : List (Span P) → Option P
  end_point [] = None
  end_point (s ∷ ss) = Some (last_point s.points)

  -- The outlet never holds other legs than the spans', so no call is refused for those.
  abbrev pub after : ℕ → List (Span P) → Situation P
  after capacity ss =
      record {
        foreign = ⊥;
        laid = end_tick ss;
        end_value = end_point ss;
        crowded = λ n. (k : ℕ) × FewestLegs ss k × (capacity < k + n);
        empty = length ss ≡ 0;
        torn = ⊥;
      }
