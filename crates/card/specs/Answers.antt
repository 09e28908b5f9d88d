-- What the reading calls answer.
use Rattle.std.specs.Prelude.{◌≡◌, ℕ, List, [], ◌∷◌, ◌++◌, Some, None, Ok, Err, vec_items, Option, Result, ◌≢◌, slice_index, slice_index_or}
use Rattle.std.specs.Global.{Vec}
use Rattle.ordinate.specs.Boxes.{box}
use Rattle.ordinate.specs.Flows.{flow}
use Rattle.ordinate.specs.declared.flow.Flow.{Flow}
use Rattle.leg.specs.Values.{Past}
use Rattle.leg.specs.declared.leg.Leg.{Leg}
use Rattle.leg.specs.Reasons.{Reason, because, First}
use Rattle.card.specs.Cards.{Carries, reasons}
use Rattle.card.specs.declared.any.AnyLegs.{AnyLegs}
use Rattle.card.specs.declared.any.AnyLegs.TheVariants.{OfFlow, OfBox}
use Rattle.card.specs.declared.refusal.ReadError.{ReadError}
use Rattle.card.specs.declared.refusal.ReadError.TheVariants.{Refused, NoMemory}
use Rattle.card.specs.declared.refusal.Refusal.{Refusal}
use Rattle.card.specs.declared.refusal.Refusal.TheVariants.{PastLastLeg}

-- Why reading refused the card; where memory ran short, it did not.
abbrev pub read_refusal : {A : Type 0} → Result A ReadError → Option Refusal
read_refusal (Ok x) = None
read_refusal (Err (Refused f)) = Some f
read_refusal (Err NoMemory) = None

-- Why a flow card tells no value at the tick: it is refused, or the tick is past its last leg.
abbrev pub value_reasons : List ℕ → ℕ → List (Reason Refusal)
value_reasons xs a = reasons flow xs ++ (because ((ls : List (Leg Flow)) × Carries flow xs ls × Past ls a) PastLastLeg ∷ [])

-- ---- cards of any kind

-- A card whose first octet is that of flow is read as a flow card, and any other as a box card, which refuses every kind but its own.
pub record AnyRefusal (xs : List ℕ) (why : Option Refusal) : Type 0 where
  pub of_flow : slice_index_or xs 0 0 ≡ flow.code → First (reasons flow xs) why
  pub other : (slice_index xs 0 ≢ flow.code) → First (reasons box xs) why

abbrev pub AnyCarries : List ℕ → AnyLegs → Type 0
AnyCarries xs (OfFlow v) = Carries flow xs (vec_items v)
AnyCarries xs (OfBox v) = Carries box xs (vec_items v)

-- ---- keeping legs

-- One leg more is kept after those kept before, unless memory ran short, now or before.
abbrev pub Kept : {P E : Type 0} → Result (Vec (Leg P)) E → Leg P → Result (Vec (Leg P)) E → Type 0
Kept (Ok before) l (Ok after) = vec_items after ≡ vec_items before ++ (l ∷ [])
Kept (Err short) l (Ok after) = ⊥
Kept before l (Err short) = Unit {0}
