-- What the calls for C answer.
use Rattle.std.specs.Prelude.{◌≡◌, ℕ, ◌<◌, List, ◌∷◌, ◌++◌, length, drop, Some, None, Option, ◌≢◌}
use Rattle.ordinate.specs.Octets.{octets_of}
use Rattle.ordinate.specs.Flows.{flow}
use Rattle.ordinate.specs.declared.flow.Flow.{Flow}
use Rattle.leg.specs.Values.{FirstTells}
use Rattle.leg.specs.declared.leg.Leg.{Leg}
use Rattle.leg.specs.Reasons.{Reason, because, First}
use Rattle.card.specs.Refusals.{row}
use Rattle.card.specs.Cards.{Carries}
use Rattle.card.specs.Answers.{value_reasons, AnyRefusal}
use Rattle.card.specs.declared.refusal.Refusal.{Refusal}
use Rattle.card.specs.declared.refusal.Refusal.TheVariants.{ShortResult}

-- What a call answers: 0, or the number of the refusal.
abbrev pub answered : Option Refusal → ℕ
answered None = 0
answered (Some f) = (row f).0

-- Why no value is written to a result of so many octets: a short one is refused first of all.
abbrev pub told_reasons : List ℕ → ℕ → ℕ → List (Reason Refusal)
told_reasons xs a room = because (room < 8) ShortResult ∷ value_reasons xs a

-- The first octets of the result become the value that the card tells at the tick, and the others stay.
pub record Told (xs : List ℕ) (a : ℕ) (before after : List ℕ) : Type 0 where
  pub legs : List (Leg Flow)
  pub carried : Carries flow xs legs
  pub value : Flow
  pub tells : FirstTells legs a (Some value)
  pub written : after ≡ octets_of value.value ++ drop 8 before

-- The answer r of the call for C, and the result before and after it.
pub record ValueCall (xs : List ℕ) (a : ℕ) (before : List ℕ) (r : ℕ) (after : List ℕ) : Type 0 where
  pub why : Option Refusal
  pub first : First (told_reasons xs a (length before)) why
  pub answer : r ≡ answered why
  pub told : r ≡ 0 → Told xs a before after
  pub untouched : (r ≢ 0) → after ≡ before

-- The answer r of the call for C.
pub record CheckCall (xs : List ℕ) (r : ℕ) : Type 0 where
  pub why : Option Refusal
  pub first : AnyRefusal xs why
  pub answer : r ≡ answered why
