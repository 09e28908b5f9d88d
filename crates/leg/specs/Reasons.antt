-- Why something is refused: of several reasons in order, the first that holds.
use Rattle.std.specs.Prelude.{◌≡◌, ◌⊎◌, List, [], ◌∷◌, Some, None, Ok, Err, Option, Result}

-- Over the refusals E. A reason tells which of them it gives: none where it does not hold.
abbrev pub Reason : Type 0 → Type 1
Reason E = E → Type 0

abbrev pub because : {E : Type 0} → Type 0 → E → Reason E
because holds f g = holds × (g ≡ f)

-- The refusal that the first reason that holds gives, and none where no reason holds.
abbrev pub First : {E : Type 0} → List (Reason E) → Option E → Type 0
First [] a = a ≡ None
First {E} (r ∷ rs) a = ((f : E) × r f × (a ≡ Some f)) ⊎ (((f : E) → r f → ⊥) × First rs a)

-- Why a call refused, if it did.
abbrev pub refusal : {A E : Type 0} → Result A E → Option E
refusal (Ok x) = None
refusal (Err f) = Some f
