-- The forms of a plan text, and the text of each.
use Rattle.std.specs.Prelude.{◌≡◌, ◌≢◌, ℕ, List, [], ◌∷◌, map, ℤ, Some, None, Option, codes}
use Rattle.decimal.specs.Numbers.{text_of as number_text, HasFewDigits}
use Rattle.plan_text.specs.declared.form.Kind.{Kind}
use Rattle.plan_text.specs.declared.form.Kind.TheVariants.{Flow, Box}
use Rattle.plan_text.specs.declared.form.Legs.{Legs}
use Rattle.plan_text.specs.declared.form.Legs.TheVariants.{Chord, Matching}
use Rattle.plan_text.specs.declared.form.At.{At}
use Rattle.plan_text.specs.declared.form.At.TheVariants.{One, Two}
use Rattle.plan_text.specs.declared.form.TurnForm.{TurnForm}
use Rattle.plan_text.specs.declared.form.Form.{Form}
use Rattle.plan_text.specs.declared.form.Form.TheVariants.{Turn, Span, Strike, Seal}
use Rattle.plan_text.specs.Texts.{listed, field}

-- A form with the points of a span as a list, as there may be any number of them.
pub data PlanForm : Type 0 where
  turn : TurnForm → PlanForm
  span : ℤ → List At → PlanForm
  strike : PlanForm
  seal : PlanForm

abbrev pub form_of : Form → PlanForm
form_of (Turn t) = turn t
form_of (Span s) = span s.ticks s.points.items
form_of Strike = strike
form_of Seal = seal

-- ---- the text

abbrev pub kind_word : Kind → List ℕ
kind_word Flow = codes "flow"
kind_word Box = codes "box"

abbrev pub legs_word : Legs → List ℕ
legs_word Chord = codes "chord"
legs_word Matching = codes "matching"

abbrev pub at_text : At → List ℕ
at_text (One a) = listed (codes "at") (number_text a ∷ [])
at_text (Two a b) = listed (codes "at") (number_text a ∷ number_text b ∷ [])

abbrev pub number_field : List ℕ → ℤ → List ℕ
number_field name z = field name (number_text z)

-- The text of a form, without a line feed.
abbrev pub text_of : PlanForm → List ℕ
text_of (turn t) =
    listed (codes "turn")
    (field (codes "kind") (kind_word t.kind)
    ∷ field (codes "legs") (legs_word t.legs)
    ∷ number_field (codes "within") t.within
    ∷ number_field (codes "depth") t.depth
    ∷ number_field (codes "ticks") t.ticks
    ∷ [])
text_of (span ticks points) = listed (codes "span") (number_field (codes "ticks") ticks ∷ map at_text points)
text_of strike = listed (codes "strike") []
text_of seal = listed (codes "seal") []

-- ---- what a line says

abbrev pub IsTypedAt : At → Type 0
IsTypedAt (One a) = HasFewDigits a
IsTypedAt (Two a b) = HasFewDigits a × HasFewDigits b

abbrev pub AreTyped : List At → Type 0
AreTyped [] = Unit {0}
AreTyped (p ∷ ps) = IsTypedAt p × AreTyped ps

-- A form that can be typed: each of its numbers has at most ten digits.
abbrev pub IsTyped : PlanForm → Type 0
IsTyped (turn t) = HasFewDigits t.within × HasFewDigits t.depth × HasFewDigits t.ticks
IsTyped (span ticks points) = HasFewDigits ticks × AreTyped points
IsTyped strike = Unit {0}
IsTyped seal = Unit {0}

-- The line is the text of the form; or of no form at all.
abbrev pub Says : List ℕ → Option PlanForm → Type 0
Says line (Some f) = IsTyped f × (line ≡ text_of f)
Says line None = (f : PlanForm) → IsTyped f → line ≢ text_of f
