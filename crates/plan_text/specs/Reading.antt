-- What is read from a line, part by part.
use Rattle.std.specs.Prelude.{◌≡◌, ℕ, ◌<◌, List, [], ◌∷◌, ◌++◌, length, ℤ, Some, None, Option, codes}
use Rattle.decimal.specs.Numbers.{HasFewDigits}
use Rattle.plan_text.specs.declared.lexer.Lexer.{Lexer}
use Rattle.plan_text.specs.declared.form.Kind.{Kind}
use Rattle.plan_text.specs.declared.form.Legs.{Legs}
use Rattle.plan_text.specs.declared.form.At.{At}
use Rattle.plan_text.specs.declared.form.At.TheVariants.{One, Two}
use Rattle.plan_text.specs.declared.form.TurnForm.{TurnForm}
use Rattle.plan_text.specs.declared.form.SpanForm.{SpanForm}
use Rattle.plan_text.specs.declared.head.Head.{Head}
use Rattle.plan_text.specs.declared.head.Head.TheVariants.{Turn, Span, Strike, Seal}
use Rattle.plan_text.specs.Tokens.{Mark, opening, closing, word, number, spelled}
use Rattle.plan_text.specs.Lexing.{left}
use Rattle.plan_text.specs.Forms.{kind_word, legs_word, AreTyped}

-- What is left is spelled by the marks.
abbrev pub Spells : Lexer → List Mark → Type 0
Spells l ms = left l ≡ spelled l.first ms

-- The marks were passed over; or they do not stand here.
pub record PassesOver (marks : List Mark) (l l' : Lexer) : Type 0 where
  pub back : (ms : List Mark) → Spells l' ms → Spells l (marks ++ ms)
  pub on : (ms : List Mark) → Spells l (marks ++ ms) → Spells l' ms
  pub shorter : length (left l') < length (left l)

abbrev pub Passes : List Mark → Lexer → Option Lexer → Type 0
Passes marks l (Some l') = PassesOver marks l l'
Passes marks l None = (ms : List Mark) → Spells l (marks ++ ms) → ⊥

module _ {A : Type 0} (marks : A → List Mark) (Good : A → Type 0) where
  -- A good value was read, by its marks, and no other can be read here.
  pub record ReadsOne (l : Lexer) (a : A) (l' : Lexer) : Type 0 where
    pub good : Good a
    pub back : (ms : List Mark) → Spells l' ms → Spells l (marks a ++ ms)
    pub only : (b : A) (ms : List Mark) → Good b → Spells l (marks b ++ ms) → (b ≡ a) × Spells l' ms
    pub shorter : length (left l') < length (left l)

  -- No good value can be read here.
  abbrev pub ReadsNone : Lexer → Type 0
  ReadsNone l = (b : A) (ms : List Mark) → Good b → Spells l (marks b ++ ms) → ⊥

  -- What was read, and the lexer behind it, if there was any.
  abbrev pub Reads : Lexer → Option (A × Lexer) → Type 0
  Reads l (Some r) = ReadsOne l r.0 r.1
  Reads l None = ReadsNone l

  -- What the rest of the line says, up to the bracket that closes the form; or it says nothing good.
  abbrev pub Completes : Lexer → Option A → Type 0
  Completes l (Some a) = Good a × Spells l (marks a ++ (closing ∷ []))
  Completes l None = (b : A) → Good b → Spells l (marks b ++ (closing ∷ [])) → ⊥

-- ---- the marks of a form's parts

abbrev pub field_marks : List ℕ → Mark → List Mark
field_marks name m = opening ∷ word name ∷ m ∷ closing ∷ []

abbrev pub word_marks : List ℕ → List ℕ → List Mark
word_marks name w = field_marks name (word w)

abbrev pub kind_marks : Kind → List Mark
kind_marks k = word_marks (codes "kind") (kind_word k)

abbrev pub legs_marks : Legs → List Mark
legs_marks g = word_marks (codes "legs") (legs_word g)

abbrev pub number_marks : List ℕ → ℤ → List Mark
number_marks name z = field_marks name (number z)

abbrev pub at_marks : At → List Mark
at_marks (One a) = opening ∷ word (codes "at") ∷ number a ∷ closing ∷ []
at_marks (Two a b) = opening ∷ word (codes "at") ∷ number a ∷ number b ∷ closing ∷ []

abbrev pub ats_marks : List At → List Mark
ats_marks [] = []
ats_marks (p ∷ ps) = at_marks p ++ ats_marks ps

abbrev pub head_word : Head → List ℕ
head_word Turn = codes "turn"
head_word Span = codes "span"
head_word Strike = codes "strike"
head_word Seal = codes "seal"

abbrev pub head_marks : Head → List Mark
head_marks h = opening ∷ word (head_word h) ∷ []

-- what stands in a turn behind its name
abbrev pub turn_marks : TurnForm → List Mark
turn_marks t =
    kind_marks t.kind ++ (legs_marks t.legs ++ (number_marks (codes "within") t.within ++ (number_marks (codes "depth") t.depth ++ number_marks (codes "ticks") t.ticks)))

-- what stands in a span behind its name
abbrev pub span_marks : ℤ × List At → List Mark
span_marks s = number_marks (codes "ticks") s.0 ++ ats_marks s.1

abbrev pub span_of : SpanForm → ℤ × List At
span_of s = (s.ticks, s.points.items)

-- every value is a good one
abbrev pub Any : {A : Type 0} → A → Type 0
Any a = Unit {0}

abbrev pub IsTypedSpan : ℤ × List At → Type 0
IsTypedSpan s = HasFewDigits s.0 × AreTyped s.1

abbrev pub IsTypedTurn : TurnForm → Type 0
IsTypedTurn t = HasFewDigits t.within × HasFewDigits t.depth × HasFewDigits t.ticks
