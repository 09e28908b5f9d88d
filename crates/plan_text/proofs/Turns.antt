-- A turn, read item by item.
use Rattle.std.proofs.Common.{◌≡◌, List, [], ◌∷◌, ◌++◌, ℤ, codes, refl}
use Rattle.decimal.specs.Numbers.{HasFewDigits}
use Rattle.plan_text.specs.declared.lexer.Lexer.{Lexer}
use Rattle.plan_text.specs.declared.form.Kind.{Kind}
use Rattle.plan_text.specs.declared.form.Legs.{Legs}
use Rattle.plan_text.specs.declared.form.TurnForm.{TurnForm}
use Rattle.plan_text.specs.Tokens.{Mark, closing}
use Rattle.plan_text.specs.Reading.{Spells, ReadsOne, ReadsNone, Any, kind_marks, legs_marks, number_marks, turn_marks, IsTypedTurn}
use Rattle.plan_text.proofs.Parts.{SoFar, begin_take, none_take, take, stuck_take, closed, not_closed}

abbrev from_ticks : TurnForm → List Mark
from_ticks t = number_marks (codes "ticks") t.ticks

abbrev from_depth : TurnForm → List Mark
from_depth t = number_marks (codes "depth") t.depth ++ from_ticks t

abbrev from_within : TurnForm → List Mark
from_within t = number_marks (codes "within") t.within ++ from_depth t

abbrev from_legs : TurnForm → List Mark
from_legs t = legs_marks t.legs ++ from_within t

-- no turn stands at l
abbrev pub NoTurn : Lexer → Type 0
NoTurn l = ReadsNone turn_marks IsTypedTurn l

pub no_kind : (l : Lexer) → ReadsNone kind_marks Any l → NoTurn l
no_kind l n = none_take turn_marks IsTypedTurn l kind_marks Any (λ t. t.kind) from_legs (λ t. refl) (λ t g. tt) n

module _ (l : Lexer) (kind : Kind) (k₁ : Lexer) (a : ReadsOne kind_marks Any l kind k₁) where
  abbrev read₁ : List Mark
  read₁ = kind_marks kind

  abbrev Known₁ : TurnForm → Type 0
  Known₁ t = t.kind ≡ kind

  sofar₁ : SoFar turn_marks IsTypedTurn l k₁ read₁ Known₁ from_legs
  sofar₁ = begin_take turn_marks IsTypedTurn l kind_marks Any (λ t. t.kind) from_legs (λ t. refl) (λ t g. tt) k₁ kind a

  pub no_legs : ReadsNone legs_marks Any k₁ → NoTurn l
  no_legs n = stuck_take turn_marks IsTypedTurn l k₁ read₁ Known₁ from_legs sofar₁ legs_marks Any (λ t. t.legs) from_within (λ t. refl) (λ t g. tt) n

  module _ (legs : Legs) (k₂ : Lexer) (b : ReadsOne legs_marks Any k₁ legs k₂) where
    abbrev read₂ : List Mark
    read₂ = read₁ ++ legs_marks legs

    abbrev Known₂ : TurnForm → Type 0
    Known₂ t = Known₁ t × (t.legs ≡ legs)

    sofar₂ : SoFar turn_marks IsTypedTurn l k₂ read₂ Known₂ from_within
    sofar₂ = take turn_marks IsTypedTurn l k₁ read₁ Known₁ from_legs sofar₁ legs_marks Any (λ t. t.legs) from_within (λ t. refl) (λ t g. tt) k₂ legs b

    pub no_within : ReadsNone (number_marks (codes "within")) HasFewDigits k₂ → NoTurn l
    no_within n = stuck_take turn_marks IsTypedTurn l k₂ read₂ Known₂ from_within sofar₂ (number_marks (codes "within")) HasFewDigits (λ t. t.within) from_depth (λ t. refl) (λ t g. g.0) n

    module _ (within : ℤ) (k₃ : Lexer) (d : ReadsOne (number_marks (codes "within")) HasFewDigits k₂ within k₃) where
      abbrev read₃ : List Mark
      read₃ = read₂ ++ number_marks (codes "within") within

      abbrev Known₃ : TurnForm → Type 0
      Known₃ t = Known₂ t × (t.within ≡ within)

      sofar₃ : SoFar turn_marks IsTypedTurn l k₃ read₃ Known₃ from_depth
      sofar₃ = take turn_marks IsTypedTurn l k₂ read₂ Known₂ from_within sofar₂ (number_marks (codes "within")) HasFewDigits (λ t. t.within) from_depth (λ t. refl) (λ t g. g.0) k₃ within d

      pub no_depth : ReadsNone (number_marks (codes "depth")) HasFewDigits k₃ → NoTurn l
      no_depth n = stuck_take turn_marks IsTypedTurn l k₃ read₃ Known₃ from_depth sofar₃ (number_marks (codes "depth")) HasFewDigits (λ t. t.depth) from_ticks (λ t. refl) (λ t g. g.1) n

      module _ (depth : ℤ) (k₄ : Lexer) (e : ReadsOne (number_marks (codes "depth")) HasFewDigits k₃ depth k₄) where
        abbrev read₄ : List Mark
        read₄ = read₃ ++ number_marks (codes "depth") depth

        abbrev Known₄ : TurnForm → Type 0
        Known₄ t = Known₃ t × (t.depth ≡ depth)

        sofar₄ : SoFar turn_marks IsTypedTurn l k₄ read₄ Known₄ from_ticks
        sofar₄ = take turn_marks IsTypedTurn l k₃ read₃ Known₃ from_depth sofar₃ (number_marks (codes "depth")) HasFewDigits (λ t. t.depth) from_ticks (λ t. refl) (λ t g. g.1) k₄ depth e

        pub no_ticks : ReadsNone (number_marks (codes "ticks")) HasFewDigits k₄ → NoTurn l
        no_ticks n = stuck_take turn_marks IsTypedTurn l k₄ read₄ Known₄ from_ticks sofar₄ (number_marks (codes "ticks")) HasFewDigits (λ t. t.ticks) (λ t. []) (λ t. refl) (λ t g. g.2) n

        module _ (ticks : ℤ) (k₅ : Lexer) (f : ReadsOne (number_marks (codes "ticks")) HasFewDigits k₄ ticks k₅) where
          abbrev read₅ : List Mark
          read₅ = read₄ ++ number_marks (codes "ticks") ticks

          abbrev Known₅ : TurnForm → Type 0
          Known₅ t = Known₄ t × (t.ticks ≡ ticks)

          sofar₅ : SoFar turn_marks IsTypedTurn l k₅ read₅ Known₅ (λ t. [])
          sofar₅ = take turn_marks IsTypedTurn l k₄ read₄ Known₄ from_ticks sofar₄ (number_marks (codes "ticks")) HasFewDigits (λ t. t.ticks) (λ t. []) (λ t. refl) (λ t g. g.2) k₅ ticks f

          pub turn_open : (Spells k₅ (closing ∷ []) → ⊥) → (t : TurnForm) → IsTypedTurn t → Spells l (turn_marks t ++ (closing ∷ [])) → ⊥
          turn_open n = not_closed turn_marks IsTypedTurn l k₅ read₅ Known₅ (λ t. []) sofar₅ (λ t. refl) n

          abbrev the_turn : TurnForm
          the_turn = record { kind = kind; legs = legs; within = within; depth = depth; ticks = ticks }

          pub turn_closed : Spells k₅ (closing ∷ []) → IsTypedTurn (record { kind = kind; legs = legs; within = within; depth = depth; ticks = ticks })
              × Spells l (turn_marks (record { kind = kind; legs = legs; within = within; depth = depth; ticks = ticks }) ++ (closing ∷ []))
          turn_closed s = ((d.good, e.good, f.good), closed turn_marks IsTypedTurn l k₅ read₅ Known₅ (λ t. []) sofar₅ (λ t. refl) the_turn refl s)
