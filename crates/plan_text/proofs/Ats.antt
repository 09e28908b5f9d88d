-- An `at`, of one number or of two.
use Rattle.std.proofs.Common.{◌≡◌, List, [], ◌∷◌, ◌++◌, ℤ, codes, refl, ap, ap₂, arith}
use Rattle.decimal.specs.Numbers.{HasFewDigits}
use Rattle.plan_text.specs.declared.lexer.Lexer.{Lexer}
use Rattle.plan_text.specs.declared.form.At.{At}
use Rattle.plan_text.specs.declared.form.At.TheVariants.{One, Two}
use Rattle.plan_text.specs.Tokens.{Mark, opening, closing, word, number}
use Rattle.plan_text.specs.Lexing.{Steps, Misses}
use Rattle.plan_text.specs.Forms.{IsTypedAt}
use Rattle.plan_text.specs.Reading.{Spells, PassesOver, ReadsOne, ReadsNone, at_marks}
use Rattle.plan_text.proofs.Steps.{only, back, missed, shorter}
use Rattle.plan_text.proofs.Parts.{reads_number, reads_no_number, SoFar, begin_pass, none_pass, take, stuck_take}

abbrev head : List Mark
head = opening ∷ word (codes "at") ∷ []

abbrev numbers : At → List Mark
numbers (One a) = number a ∷ closing ∷ []
numbers (Two a b) = number a ∷ number b ∷ closing ∷ []

abbrev first : At → ℤ
first (One a) = a
first (Two a b) = a

abbrev behind : At → List Mark
behind (One a) = closing ∷ []
behind (Two a b) = number b ∷ closing ∷ []

whole : (p : At) → at_marks p ≡ head ++ numbers p
whole (One a) = refl
whole (Two a b) = refl

numbers_split : (p : At) → numbers p ≡ (number (first p) ∷ []) ++ behind p
numbers_split (One a) = refl
numbers_split (Two a b) = refl

first_few : (p : At) → IsTypedAt p → HasFewDigits (first p)
first_few (One a) g = g
first_few (Two a b) g = g.0

pub no_at : (l : Lexer) → ((ms : List Mark) → Spells l (head ++ ms) → ⊥) → ReadsNone at_marks IsTypedAt l
no_at l n = none_pass at_marks IsTypedAt l head n numbers whole

module _ (l k : Lexer) (listed : PassesOver head l k) where
  behind_head : SoFar at_marks IsTypedAt l k head (λ p. Unit {0}) numbers
  behind_head = begin_pass at_marks IsTypedAt l k head listed numbers whole

  pub no_first : ((z : ℤ) → Misses k (number z)) → ReadsNone at_marks IsTypedAt l
  no_first n = stuck_take at_marks IsTypedAt l k head (λ p. Unit {0}) numbers behind_head (λ z. number z ∷ []) HasFewDigits first behind numbers_split first_few (reads_no_number k n)

  module _ (a : ℤ) (k₁ : Lexer) (taken : Steps k (number a) k₁) where
    behind_first : SoFar at_marks IsTypedAt l k₁ (head ++ (number a ∷ [])) (λ p. Unit {0} × (first p ≡ a)) behind
    behind_first = take at_marks IsTypedAt l k head (λ p. Unit {0}) numbers behind_head (λ z. number z ∷ []) HasFewDigits first behind numbers_split first_few k₁ a (reads_number k k₁ a taken)

    pub one_read : (k₂ : Lexer) → Steps k₁ closing k₂ → ReadsOne at_marks IsTypedAt l (One a) k₂
    one_read k₂ closed =
        record {
          good = taken.takes.mark;
          back = λ ms s. behind_first.back (closing ∷ ms) (back k₁ k₂ closing closed ms s);
          only = only_one;
          shorter = omega (arith, behind_first.shorter, shorter k₁ k₂ closing closed);
        }
      where
        only_one : (p : At) (ms : List Mark) → IsTypedAt p → Spells l (at_marks p ++ ms) → (p ≡ One a) × Spells k₂ ms
        only_one (One b) ms g s = let o = behind_first.only (One b) ms g s in (ap One o.0.1, (only k₁ k₂ closing closed closing ms tt o.1).1)
        only_one (Two b d) ms g s = let o = behind_first.only (Two b d) ms g s in let same : number d ≡ closing = (only k₁ k₂ closing closed (number d) (closing ∷ ms) g.1 o.1).0 in cc

    module _ (unclosed : Misses k₁ closing) where
      pub no_second : ((z : ℤ) → Misses k₁ (number z)) → ReadsNone at_marks IsTypedAt l
      no_second n (One b) ms g s = missed k₁ closing unclosed ms tt (behind_first.only (One b) ms g s).1
      no_second n (Two b d) ms g s = missed k₁ (number d) (n d) (closing ∷ ms) g.1 (behind_first.only (Two b d) ms g s).1

      module _ (b : ℤ) (k₂ : Lexer) (second : Steps k₁ (number b) k₂) where
        pub not_closed_at : Misses k₂ closing → ReadsNone at_marks IsTypedAt l
        not_closed_at n (One d) ms g s = missed k₁ closing unclosed ms tt (behind_first.only (One d) ms g s).1
        not_closed_at n (Two d e) ms g s = missed k₂ closing n ms tt (only k₁ k₂ (number b) second (number e) (closing ∷ ms) g.1 (behind_first.only (Two d e) ms g s).1).1

        pub two_read : (k₃ : Lexer) → Steps k₂ closing k₃ → ReadsOne at_marks IsTypedAt l (Two a b) k₃
        two_read k₃ closed =
            record {
              good = (taken.takes.mark, second.takes.mark);
              back = λ ms s. behind_first.back (number b ∷ closing ∷ ms) (back k₁ k₂ (number b) second (closing ∷ ms) (back k₂ k₃ closing closed ms s));
              only = only_two;
              shorter = omega (arith, behind_first.shorter, shorter k₁ k₂ (number b) second, shorter k₂ k₃ closing closed);
            }
          where
            only_two : (p : At) (ms : List Mark) → IsTypedAt p → Spells l (at_marks p ++ ms) → (p ≡ Two a b) × Spells k₃ ms
            only_two (One d) ms g s = absurd (missed k₁ closing unclosed ms tt (behind_first.only (One d) ms g s).1)
            only_two (Two d e) ms g s =
                let o = behind_first.only (Two d e) ms g s in
                let r = only k₁ k₂ (number b) second (number e) (closing ∷ ms) g.1 o.1 in
                let same : number e ≡ number b = r.0 in
                let last : e ≡ b = cc in
                (ap₂ Two o.0.1 last, (only k₂ k₃ closing closed closing ms tt r.1).1)
