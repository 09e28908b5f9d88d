-- How long the printed lines are.
use Rattle.std.proofs.Common.{◌≡◌, ℕ, suc, ◌+◌, ◌^◌, ◌<◌, ◌≤◌, List, [], ◌∷◌, ◌++◌, length, ℤ, pos, negsuc, codes, ap, ◌∙◌, arith, length-append}
use Rattle.std.proofs.lemmas.Fmt.{length-decimal-le}
use Rattle.decimal.specs.Numbers.{text_of, HasFewDigits}
use Rattle.plan_text.specs.declared.form.At.{At}
use Rattle.plan_text.specs.declared.form.At.TheVariants.{One, Two}
use Rattle.plan_text.specs.Texts.{spaced, listed}
use Rattle.plan_text.specs.Forms.{at_text, IsTypedAt}
use Rattle.plan_text.specs.Printing.{natural_text, natural_field, sealed_line, refused_line}
use Rattle.plan_text.proofs.Spacing.{spaced_append}

pub one_size : (name t : List ℕ) → length (spaced (listed name (t ∷ []) ∷ [])) ≡ 4 + length name + length t
one_size name t = simp length-append (omega arith)

pub two_size : (name t u : List ℕ) → length (spaced (listed name (t ∷ u ∷ []) ∷ [])) ≡ 5 + length name + length t + length u
two_size name t u = simp length-append (omega arith)

pub line_size : (name : List ℕ) (items : List (List ℕ)) → length (listed name items ++ (10 ∷ [])) ≡ length name + length (spaced items) + 3
line_size name items = simp length-append (omega arith)

pub spaced_size : (item : List ℕ) (items : List (List ℕ)) → length (spaced (item ∷ items)) ≡ length (spaced (item ∷ [])) + length (spaced items)
spaced_size item items = ap length (spaced_append (item ∷ []) items) ∙ length-append (spaced (item ∷ [])) (spaced items)

pub natural_size : (k n : ℕ) → 0 < k → n < 10 ^ k → n < 2 ^ 64 → length (natural_text n) ≤ k
natural_size k n some small fits = length-decimal-le k n some small fits

pub field_size : (k n : ℕ) (name : List ℕ) → 0 < k → n < 10 ^ k → n < 2 ^ 64 → length (spaced (natural_field name n ∷ [])) ≤ 4 + length name + k
field_size k n name some small fits = omega (arith, one_size name (natural_text n), natural_size k n some small fits)

number_size : (z : ℤ) → HasFewDigits z → length (text_of z) ≤ 11
number_size (pos n) h = omega (arith, length-decimal-le 10 n (omega arith) h (omega arith))
number_size (negsuc n) h = omega (arith, length-decimal-le 10 (suc n) (omega arith) h (omega arith))

pub at_size : (p : At) → IsTypedAt p → length (spaced (at_text p ∷ [])) ≤ 29
at_size (One a) h = omega (arith, one_size (codes "at") (text_of a), number_size a h)
at_size (Two a b) h = omega (arith, two_size (codes "at") (text_of a) (text_of b), number_size a h.0, number_size b h.1)

pub sealed_size : (legs ticks : ℕ) → legs < 2 ^ 64 → ticks < 2 ^ 32 → length (sealed_line legs ticks) ≤ 160
unfolding sealed_line
sealed_size legs ticks h k =
    omega (
      arith,
      line_size (codes "sealed") (natural_field (codes "legs") legs ∷ natural_field (codes "ticks") ticks ∷ []),
      spaced_size (natural_field (codes "legs") legs) (natural_field (codes "ticks") ticks ∷ []),
      field_size 20 legs (codes "legs") (omega arith) (omega arith) h,
      field_size 10 ticks (codes "ticks") (omega arith) (omega arith) (omega arith),
    )

pub refused_size : (number line : ℕ) → number < 2 ^ 32 → line < 2 ^ 64 → length (refused_line number line) ≤ 160
unfolding refused_line
refused_size number line h k =
    omega (
      arith,
      line_size (codes "refused") (natural_text number ∷ natural_field (codes "line") line ∷ []),
      spaced_size (natural_text number) (natural_field (codes "line") line ∷ []),
      spaced_one (natural_text number),
      natural_size 10 number (omega arith) (omega arith) (omega arith),
      field_size 20 line (codes "line") (omega arith) (omega arith) k,
    )
  where
    spaced_one : (t : List ℕ) → length (spaced (t ∷ [])) ≡ 1 + length t
    spaced_one t = simp length-append (omega arith)
