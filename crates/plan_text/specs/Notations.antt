-- Points as they are typed and printed.
use Rattle.std.specs.Prelude.{List, [], ◌∷◌, map, ℤ}
use Rattle.std.specs.List.{range_with_len}
use Rattle.ordinate.specs.Kinds.{Kind}
use Rattle.decimal.specs.Numbers.{HasFewDigits}
use Rattle.plan_text.specs.declared.form.At.{At}
use Rattle.plan_text.specs.declared.form.At.TheVariants.{One, Two}

abbrev pub numbers_of : At → List ℤ
numbers_of (One a) = a ∷ []
numbers_of (Two a b) = a ∷ b ∷ []

module _ {P : Type 0} (K : Kind P) where
  -- A point's coordinates, in order.
  abbrev pub coordinates_of : P → List ℤ
  coordinates_of p = map (K.coordinate p) (range_with_len 0 K.dimension)

  -- The coordinates of a leg have at most ten digits.
  abbrev pub HasFewDigitsEach : Type 0
  HasFewDigitsEach = HasFewDigits K.least × HasFewDigits K.greatest
