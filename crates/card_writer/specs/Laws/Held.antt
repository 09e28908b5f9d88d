-- What a card holds never exceeds its capacity.
use Rattle.std.proofs.Common.{◌≡◌, ℕ, zero, suc, ◌≤◌, List, length, refl, ◌∙◌, arith}
use Rattle.std.proofs.lemmas.List.{length_push}
use Rattle.ordinate.specs.Kinds.{Kind}
use Rattle.card.specs.Cards.{listed}
use Rattle.card_writer.specs.Outlet.{first_legs, on_card}

module _ {P : Type 0} (K : Kind P) where
  pub length_first : (n : ℕ) (xs : List ℕ) → length (first_legs K n xs) ≡ n
  unfolding first_legs
  length_first zero xs = refl
  length_first (suc n) xs = length_push (first_legs K n xs) _ ∙ omega (arith, length_first n xs)

  pub card_within : (xs : List ℕ) → length (on_card K xs).legs ≤ (on_card K xs).capacity
  card_within xs = omega (arith, length_first (listed K xs) xs)
