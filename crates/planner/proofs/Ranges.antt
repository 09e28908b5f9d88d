-- What a test by a range of signed numbers says.
use Rattle.std.specs.Prelude.{◌≡◌, true, false, ◌&&◌, ◌⊎◌, ℤ, ◌≤ℤ◌, ◌<ℤ◌}
use Rattle.std.proofs.Common.{ap, ap₂, arith, inl, inr, ◌∙◌, sym, refl}
use Rattle.std.proofs.lemmas.Int.{ints}
use Rattle.std.specs.Cmp.{int_ranks}
use Rattle.std.specs.Ordering.{MatchOrdering, int_cmp, is_le}
use Rattle.std.specs.declared.cmp.Ordering.{Ordering}
use Rattle.std.specs.declared.cmp.Ordering.TheVariants.{Less, Equal, Greater}

ranked : (a b : ℤ) (o : Ordering) → MatchOrdering o (a <ℤ b) (a ≡ b) (b <ℤ a) → ((a ≤ℤ b) × (is_le o ≡ true)) ⊎ ((b <ℤ a) × (is_le o ≡ false))
ranked a b Less l = inl (omega (arith, ints), refl)
ranked a b Equal e = inl (omega (arith, ints), refl)
ranked a b Greater g = inr (g, refl)

tested : (a b : ℤ) → ((a ≤ℤ b) × (is_le (int_cmp a b) ≡ true)) ⊎ ((b <ℤ a) × (is_le (int_cmp a b) ≡ false))
tested a b = ranked a b (int_cmp a b) (int_ranks a b)

-- from a to b
pub within : (a b x : ℤ) → is_le (int_cmp a x) && is_le (int_cmp x b) ≡ true → (a ≤ℤ x) × (x ≤ℤ b)
within a b x h =
    elim (tested a x) [
      | inl l ↦ elim (tested x b) [ inl m ↦ (l.0, m.0) | inr m ↦ absurd (let z : true ≡ false = sym h ∙ ap₂ (λ p q. p && q) l.1 m.1 in cc) ]
      | inr l ↦ absurd (let z : true ≡ false = sym h ∙ ap (λ p. p && is_le (int_cmp x b)) l.1 in cc)
    ]

pub outside : (a b x : ℤ) → is_le (int_cmp a x) && is_le (int_cmp x b) ≡ false → (x <ℤ a) ⊎ (b <ℤ x)
outside a b x h =
    elim (tested a x) [
      | inl l ↦ elim (tested x b) [ inl m ↦ absurd (let z : false ≡ true = sym h ∙ ap₂ (λ p q. p && q) l.1 m.1 in cc) | inr m ↦ inr m.0 ]
      | inr l ↦ inl l.0
    ]
