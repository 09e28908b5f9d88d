-- Each coordinate of a leg is a leg of flow.
use Rattle.std.specs.Prelude.{◌≡◌, ℕ, ◌+◌, ◌*◌, ◌<◌, ℤ, pos, neg_ℤ, ◌≤ℤ◌, refl}
use Rattle.std.proofs.Common.{◌∙◌, ap, arith, inl, inr, subst, sym}
use Rattle.std.proofs.lemmas.Bool.{cases_lt}
use Rattle.ordinate.specs.Flows.{flow}
use Rattle.ordinate.specs.Kinds.{Between, InRange, Kind}
use Rattle.ordinate.specs.declared.flow.Flow.{Flow}
use Rattle.ordinate.specs.Laws.Points.{one_range}
use Rattle.distance.specs.Measures.{LawfulMeasure, Measure}
use Rattle.distance.specs.Laws.Bounds.{between_in, in_between}
use Rattle.bezier.specs.Laws.Reach.{widen}
use Rattle.leg.specs.Legs.{IsLeg}
use Rattle.leg.specs.Ticks.{Covers}
use Rattle.leg.specs.Values.{Tells, leg_value}
use Rattle.leg.specs.declared.leg.Leg.{Leg}
use Rattle.planner.specs.Telling.{coordinate_leg}

module _ {P : Type 0} (K : Kind P) (M : Measure) (measured : LawfulMeasure K M) where
  wide : (z : ℤ) → Between K.least K.greatest z → Between (neg_ℤ (pos 8589934592)) (pos 8589934592) z
  wide z h =
      let small = measured.limit_high in
      let low = subst (λ (y : ℤ). y ≤ℤ z) measured.least h.0 in
      let high = subst (λ (y : ℤ). z ≤ℤ y) measured.greatest h.1 in
      in_between z 8589934592 (widen z (4 * M.limit) 8589934592 (omega arith) (between_in z (4 * M.limit) (low, high)))

  in_flow : (p : P) (i : ℕ) → i < K.dimension → InRange K p → InRange flow (record { value = K.coordinate p i })
  in_flow p i l h = one_range (neg_ℤ (pos 8589934592)) (pos 8589934592) (K.coordinate p i) (wide (K.coordinate p i) (h i l))

  pub coordinate_is_leg : (l : Leg P) (i : ℕ) → i < K.dimension → IsLeg K l → IsLeg flow (coordinate_leg K l i)
  coordinate_is_leg l i n w =
      let value : P → Flow = λ p. record { value = K.coordinate p i } in
      record {
        place = w.place;
        one_or_two = w.one_or_two;
        straight = λ e. ap value (w.straight e);
        start_in = in_flow l.start i n w.start_in;
        middle_in = in_flow l.middle i n w.middle_in;
        end_in = in_flow l.end i n w.end_in;
      }

  pub coordinate_tells : (l : Leg P) (i a : ℕ) → i < K.dimension → IsLeg K l → Covers l.stretch a → Tells (coordinate_leg K l i) a (record { value = leg_value (coordinate_leg K l i) a })
  coordinate_tells l i a n w h = record { leg = coordinate_is_leg l i n w; covers = h; value = refl }

-- one coordinate more is written
pub write_more : {P : Type 0} (K : Kind P) (p q : P) (n : ℕ) (f : ℕ → ℤ) → (n < K.dimension → K.coordinate q n ≡ f n) → n < K.dimension
    → ((j : ℕ) → (j ≡ n → ⊥) → K.coordinate q j ≡ K.coordinate p j) → ((j : ℕ) → j < n → K.coordinate p j ≡ f j) → (j : ℕ) → j < n + 1 → K.coordinate q j ≡ f j
write_more K p q n f here l others w j h =
    elim (cases_lt j n) [
      | inl a ↦ others j (λ e. omega arith) ∙ w j a
      | inr b ↦ let e : j ≡ n = omega arith in ap (K.coordinate q) e ∙ here l ∙ sym (ap f e)
    ]
