-- The calls alone determine all that is whole, since only one division has the fewest cells.
use Rattle.std.proofs.Common.{◌≡◌, ℕ, List, [], ◌∷◌, ◌++◌, length, sym, refl, ap, ◌∙◌, subst, ap₂}
use Rattle.std.proofs.lemmas.Option.{same_Some}
use Rattle.leg.specs.Reasons.{First, refusal}
use Rattle.leg.specs.declared.leg.Cell.{Cell}
use Rattle.leg.specs.declared.leg.Leg.{Leg}
use Rattle.leg.proofs.Reasoned.{one_answer}
use Rattle.curve.specs.Fewest.{Fewest}
use Rattle.curve.proofs.Divisions.{fewest_is_found}
use Rattle.turn.specs.Calls.{History, Span, end_of, end_tick, last_leg, standing}
use Rattle.turn.specs.Claims.{Pinned, made_calls}
use Rattle.turn.specs.Outcomes.{legs_for}
use Rattle.turn.specs.Reasons.{after, reasons, cell_passes}
use Rattle.turn.specs.Settings.{Setting}
use Rattle.turn.specs.Whole.{Answered, SpanLegs}
use Rattle.turn.proofs.Exact.{all_single, calls_head, calls_tail, no_calls, same_answer}
use Rattle.turn.proofs.Kept.{stand}
use Rattle.turn.proofs.Standing.{Stand}

module _ {P : Type 0} (A : Setting P) where
  one_fewest : (ps : List P) (cs ds : List Cell) → Fewest A.depth (cell_passes A ps) cs → Fewest A.depth (cell_passes A ps) ds → cs ≡ ds
  one_fewest ps cs ds f g =
      same_Some cs ds (sym (fewest_is_found A.depth (cell_passes A ps) cs f) ∙ fewest_is_found A.depth (cell_passes A ps) ds g)

  one_own : (S : ℕ) (s : Span P) (ls ks : List (Leg P)) → SpanLegs A S s ls → SpanLegs A S s ks → ls ≡ ks
  one_own S s ls ks x y = x.made ∙ ap (legs_for A S s.points s.ticks) (one_fewest s.points x.cells y.cells x.fewest y.fewest) ∙ sym y.made

  one_stand : (ss : List (Span P)) (ls ks : List (Leg P)) → Stand A ss ls → Stand A ss ks → ls ≡ ks
  one_stand [] ls ks x y = x ∙ sym y
  one_stand (s ∷ ss) ls ks x y =
      x.2 ∙ ap₂ (λ zs ws. zs ++ ws) (one_stand ss x.0 y.0 x.3 y.3) (one_own (end_tick ss) s x.1 y.1 x.4.legs y.4.legs) ∙ sym y.2

  same_history : (n : ℕ) (h₁ h₂ : History P) → made_calls h₁ ≡ made_calls h₂ → Answered A n h₁ → Answered A n h₂ → h₁ ≡ h₂
  same_history n [] [] e x y = refl
  same_history n [] (b ∷ h₂) e x y = absurd (no_calls A b.0 (made_calls h₂) e)
  same_history n (a ∷ h₁) [] e x y = absurd (no_calls A a.0 (made_calls h₁) (sym e))
  same_history n (a ∷ h₁) (b ∷ h₂) e x y =
      let h = calls_head A a.0 b.0 (made_calls h₁) (made_calls h₂) e in
      let i = same_history n h₁ h₂ (calls_tail A a.0 b.0 (made_calls h₁) (made_calls h₂) e) x.1 y.1 in
      let now = after A n (standing h₂) in
      let z : First (reasons A now b.0) (refusal a.1) =
      subst (λ c. First (reasons A now c) (refusal a.1)) h (subst (λ r. First (reasons A (after A n (standing r)) a.0) (refusal a.1)) i x.0) in
      let q = same_answer a.1 b.1 (one_answer (reasons A now b.0) (all_single A now b.0) (refusal a.1) (refusal b.1) z y.0) in
      λ k. (h k, q k) ∷ i k

  pub pinned : Pinned A
  pinned h₁ h₂ g₁ g₂ c₁ c₂ e room x y =
      let r = same_history c₂.capacity h₁ h₂ e (subst (λ (n : ℕ). Answered A n h₁) room x.answered) y.answered in
      let l = one_stand (standing h₂) c₁.legs c₂.legs (subst (λ h. Stand A (standing h) c₁.legs) r (stand A h₁ g₁ c₁ x)) (stand A h₂ g₂ c₂ y) in
      let c : g₁.count ≡ g₂.count = x.count ∙ ap length l ∙ sym y.count in
      let a : g₁.laid ≡ g₂.laid = x.laid ∙ ap (λ h. end_tick (standing h)) r ∙ sym y.laid in
      let n : g₁.end_value ≡ g₂.end_value = x.end_value ∙ ap (λ ls. end_of (last_leg ls)) l ∙ sym y.end_value in
      (r, λ k. record { count = c k; laid = a k; end_value = n k }, λ k. record { legs = l k; capacity = room k })
