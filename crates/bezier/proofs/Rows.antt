-- The halves of a row, as the loop over rounds leaves them.
use Rattle.std.proofs.Common.{◌≡◌, ℕ, ◌+◌, ◌-◌, ◌*◌, ◌<◌, ◌≤◌, List, length, take, drop, sym, ap, ◌∙◌, arith, length-drop, length-take}
use Rattle.std.proofs.lemmas.List.{ext_get_or, get_or-take, get_or-drop}
use Rattle.ordinate.specs.Kinds.{Kind}
use Rattle.distance.specs.Measures.{blank, halfway, point}
use Rattle.bezier.specs.Rounds.{firsts, lasts, left_half, right_half}
use Rattle.bezier.proofs.Rounds.{rounded, rounded_same, firsts_at, lasts_at, length_firsts, length_lasts}

module _ {P : Type 0} (K : Kind P) where
  taken : (n : ℕ) (w : List P) (j i : ℕ) → i + j ≤ n → rounded (halfway K) j (point K (take (n + 1) w)) i ≡ rounded (halfway K) j (point K w) i
  taken n w j i h = rounded_same (halfway K) j i (point K (take (n + 1) w)) (point K w) (λ x l. get_or-take (n + 1) w x (blank K) (omega arith))

  pub right_row : (n : ℕ) (w w' : List P) → n + 1 ≤ length w → n + 1 ≤ length w' → ((i : ℕ) → i ≤ n → point K w' i ≡ rounded (halfway K) (n - i) (point K w) i) → take (n + 1) w' ≡ right_half K (take (n + 1) w)
  right_row n w w' h k at =
      let m = length-take (n + 1) w in
      let m' = length-take (n + 1) w' in
      let len = length_lasts K (n + 1) (take (n + 1) w) in
      let whole : n + 1 ≡ length (take (n + 1) w) = omega arith in
      ext_get_or (blank K) (take (n + 1) w') (lasts K (n + 1) (take (n + 1) w)) (omega arith) (λ i l.
      let q : n - i ≡ n + 1 - 1 - i = omega arith in
      get_or-take (n + 1) w' i (blank K) (omega arith) ∙ at i (omega arith) ∙ sym (taken n w (n - i) i (omega arith))
      ∙ ap (λ (x : ℕ). rounded (halfway K) x (point K (take (n + 1) w)) i) q ∙ sym (lasts_at K (n + 1) (take (n + 1) w) (omega arith) i (omega arith)))
      ∙ ap (λ (k : ℕ). lasts K k (take (n + 1) w)) whole

  pub left_row : (n : ℕ) (w w' : List P) → n + 1 ≤ length w → (n + 1) + (n + 1) ≤ length w' → ((j : ℕ) → j ≤ n → point K w' (n + 1 + j) ≡ rounded (halfway K) j (point K w) 0) → take (n + 1) (drop (n + 1) w') ≡ left_half K (take (n + 1) w)
  left_row n w w' h k at =
      let m = length-take (n + 1) w in
      let d' = length-drop (n + 1) w' in
      let m' = length-take (n + 1) (drop (n + 1) w') in
      let len = length_firsts K (n + 1) (take (n + 1) w) in
      let whole : n + 1 ≡ length (take (n + 1) w) = omega arith in
      ext_get_or (blank K) (take (n + 1) (drop (n + 1) w')) (firsts K (n + 1) (take (n + 1) w)) (omega arith) (λ j l.
      get_or-take (n + 1) (drop (n + 1) w') j (blank K) (omega arith) ∙ get_or-drop (n + 1) w' j (blank K) ∙ at j (omega arith) ∙ sym (taken n w j 0 (omega arith))
      ∙ sym (firsts_at K (n + 1) (take (n + 1) w) (omega arith) j (omega arith)))
      ∙ ap (λ (k : ℕ). firsts K k (take (n + 1) w)) whole

  pub rest_rows : (n : ℕ) (w w' : List P) → length w' ≡ length w → ((k : ℕ) → n + 1 + n < k → point K w' k ≡ point K w k) → drop (2 * (n + 1)) w' ≡ drop (2 * (n + 1)) w
  rest_rows n w w' e at =
      let a = length-drop (2 * (n + 1)) w in
      let b = length-drop (2 * (n + 1)) w' in
      ext_get_or (blank K) (drop (2 * (n + 1)) w') (drop (2 * (n + 1)) w) (omega arith) (λ k l.
      get_or-drop (2 * (n + 1)) w' k (blank K) ∙ at (2 * (n + 1) + k) (omega arith) ∙ sym (get_or-drop (2 * (n + 1)) w k (blank K)))
