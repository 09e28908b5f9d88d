-- One turn of the loop over rounds.
use Rattle.std.proofs.Common.{◌≡◌, ℕ, zero, suc, ◌+◌, ◌-◌, ◌<◌, ◌≤◌, min, sym, refl, ap, ◌∙◌, inl, inr, add-one, arith}
use Rattle.std.proofs.lemmas.Bool.{cases_lt}
use Rattle.bezier.proofs.Rounds.{rounded}

-- the round after the last one
one_round_more : {P : Type 0} (mid : P → P → P) (k : ℕ) (f : ℕ → P) (i : ℕ) → rounded mid (suc k) f i ≡ mid (rounded mid k f i) (rounded mid k f (i + 1))
one_round_more mid zero f i = rw add-one refl
one_round_more mid (suc k) f i = one_round_more mid k (λ j. mid (f j) (f (suc j))) i

module _ {P : Type 0} (mid : P → P → P) (f : ℕ → P) (n k : ℕ) (w w1 w2 : ℕ → P) where
  pub step_row : k < n → ((i : ℕ) → i ≤ n → w i ≡ rounded mid (min k (n - i)) f i) → ((i : ℕ) → i ≤ n → w1 i ≡ w i) → ((i : ℕ) → i < n - k → w2 i ≡ mid (w1 i) (w1 (i + 1))) → ((i : ℕ) → n - k ≤ i → w2 i ≡ w1 i) → (i : ℕ) → i ≤ n → w2 i ≡ rounded mid (min (k + 1) (n - i)) f i
  step_row lt old keep mids rest i le = elim (cases_lt i (n - k)) [
    | inl h ↦
        let a : min k (n - i) ≡ k = omega arith in
        let b : min k (n - (i + 1)) ≡ k = omega arith in
        let e : min (k + 1) (n - i) ≡ suc k = omega arith in
        let le1 : i + 1 ≤ n = omega arith in
        let p : w1 i ≡ rounded mid k f i = keep i le ∙ old i le ∙ ap (λ (j : ℕ). rounded mid j f i) a in
        let q : w1 (i + 1) ≡ rounded mid k f (i + 1) = keep (i + 1) le1 ∙ old (i + 1) le1 ∙ ap (λ (j : ℕ). rounded mid j f (i + 1)) b in
        mids i h ∙ ap (λ (x : P). mid x (w1 (i + 1))) p ∙ ap (mid (rounded mid k f i)) q ∙ sym (one_round_more mid k f i) ∙ sym (ap (λ (j : ℕ). rounded mid j f i) e)
    | inr h ↦
        let e : min k (n - i) ≡ min (k + 1) (n - i) = omega arith in
        rest i h ∙ keep i le ∙ old i le ∙ ap (λ (j : ℕ). rounded mid j f i) e
  ]

  pub step_left : k < n → ((i : ℕ) → i ≤ n → w i ≡ rounded mid (min k (n - i)) f i) → ((j : ℕ) → j < k → w (n + 1 + j) ≡ rounded mid j f 0) → ((j : ℕ) → j < k → w1 (n + 1 + j) ≡ w (n + 1 + j)) → w1 (n + 1 + k) ≡ w 0 → ((i : ℕ) → n - k ≤ i → w2 i ≡ w1 i) → (j : ℕ) → j < k + 1 → w2 (n + 1 + j) ≡ rounded mid j f 0
  step_left lt row old keep new rest j le = elim (cases_lt j k) [
    | inl h ↦ rest (n + 1 + j) (omega arith) ∙ keep j h ∙ old j h
    | inr h ↦
        let e : j ≡ k = omega arith in
        let m : min k (n - 0) ≡ j = omega arith in
        let z : 0 ≤ n = omega arith in
        rest (n + 1 + j) (omega arith) ∙ ap (λ (x : ℕ). w1 (n + 1 + x)) e ∙ new ∙ row 0 z ∙ ap (λ (x : ℕ). rounded mid x f 0) m
  ]
