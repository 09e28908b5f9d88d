-- The points of the halves by place: each is a point of one round, so that what every halving keeps, the halves keep.
use Rattle.std.proofs.Common.{◌≡◌, ℕ, zero, suc, ◌+◌, ◌-◌, ◌<◌, ◌≤◌, List, [], ◌∷◌, length, refl, ap, ◌∙◌, ap₂, inl, inr, arith, length-append}
use mathlib.Core.Path.{fun_ext}
use Rattle.std.proofs.lemmas.List.{get_or_append_left, get_or_push}
use Rattle.std.proofs.lemmas.Bool.{cases_lt}
use Rattle.ordinate.specs.Kinds.{Kind}
use Rattle.distance.specs.Measures.{blank, halfway, point}
use Rattle.bezier.specs.Rounds.{between, next_round, firsts, lasts}

-- After k rounds of taking each pair of neighbours to one.
abbrev pub rounded : {A : Type 0} → (A → A → A) → ℕ → (ℕ → A) → ℕ → A
rounded mid zero f = f
rounded mid (suc k) f = rounded mid k (λ j. mid (f j) (f (suc j)))

module _ {A : Type 0} (mid : A → A → A) where
  -- after k rounds, the element i comes from those from i to i + k
  pub rounded_same : (k i : ℕ) (f g : ℕ → A) → ((j : ℕ) → j ≤ i + k → f j ≡ g j) → rounded mid k f i ≡ rounded mid k g i
  rounded_same zero i f g e = e i (omega arith)
  rounded_same (suc k) i f g e = rounded_same k i (λ j. mid (f j) (f (suc j))) (λ j. mid (g j) (g (suc j))) (λ j h. ap₂ mid (e j (omega arith)) (e (suc j) (omega arith)))

  pub rounded_keeps : (Q : A → Type 0) → ((a b : A) → Q a → Q b → Q (mid a b)) → (k i : ℕ) (f : ℕ → A) → ((j : ℕ) → j ≤ i + k → Q (f j)) → Q (rounded mid k f i)
  rounded_keeps Q keeps zero i f h = h i (omega arith)
  rounded_keeps Q keeps (suc k) i f h = rounded_keeps Q keeps k i (λ j. mid (f j) (f (suc j))) (λ j l. keeps (f j) (f (suc j)) (h j (omega arith)) (h (suc j) (omega arith)))

  pub rounded_image : {B : Type 0} (nid : B → B → B) (x : A → B) → ((a b : A) → x (mid a b) ≡ nid (x a) (x b)) → (k i : ℕ) (f : ℕ → A) → x (rounded mid k f i) ≡ rounded nid k (λ j. x (f j)) i
  rounded_image nid x e zero i f = refl
  rounded_image nid x e (suc k) i f = rounded_image nid x e k i (λ j. mid (f j) (f (suc j))) ∙ ap (λ g. rounded nid k g i) (fun_ext (λ j. e (f j) (f (suc j))))

module _ {P : Type 0} (K : Kind P) where
  length_between : (p : P) (ps : List P) → length (between K p ps) ≡ length ps
  length_between p [] = refl
  length_between p (q ∷ ps) = ap suc (length_between q ps)

  length_next : (ps : List P) → length (next_round K ps) ≡ length ps - 1
  length_next [] = refl
  length_next (p ∷ ps) = let e = length_between p ps in omega arith

  between_at : (p : P) (ps : List P) (j : ℕ) → j < length ps → point K (between K p ps) j ≡ halfway K (point K (p ∷ ps) j) (point K (p ∷ ps) (suc j))
  between_at p [] j h = absurd (omega arith)
  between_at p (q ∷ ps) zero h = refl
  between_at p (q ∷ ps) (suc j) h = between_at q ps j (omega arith)

  next_at : (ps : List P) (j : ℕ) → suc j < length ps → point K (next_round K ps) j ≡ halfway K (point K ps j) (point K ps (suc j))
  next_at [] j h = absurd (omega arith)
  next_at (p ∷ ps) j h = between_at p ps j (omega arith)

  one_more : (ps : List P) (k i : ℕ) → suc (i + k) < length ps → rounded (halfway K) k (point K (next_round K ps)) i ≡ rounded (halfway K) (suc k) (point K ps) i
  one_more ps k i h = rounded_same (halfway K) k i (point K (next_round K ps)) (λ j. halfway K (point K ps j) (point K ps (suc j))) (λ j l. next_at ps j (omega arith))

  pub length_firsts : (k : ℕ) (ps : List P) → length (firsts K k ps) ≡ k
  length_firsts zero ps = refl
  length_firsts (suc k) ps = ap suc (length_firsts k (next_round K ps))

  pub length_lasts : (k : ℕ) (ps : List P) → length (lasts K k ps) ≡ k
  length_lasts zero ps = refl
  length_lasts (suc k) ps =
      let e = length_lasts k (next_round K ps) in
      let f = length-append (lasts K k (next_round K ps)) (point K ps k ∷ []) in
      omega arith

  pub firsts_at : (k : ℕ) (ps : List P) → k ≤ length ps → (j : ℕ) → j < k → point K (firsts K k ps) j ≡ rounded (halfway K) j (point K ps) 0
  firsts_at zero ps h j l = absurd (omega arith)
  firsts_at (suc k) ps h zero l = refl
  firsts_at (suc k) ps h (suc j) l =
      let e = length_next ps in
      firsts_at k (next_round K ps) (omega arith) j (omega arith) ∙ one_more ps j 0 (omega arith)

  pub lasts_at : (k : ℕ) (ps : List P) → k ≤ length ps → (j : ℕ) → j < k → point K (lasts K k ps) j ≡ rounded (halfway K) (k - 1 - j) (point K ps) j
  lasts_at zero ps h j l = absurd (omega arith)
  lasts_at (suc k) ps h j l =
      let e = length_next ps in
      let n = length_lasts k (next_round K ps) in
      elim (cases_lt j k) [
        | inl a ↦
            let q : suc (k - 1 - j) ≡ suc k - 1 - j = omega arith in
            get_or_append_left (lasts K k (next_round K ps)) (point K ps k ∷ []) (blank K) j (omega arith)
            ∙ lasts_at k (next_round K ps) (omega arith) j a
            ∙ one_more ps (k - 1 - j) j (omega arith)
            ∙ ap (λ (i : ℕ). rounded (halfway K) i (point K ps) j) q
        | inr b ↦
            let q : k ≡ j = omega arith in
            let z : 0 ≡ suc k - 1 - j = omega arith in
            get_or_push (lasts K k (next_round K ps)) (point K ps k) (blank K) j (n ∙ q) ∙ ap (point K ps) q ∙ ap (λ (i : ℕ). rounded (halfway K) i (point K ps) j) z
      ]
