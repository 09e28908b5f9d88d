-- Points can be told apart, and so can those that reach too far, since their coordinates can.
use Rattle.std.proofs.Common.{◌≡◌, ℕ, zero, suc, ◌<◌, ◌≤◌, Bool, true, false, T, ◌⊎◌, inl, inr, ℤ, pos, ◌≤ℤ◌, ◌<ℤ◌, neg_ℤ, refl, sym, ap, subst, arith, List, length}
use Rattle.std.proofs.Math.Decide.{dec_lt}
use Rattle.std.proofs.Math.IntN.{ℤ_discrete}
use Rattle.std.specs.Int.Signed.{le_z, lt_z, lt_z_yes}
use Rattle.ordinate.specs.Kinds.{Between, Kind, Lawful}
use Rattle.distance.specs.Measures.{Beyond, Inside, Reaches, point}

pub dec_not : (X : Type 0) → Dec X → Dec (¬ X)
dec_not X (yes x) = no (λ n. n x)
dec_not X (no n) = yes n

pub dec_or : (X Y : Type 0) → Dec X → Dec Y → Dec (X ⊎ Y)
dec_or X Y (yes x) d = yes (inl x)
dec_or X Y (no f) (yes y) = yes (inr y)
dec_or X Y (no f) (no g) = no (elim [ inl x ↦ f x | inr y ↦ g y ])

dec_and : (X Y : Type 0) → Dec X → Dec Y → Dec (X × Y)
dec_and X Y (yes x) (yes y) = yes (x, y)
dec_and X Y (yes x) (no g) = no (λ p. g p.1)
dec_and X Y (no f) d = no (λ p. f p.0)

pub settled : (X : Type 0) → Dec X → ¬ (¬ X) → X
settled X (yes x) h = x
settled X (no n) h = absurd (h n)

-- ---- whole numbers

pub dec_less : (a b : ℤ) → Dec (a <ℤ b)
dec_less a b = go (lt_z a b) refl
  where
    go : (t : Bool) → lt_z a b ≡ t → Dec (a <ℤ b)
    go true e = yes (lt_z_yes (subst T (sym e) tt))
    go false e = no (λ h. subst T e h.lt)

dec_upto : (a b : ℤ) → Dec (a ≤ℤ b)
dec_upto a b = go (le_z a b) refl
  where
    go : (t : Bool) → le_z a b ≡ t → Dec (a ≤ℤ b)
    go true e = yes (record { le = subst T (sym e) tt })
    go false e = no (λ h. subst T e h.le)

-- ---- what holds at every place below n

dec_below : (Q : ℕ → Type 0) → ((i : ℕ) → Dec (Q i)) → (n : ℕ) → Dec ((i : ℕ) → i < n → Q i)
dec_below Q d zero = yes (λ i l. absurd (omega arith))
dec_below Q d (suc n) = go (dec_below Q d n) (d n)
  where
    go : Dec ((i : ℕ) → i < n → Q i) → Dec (Q n) → Dec ((i : ℕ) → i < suc n → Q i)
    go (yes f) (yes q) = yes (λ i l. elim (dec_lt i n) [ yes m ↦ f i m | no m ↦ let e : n ≡ i = omega arith in subst Q e q ])
    go (yes f) (no g) = no (λ f'. g (f' n (omega arith)))
    go (no g) e = no (λ f'. g (λ i l. f' i (omega arith)))

-- ---- points

module _ {P : Type 0} (K : Kind P) where
  pub dec_point : Lawful K → (p q : P) → Dec (p ≡ q)
  dec_point law p q = go (dec_below (λ i. K.coordinate p i ≡ K.coordinate q i) (λ i. ℤ_discrete (K.coordinate p i) (K.coordinate q i)) K.dimension)
    where
      go : Dec ((i : ℕ) → i < K.dimension → K.coordinate p i ≡ K.coordinate q i) → Dec (p ≡ q)
      go (yes f) = yes (law.same p q f)
      go (no n) = no (λ e. n (λ i l. ap (λ (r : P). K.coordinate r i) e))

  pub dec_reaches : (c : ℕ) (p : P) → Dec (Reaches K c p)
  dec_reaches c p =
      dec_below (λ i. Between (neg_ℤ (pos c)) (pos c) (K.coordinate p i)) (λ i. dec_and _ _ (dec_upto (neg_ℤ (pos c)) (K.coordinate p i)) (dec_upto (K.coordinate p i) (pos c))) K.dimension

  -- the first of the first k points that reaches too far
  abbrev Found : ℕ → List P → ℕ → Type 0
  Found c ps k = ((j : ℕ) × Beyond K c ps j) ⊎ ((i : ℕ) → i < k → Reaches K c (point K ps i))

  look : (c : ℕ) (ps : List P) (k : ℕ) → k ≤ length ps → Found c ps k
  look c ps zero h = inr (λ i l. absurd (omega arith))
  look c ps (suc k) h = go (look c ps k (omega arith)) (dec_reaches c (point K ps k))
    where
      go : Found c ps k → Dec (Reaches K c (point K ps k)) → Found c ps (suc k)
      go (inl x) d = inl x
      go (inr f) (no n) = inl (k, record { there = omega arith; beyond = n; first = f })
      go (inr f) (yes y) =
          inr (λ i l. elim (dec_lt i k) [
            | yes m ↦ f i m
            | no m ↦ let e : k ≡ i = omega arith in subst (λ (z : ℕ). Reaches K c (point K ps z)) e y
          ])

  pub beyond_or_inside : (c : ℕ) (ps : List P) → ((j : ℕ) × Beyond K c ps j) ⊎ Inside K c ps
  beyond_or_inside c ps = look c ps (length ps) (omega arith)
