-- Points: their coordinates, and that octets tell a point.
use Rattle.std.specs.Prelude.{◌≡◌, ℕ, zero, suc, ◌+◌, ◌*◌, ◌<◌, ◌≤◌, List, [], ◌++◌, length, take, drop, ℤ, pos, FitsSigned, refl}
use Rattle.std.proofs.Common.{inl, inr, sym, ap, ap₂, subst, ◌∙◌, add-one, arith, length-append, length-drop, take_all}
use Rattle.std.specs.Int.{w64}
use Rattle.std.proofs.lemmas.List.{drop_at, take-append-le, drop-append-le}
use Rattle.std.proofs.lemmas.Bool.{cases_lt}
use Rattle.ordinate.specs.Octets.{twos, octets_of}
use Rattle.ordinate.specs.Kinds.{Kind, Lawful, Between, Admitted, InRange, blank, coordinates, point_octets, one, two}
use Rattle.ordinate.specs.Laws.Octets.{length_be, between_fits, octets_same}

-- ---- one and two coordinates

pub one_rest : (a : ℤ) (i : ℕ) → 1 ≤ i → one a i ≡ pos 0
one_rest a zero h = absurd (omega arith)
one_rest a (suc i) h = refl

pub two_rest : (a b : ℤ) (i : ℕ) → 2 ≤ i → two a b i ≡ pos 0
two_rest a b zero h = absurd (omega arith)
two_rest a b (suc i) h = one_rest b i (omega arith)

pub one_at : (f : ℕ → ℤ) (i : ℕ) → i < 1 → one (f 0) i ≡ f i
one_at f zero h = refl
one_at f (suc i) h = absurd (omega arith)

pub two_at : (f : ℕ → ℤ) (i : ℕ) → i < 2 → two (f 0) (f 1) i ≡ f i
two_at f zero h = refl
two_at f (suc i) h = one_at (λ j. f (suc j)) i (omega arith)

pub between_as : (low high : ℤ) {y z : ℤ} → y ≡ z → Between low high y → Between low high z
between_as low high e h = subst (λ (x : ℤ). Between low high x) e h

pub one_range : (low high a : ℤ) → Between low high a → (i : ℕ) → i < 1 → Between low high (one a i)
one_range low high a h zero l = h
one_range low high a h (suc i) l = absurd (omega arith)

pub two_range : (low high a b : ℤ) → Between low high a → Between low high b → (i : ℕ) → i < 2 → Between low high (two a b i)
two_range low high a b h k zero l = h
two_range low high a b h k (suc i) l = one_range low high b k i (omega arith)

-- ---- coordinates, one after another
pub coordinates_none : (f : ℕ → ℤ) → coordinates 0 f ≡ []
unfolding coordinates
coordinates_none f = refl

pub coordinates_more : (i : ℕ) (f : ℕ → ℤ) → coordinates (i + 1) f ≡ coordinates i f ++ octets_of (f i)
unfolding coordinates
coordinates_more i f = rw add-one

pub length_coordinates : (n : ℕ) (f : ℕ → ℤ) → length (coordinates n f) ≡ 8 * n
unfolding coordinates
length_coordinates zero f = refl
length_coordinates (suc n) f = length-append (coordinates n f) (octets_of (f n)) ∙ omega (arith, length_coordinates n f, length_be 8 (twos (f n)))

pub coordinates_same : (n : ℕ) (f g : ℕ → ℤ) → ((j : ℕ) → j < n → f j ≡ g j) → coordinates n f ≡ coordinates n g
unfolding coordinates
coordinates_same zero f g h = refl
coordinates_same (suc n) f g h = ap₂ (λ (xs ys : List ℕ). xs ++ ys) (coordinates_same n f g (λ j k. h j (omega arith))) (ap octets_of (h n (omega arith)))

pub coordinates_at : (n i : ℕ) (f : ℕ → ℤ) → i < n → take 8 (drop (8 * i) (coordinates n f)) ≡ octets_of (f i)
unfolding coordinates
coordinates_at zero i f h = absurd (omega arith)
coordinates_at (suc n) i f h =
    let xs = coordinates n f in
    let ys = octets_of (f n) in
    let lx = length_coordinates n f in
    let ly = length_be 8 (twos (f n)) in
    elim (cases_lt i n) [
      | inl lt ↦
          let p : 8 * i ≤ length xs = omega arith in
          let q : 8 ≤ length (drop (8 * i) xs) = simp length-drop (omega arith) in
          ap (take 8) (drop-append-le (8 * i) xs ys p) ∙ take-append-le 8 (drop (8 * i) xs) ys q ∙ coordinates_at n i f lt
      | inr ge ↦
          let e : i ≡ n = omega arith in
          ap (take 8) (drop_at xs ys (8 * i) (omega arith)) ∙ take_all 8 ys (omega arith) ∙ ap (λ (k : ℕ). octets_of (f k)) (sym e)
    ]

module _ {P : Type 0} (K : Kind P) (law : Lawful K) where
  pub admitted_fits : (z : ℤ) → Admitted K z → FitsSigned w64 z
  admitted_fits z w = between_fits K.least K.greatest z law.range_low.0 law.range_high.1 w

  -- Points that a leg may have are told by their octets.
  pub point_told : (p q : P) → InRange K p → InRange K q → point_octets K p ≡ point_octets K q → p ≡ q
  point_told p q hp hq e =
      law.same p q
      (λ i h. octets_same (K.coordinate p i) (K.coordinate q i) (admitted_fits _ (hp i h)) (admitted_fits _ (hq i h))
      (sym (coordinates_at K.dimension i (K.coordinate p) h) ∙ ap (λ (xs : List ℕ). take 8 (drop (8 * i) xs)) e ∙ coordinates_at K.dimension i (K.coordinate q) h))

  -- The point of zeros alone is the blank one.
  pub zero_blank : (p : P) → ((i : ℕ) → K.coordinate p i ≡ pos 0) → p ≡ blank K
  zero_blank p h = law.same p (blank K) (λ i l. h i ∙ sym (law.remade (λ _. pos 0) i l))
