-- The halves of a curve's points, and the points of its cells: how many they are, where they begin and end, and that they stay between -c and c.
use Rattle.std.proofs.Common.{◌≡◌, ℕ, zero, suc, ◌+◌, ◌-◌, ◌*◌, ◌/◌, ◌%◌, ◌<◌, List, [], ◌∷◌, length, ℤ, pos, negsuc, ◌+ℤ◌, neg_ℤ, sym, refl, ap, ◌∙◌, subst, ap₂, arith}
use borrow.Author.Differences.{ints}
use lib.Signed.{shr_z}
use Rattle.ordinate.specs.Kinds.{Kind, Lawful, Between}
use Rattle.distance.specs.Vectors.{half}
use Rattle.distance.specs.Measures.{Inside, Reaches, halfway, point}
use Rattle.bezier.specs.Bernstein.{degree_of}
use Rattle.bezier.specs.Rounds.{left_half, right_half, half_points, cell_points}
use Rattle.bezier.proofs.Rounds.{rounded, rounded_keeps, length_firsts, length_lasts, firsts_at, lasts_at}

module _ {P : Type 0} (K : Kind P) where
  pub length_left : (ps : List P) → length (left_half K ps) ≡ length ps
  length_left ps = length_firsts K (length ps) ps

  pub length_right : (ps : List P) → length (right_half K ps) ≡ length ps
  length_right ps = length_lasts K (length ps) ps

  length_half : (b : ℕ) (ps : List P) → length (half_points K b ps) ≡ length ps
  length_half zero ps = length_left ps
  length_half (suc b) ps = length_right ps

  pub length_cell : (d k : ℕ) (ps : List P) → length (cell_points K d k ps) ≡ length ps
  length_cell zero k ps = refl
  length_cell (suc d) k ps = length_half (k % 2) (cell_points K d (k / 2) ps) ∙ length_cell d (k / 2) ps

  -- ---- the halves of a cell are cells
  pub left_cell : (d k : ℕ) (ps : List P) → cell_points K (suc d) (2 * k) ps ≡ left_half K (cell_points K d k ps)
  left_cell d k ps =
      let e : (2 * k) % 2 ≡ 0 = omega arith in
      let f : (2 * k) / 2 ≡ k = omega arith in
      ap₂ (λ (b i : ℕ). half_points K b (cell_points K d i ps)) e f

  pub right_cell : (d k : ℕ) (ps : List P) → cell_points K (suc d) (2 * k + 1) ps ≡ right_half K (cell_points K d k ps)
  right_cell d k ps =
      let e : (2 * k + 1) % 2 ≡ 1 = omega arith in
      let f : (2 * k + 1) / 2 ≡ k = omega arith in
      ap₂ (λ (b i : ℕ). half_points K b (cell_points K d i ps)) e f

  -- ---- by place
  pub left_at : (ps : List P) (j : ℕ) → j < length ps → point K (left_half K ps) j ≡ rounded (halfway K) j (point K ps) 0
  left_at ps j h = firsts_at K (length ps) ps (omega arith) j h

  pub right_at : (ps : List P) (j : ℕ) → j < length ps → point K (right_half K ps) j ≡ rounded (halfway K) (degree_of K ps - j) (point K ps) j
  right_at ps j h = lasts_at K (length ps) ps (omega arith) j h

  -- ---- the ends
  pub left_first : (ps : List P) → point K (left_half K ps) 0 ≡ point K ps 0
  left_first [] = refl
  left_first (p ∷ ps) = refl

  pub halves_meet : (ps : List P) → point K (left_half K ps) (degree_of K (left_half K ps)) ≡ point K (right_half K ps) 0
  halves_meet [] = refl
  halves_meet (p ∷ ps) =
      let qs : List P = p ∷ ps in
      let e : degree_of K (left_half K qs) ≡ degree_of K qs = ap (λ (n : ℕ). n - 1) (length_left qs) in
      let z : degree_of K qs ≡ degree_of K qs - 0 = omega arith in
      ap (point K (left_half K qs)) e ∙ left_at qs (degree_of K qs) (omega arith) ∙ ap (λ (k : ℕ). rounded (halfway K) k (point K qs) 0) z ∙ sym (right_at qs 0 (omega arith))

  pub right_last : (ps : List P) → point K (right_half K ps) (degree_of K (right_half K ps)) ≡ point K ps (degree_of K ps)
  right_last [] = refl
  right_last (p ∷ ps) =
      let qs : List P = p ∷ ps in
      let e : degree_of K (right_half K qs) ≡ degree_of K qs = ap (λ (n : ℕ). n - 1) (length_right qs) in
      let z : degree_of K qs - degree_of K qs ≡ 0 = omega arith in
      ap (point K (right_half K qs)) e ∙ right_at qs (degree_of K qs) (omega arith) ∙ ap (λ (k : ℕ). rounded (halfway K) k (point K qs) (degree_of K qs)) z

-- ---- points between -c and c
half_between : (c : ℕ) (z : ℤ) → Between (neg_ℤ (pos (2 * c))) (pos (2 * c)) z → Between (neg_ℤ (pos c)) (pos c) (shr_z z 2)
half_between c (pos n) h = (omega (arith, ints), omega (arith, ints))
half_between c (negsuc n) h = (omega (arith, ints), omega (arith, ints))

sum_between : (c : ℕ) (a b : ℤ) → Between (neg_ℤ (pos c)) (pos c) a → Between (neg_ℤ (pos c)) (pos c) b → Between (neg_ℤ (pos (2 * c))) (pos (2 * c)) (a +ℤ b)
sum_between c a b h k = (omega (arith, ints), omega (arith, ints))

module _ {P : Type 0} (K : Kind P) (law : Lawful K) (c : ℕ) where
  halfway_reaches : (a b : P) → Reaches K c a → Reaches K c b → Reaches K c (halfway K a b)
  halfway_reaches a b h k i l =
      subst (Between (neg_ℤ (pos c)) (pos c)) (sym (law.remade (half (K.coordinate a) (K.coordinate b)) i l))
      (half_between c (K.coordinate a i +ℤ K.coordinate b i) (sum_between c (K.coordinate a i) (K.coordinate b i) (h i l) (k i l)))

  pub inside_left : (ps : List P) → Inside K c ps → Inside K c (left_half K ps)
  inside_left ps h j l =
      let e = length_left K ps in
      let m : j < length ps = omega arith in
      subst (Reaches K c) (sym (left_at K ps j m)) (rounded_keeps (halfway K) (Reaches K c) halfway_reaches j 0 (point K ps) (λ i o. h i (omega arith)))

  pub inside_right : (ps : List P) → Inside K c ps → Inside K c (right_half K ps)
  inside_right ps h j l =
      let e = length_right K ps in
      let m : j < length ps = omega arith in
      subst (Reaches K c) (sym (right_at K ps j m)) (rounded_keeps (halfway K) (Reaches K c) halfway_reaches (degree_of K ps - j) j (point K ps) (λ i o. h i (omega arith)))

  inside_half : (b : ℕ) (ps : List P) → Inside K c ps → Inside K c (half_points K b ps)
  inside_half zero ps h = inside_left ps h
  inside_half (suc b) ps h = inside_right ps h

  pub inside_cell : (d k : ℕ) (ps : List P) → Inside K c ps → Inside K c (cell_points K d k ps)
  inside_cell zero k ps h = h
  inside_cell (suc d) k ps h = inside_half (k % 2) (cell_points K d (k / 2) ps) (inside_cell d (k / 2) ps h)
