-- The line of a leg fits.
use Rattle.std.proofs.Common.{◌≡◌, ℕ, ◌^◌, ◌<◌, ◌≤◌, ◌⊎◌, [], ◌∷◌, length, get_or, ℤ, pos, negsuc, codes, sym, refl, ap, ◌∙◌, subst, ⊎_elim, arith}
use Rattle.std.proofs.lemmas.Int.{ints}
use Rattle.std.proofs.Math.Nat.{pow-le-pow_right}
use Rattle.std.proofs.lemmas.List.FromFn.{length-map-range_with_len, get_or-map-range_with_len}
use Rattle.ordinate.specs.Kinds.{Kind, Between, InRange}
use Rattle.leg.specs.Legs.{Stands, IsLeg}
use Rattle.leg.specs.declared.leg.Leg.{Leg}
use Rattle.leg.specs.declared.leg.Stretch.{Stretch}
use Rattle.decimal.specs.Numbers.{HasFewDigits}
use Rattle.plan_text.specs.declared.form.At.{At}
use Rattle.plan_text.specs.declared.form.At.TheVariants.{One, Two}
use Rattle.plan_text.specs.Texts.{spaced, listed}
use Rattle.plan_text.specs.Forms.{at_text, IsTypedAt}
use Rattle.plan_text.specs.Notations.{numbers_of, coordinates_of, HasFewDigitsEach}
use Rattle.plan_text.specs.Printing.{natural_text, natural_field, leg_line}
use Rattle.plan_text.proofs.Sizes.{two_size, line_size, spaced_size, natural_size, field_size, at_size}

-- ---- points of a leg have few digits

few_between : (low high z : ℤ) → HasFewDigits low → HasFewDigits high → Between low high z → HasFewDigits z
few_between low (pos h) (pos n) a b w = omega (arith, ints)
few_between low (negsuc h) (pos n) a b w = absurd (omega (arith, ints))
few_between (pos l) high (negsuc n) a b w = absurd (omega (arith, ints))
few_between (negsuc l) high (negsuc n) a b w = omega (arith, ints)

module _ {P : Type 0} (K : Kind P) (at : P → At) (same : (p : P) → numbers_of (at p) ≡ coordinates_of K p) (few : HasFewDigitsEach K) where
  -- the number i of a point is its coordinate i
  number_few : (p : P) → InRange K p → (i : ℕ) → i < length (numbers_of (at p)) → HasFewDigits (get_or (numbers_of (at p)) i (pos 0))
  number_few p h i l =
      let long : length (numbers_of (at p)) ≡ K.dimension = ap length (same p) ∙ length-map-range_with_len (K.coordinate p) 0 K.dimension in
      let here : i < K.dimension = omega (arith, long) in
      let is : get_or (numbers_of (at p)) i (pos 0) ≡ K.coordinate p i = ap (λ xs. get_or xs i (pos 0)) (same p) ∙ get_or-map-range_with_len (K.coordinate p) 0 K.dimension i i (pos 0) here (omega arith) in
      subst HasFewDigits (sym is) (few_between K.least K.greatest (K.coordinate p i) few.0 few.1 (h i here))

  typed_numbers : (a : At) → ((i : ℕ) → i < length (numbers_of a) → HasFewDigits (get_or (numbers_of a) i (pos 0))) → IsTypedAt a
  typed_numbers (One a) f = f 0 (omega arith)
  typed_numbers (Two a b) f = (f 0 (omega arith), f 1 (omega arith))

  pub point_size : (p : P) → InRange K p → (a : At) → a ≡ at p → length (spaced (at_text a ∷ [])) ≤ 29
  point_size p h a e = at_size a (subst IsTypedAt (sym e) (typed_numbers (at p) (number_few p h)))

-- ---- its ticks, cell and degree

module _ (h : Stretch) (s : Stands h) where
  pub from_size : length (spaced (natural_field (codes "from") h.from ∷ [])) ≤ 13
  from_size = field_size 5 h.from (codes "from") (omega arith) (omega (arith, s.begins)) (omega (arith, s.begins))

  pub ticks_size : length (spaced (natural_field (codes "ticks") h.ticks ∷ [])) ≤ 13
  ticks_size = field_size 4 h.ticks (codes "ticks") (omega arith) (omega (arith, s.brief)) (omega (arith, s.brief))

  pub cell_size : length (spaced (listed (codes "cell") (natural_text h.cell.depth ∷ natural_text h.cell.index ∷ []) ∷ [])) ≤ 15
  cell_size =
      let cells : 2 ^ h.cell.depth ≤ 2 ^ 10 = pow-le-pow_right (omega arith) s.shallow in
      let small : h.cell.index < 1024 = omega (arith, s.inside, cells) in
      omega (
        arith,
        two_size (codes "cell") (natural_text h.cell.depth) (natural_text h.cell.index),
        natural_size 2 h.cell.depth (omega arith) (omega (arith, s.shallow)) (omega (arith, s.shallow)),
        natural_size 4 h.cell.index (omega arith) (omega (arith, small)) (omega (arith, small)),
      )

pub degree_size : (m : ℕ) → (m ≡ 1) ⊎ (m ≡ 2) → length (spaced (natural_field (codes "degree") m ∷ [])) ≤ 11
degree_size m e =
    let small : m ≤ 2 = ⊎_elim (λ (x : m ≡ 1). omega arith) (λ (x : m ≡ 2). omega arith) e in
    field_size 1 m (codes "degree") (omega arith) (omega arith) (omega arith)

-- ---- the whole

module _ {P : Type 0} (K : Kind P) (at : P → At) (same : (p : P) → numbers_of (at p) ≡ coordinates_of K p) (few : HasFewDigitsEach K) where
  pub leg_size : (l : Leg P) → IsLeg K l → length (leg_line at l) ≤ 145
  unfolding leg_line
  leg_size l h =
      let from = natural_field (codes "from") l.stretch.from in
      let ticks = natural_field (codes "ticks") l.stretch.ticks in
      let cell = listed (codes "cell") (natural_text l.stretch.cell.depth ∷ natural_text l.stretch.cell.index ∷ []) in
      let degree = natural_field (codes "degree") l.degree in
      let a = at_text (at l.start) in
      let b = at_text (at l.middle) in
      let c = at_text (at l.end) in
      omega (
        arith,
        line_size (codes "leg") (from ∷ ticks ∷ cell ∷ degree ∷ a ∷ b ∷ c ∷ []),
        spaced_size from (ticks ∷ cell ∷ degree ∷ a ∷ b ∷ c ∷ []),
        spaced_size ticks (cell ∷ degree ∷ a ∷ b ∷ c ∷ []),
        spaced_size cell (degree ∷ a ∷ b ∷ c ∷ []),
        spaced_size degree (a ∷ b ∷ c ∷ []),
        spaced_size a (b ∷ c ∷ []),
        spaced_size b (c ∷ []),
        from_size l.stretch h.place,
        ticks_size l.stretch h.place,
        cell_size l.stretch h.place,
        degree_size l.degree h.one_or_two,
        point_size K at same few l.start h.start_in (at l.start) refl,
        point_size K at same few l.middle h.middle_in (at l.middle) refl,
        point_size K at same few l.end h.end_in (at l.end) refl,
      )
