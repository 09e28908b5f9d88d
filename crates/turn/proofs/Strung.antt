-- The legs of a curve lead from its first point to its last, each from where the one before ended.
use Rattle.std.proofs.Common.{◌≡◌, ℕ, zero, suc, ◌+◌, ◌*◌, ◌≤◌, Bool, true, false, List, [], ◌∷◌, ◌++◌, map, length, Some, None, Option, sym, refl, ap, ◌∙◌, subst, subst₂, arith}
use Rattle.std.proofs.lemmas.List.{map-append}
use Rattle.ordinate.specs.Kinds.{Kind}
use Rattle.distance.specs.Measures.{Measure, point}
use Rattle.bezier.specs.Bernstein.{degree_of}
use Rattle.bezier.specs.Reductions.{Rule}
use Rattle.bezier.specs.Rounds.{cell_points, left_half, right_half}
use Rattle.bezier.proofs.Parts.{halves_meet, left_cell, left_first, right_cell, right_last}
use Rattle.leg.specs.Chains.{Joined, last_or}
use Rattle.leg.specs.declared.leg.Cell.{Cell}
use Rattle.leg.specs.declared.leg.Leg.{Leg}
use Rattle.curve.specs.Cells.{alone_or, both, halve, halving, left, right, whole}
use Rattle.curve.specs.Legs.{leg_of}
use Rattle.turn.specs.Calls.{end_of, last_leg}
use Rattle.turn.specs.Reasons.{Continues}

module _ {P : Type 0} where
  abbrev pub Strung : P → List (Leg P) → P → Type 0
  Strung p [] q = p ≡ q
  Strung p (l ∷ ls) q = (l.start ≡ p) × Strung l.end ls q

  strung_append : (p q r : P) (xs ys : List (Leg P)) → Strung p xs q → Strung q ys r → Strung p (xs ++ ys) r
  strung_append p q r [] ys h k = subst (λ (a : P). Strung a ys r) (sym h) k
  strung_append p q r (x ∷ xs) ys h k = (h.0, strung_append x.end q r xs ys h.1 k)

  strung_end : (l : Leg P) (ls : List (Leg P)) (q : P) → Strung l.end ls q → end_of (last_or (Some l) ls) ≡ Some q
  strung_end l [] q h = ap Some h
  strung_end l (x ∷ ls) q h = strung_end x ls q h.1

  pub strung_arrives : (p q : P) (ls : List (Leg P)) → 1 ≤ length ls → Strung p ls q → end_of (last_leg ls) ≡ Some q
  strung_arrives p q [] h k = absurd (omega arith)
  strung_arrives p q (l ∷ ls) h k = strung_end l ls q k.1

  strung_joined : (l : Leg P) (q : P) (ls : List (Leg P)) → Strung l.end ls q → Joined (Some l) ls
  strung_joined l q [] h = tt
  strung_joined l q (x ∷ ls) h = (h.0, strung_joined x q ls h.1)

  pub strung_follows : (o : Option (Leg P)) (p q : P) (ls : List (Leg P)) → Continues (end_of o) p → Strung p ls q → Joined o ls
  strung_follows None p q [] c h = tt
  strung_follows None p q (l ∷ ls) c h = (tt, strung_joined l q ls h.1)
  strung_follows (Some k) p q [] c h = tt
  strung_follows (Some k) p q (l ∷ ls) c h = (h.0 ∙ c, strung_joined l q ls h.1)

  pub joined_append : (o : Option (Leg P)) (xs ys : List (Leg P)) → Joined o xs → Joined (last_or o xs) ys → Joined o (xs ++ ys)
  joined_append o [] ys h k = k
  joined_append o (x ∷ xs) ys h k = (h.0, joined_append (Some x) xs ys h.1 k)

  pub joined_front : (o : Option (Leg P)) (xs ys : List (Leg P)) → Joined o (xs ++ ys) → Joined o xs
  joined_front o [] ys h = tt
  joined_front o (x ∷ xs) ys h = (h.0, joined_front (Some x) xs ys h.1)

module _ {P : Type 0} (K : Kind P) (M : Measure) (R : Rule P) (S L : ℕ) (ps : List P) where
  abbrev leg : Cell → Leg P
  leg c = leg_of K M R S L ps c

  points_left : (c : Cell) → cell_points K (c.depth + 1) (2 * c.index) ps ≡ left_half K (cell_points K c.depth c.index ps)
  points_left c = let e : c.depth + 1 ≡ suc c.depth = omega arith in ap (λ (n : ℕ). cell_points K n (2 * c.index) ps) e ∙ left_cell K c.depth c.index ps

  points_right : (c : Cell) → cell_points K (c.depth + 1) (2 * c.index + 1) ps ≡ right_half K (cell_points K c.depth c.index ps)
  points_right c = let e : c.depth + 1 ≡ suc c.depth = omega arith in ap (λ (n : ℕ). cell_points K n (2 * c.index + 1) ps) e ∙ right_cell K c.depth c.index ps

  -- ---- what a cell's halves share with it, and with one another
  starts_left : (c : Cell) → (leg (left c)).start ≡ (leg c).start
  starts_left c = ap (λ qs. point K qs 0) (points_left c) ∙ left_first K (cell_points K c.depth c.index ps)

  ends_right : (c : Cell) → (leg (right c)).end ≡ (leg c).end
  ends_right c = ap (λ qs. point K qs (degree_of K qs)) (points_right c) ∙ right_last K (cell_points K c.depth c.index ps)

  meets : (c : Cell) → (leg (left c)).end ≡ (leg (right c)).start
  meets c =
      ap (λ qs. point K qs (degree_of K qs)) (points_left c) ∙ halves_meet K (cell_points K c.depth c.index ps) ∙ sym (ap (λ qs. point K qs 0) (points_right c))

  -- ---- the halving's cells
  abbrev IfStrung : Cell → Option (List Cell) → Type 0
  IfStrung c None = Unit {0}
  IfStrung c (Some cs) = Strung (leg c).start (map leg cs) (leg c).end

  strung_both : (c : Cell) (l r : Option (List Cell)) → IfStrung (left c) l → IfStrung (right c) r → IfStrung c (both l r)
  strung_both c None r h k = tt
  strung_both c (Some xs) None h k = tt
  strung_both c (Some xs) (Some ys) h k =
      subst (λ ls. Strung (leg c).start ls (leg c).end) (sym (map-append leg xs ys))
      (subst₂ (λ (a b : P). Strung a (map leg xs ++ map leg ys) b) (starts_left c) (ends_right c)
      (strung_append (leg (left c)).start (leg (right c)).start (leg (right c)).end (map leg xs) (map leg ys)
      (subst (λ (b : P). Strung (leg (left c)).start (map leg xs) b) (meets c) h) k))

  strung_or : (c : Cell) (b : Bool) (o : Option (List Cell)) → IfStrung c o → IfStrung c (alone_or b c o)
  strung_or c true o h = (refl, refl)
  strung_or c false o h = h

  module _ (passes : Cell → Bool) where
    if_strung : (more : ℕ) (c : Cell) → IfStrung c (halve passes left right more c)
    if_strung zero c = strung_or c (passes c) None tt
    if_strung (suc more) c =
        strung_or c (passes c) _ (strung_both c _ _ (if_strung more (left c)) (if_strung more (right c)))

    pub halving_strung : (D : ℕ) (cs : List Cell) → halving D passes ≡ Some cs → Strung (point K ps 0) (map leg cs) (point K ps (degree_of K ps))
    halving_strung D cs e = subst (IfStrung whole) e (if_strung D whole)
