-- The tests decide whether points and legs are the same, and a point may be drawn.
use Rattle.std.specs.Prelude.{◌≡◌, ℕ, zero, suc, ◌-◌, ◌≤◌, Bool, true, false, T, ◌&&◌, List, ℤ, pos, neg_ℤ, ◌≤ℤ◌, ◌<ℤ◌, int_le, int_lt, Some, None, Option, refl}
use Rattle.std.specs.Bool.{Decides}
use Rattle.std.specs.Cmp.Lexicographic.{pointwise}
use Rattle.std.specs.Int.Signed.{lt_z_yes}
use Rattle.std.specs.Option.{option_eq}
use Rattle.std.proofs.Common.{ap, subst, inl, inr, arith}
use Rattle.std.proofs.lemmas.Bool.{cases_lt}
use Rattle.std.proofs.lemmas.Bool.Decides.{Decides-and, Decides-eqb, Decides-int_eq, Decides-like}
use Rattle.std.proofs.lemmas.Float.{T_from_true}
use Rattle.std.proofs.lemmas.Slice.Eq.{slice_eq-Decides}
use Rattle.ordinate.specs.Kinds.{Between, Kind, Lawful}
use Rattle.distance.specs.Measures.{Reaches}
use Rattle.bezier.specs.Tests.{every}
use Rattle.leg.specs.declared.leg.Leg.{Leg}
use Rattle.leg.specs.declared.leg.Stretch.{Stretch}
use Rattle.turn.specs.Settings.{Setting}
use Rattle.cases.specs.Computed.{drawn, same_leg, same_legs, same_point, same_stretch}

all : (n : ℕ) (f : ℕ → Bool) (Q : ℕ → Type 0) → ((i : ℕ) → Decides (f i) (Q i)) → Decides (every n f) ((i : ℕ) → i ≤ n → Q i)
all zero f Q d = (λ h i l. let e : 0 ≡ i = omega arith in subst Q e ((d 0).0 h), λ p. (d 0).1 (p 0 (omega arith)))
all (suc n) f Q d =
    Decides-like (every n f && f (suc n))
    (λ p i l.
    elim (cases_lt i (suc n)) [
      | inl h ↦ p.0 i (omega arith)
      | inr h ↦ let e : suc n ≡ i = omega arith in subst Q e p.1
    ])
    (λ p. (λ i l. p i (omega arith), p (suc n) (omega arith)))
    (Decides-and (every n f) (f (suc n)) (all n f Q d) (d (suc n)))

stretch : (h i : Stretch) → Decides (same_stretch h i) (h ≡ i)
stretch h i =
    Decides-like (same_stretch h i)
    (λ p j. record { from = p.0.0.0 j; ticks = p.0.0.1 j; cell = record { depth = p.0.1 j; index = p.1 j } })
    (λ e. (((ap (λ (x : Stretch). x.from) e, ap (λ (x : Stretch). x.ticks) e), ap (λ (x : Stretch). x.cell.depth) e), ap (λ (x : Stretch). x.cell.index) e))
    (Decides-and _ _ (Decides-and _ _ (Decides-and _ _ (Decides-eqb h.from i.from) (Decides-eqb h.ticks i.ticks)) (Decides-eqb h.cell.depth i.cell.depth)) (Decides-eqb h.cell.index i.cell.index))

option : {X : Type 0} (E : X → X → Bool) → ((x y : X) → Decides (E x y) (x ≡ y)) → (o p : Option X) → Decides (option_eq E o p) (o ≡ p)
option E d None None = (λ h. refl, λ e. refl)
option E d None (Some y) = (λ h. absurd (cc), λ e. absurd (cc))
option E d (Some x) None = (λ h. absurd (cc), λ e. absurd (cc))
option E d (Some x) (Some y) = (λ h. ap Some ((d x y).0 h), λ e. (d x y).1 (cc))

-- `T b` says that b is true
true_of : (b : Bool) → T b → b ≡ true
true_of true t = refl
true_of false t = absurd t

pub up_to : (x y : ℤ) → Decides (int_le x y) (x ≤ℤ y)
up_to x y = (λ h. record { le = T_from_true (int_le x y) h }, λ l. true_of (int_le x y) l.le)

pub less : (x y : ℤ) → Decides (int_lt x y) (x <ℤ y)
less x y = (λ h. lt_z_yes (T_from_true (int_lt x y) h), λ l. true_of (int_lt x y) l.lt)

module _ {P : Type 0} (K : Kind P) (law : Lawful K) where
  pub point : (p q : P) → Decides (same_point K p q) (p ≡ q)
  point p q =
      Decides-like (same_point K p q) (λ h. law.same p q (λ i l. h i (omega arith))) (λ e i l. ap (λ (x : P). K.coordinate x i) e)
      (all (K.dimension - 1) _ (λ i. K.coordinate p i ≡ K.coordinate q i) (λ i. Decides-int_eq (K.coordinate p i) (K.coordinate q i)))

  leg : (l m : Leg P) → Decides (same_leg K l m) (l ≡ m)
  leg l m =
      Decides-like (same_leg K l m)
      (λ p j. record { stretch = p.0.0.0.0 j; degree = p.0.0.0.1 j; start = p.0.0.1 j; middle = p.0.1 j; end = p.1 j })
      (λ e. (
        (((ap (λ (x : Leg P). x.stretch) e, ap (λ (x : Leg P). x.degree) e), ap (λ (x : Leg P). x.start) e), ap (λ (x : Leg P). x.middle) e),
        ap (λ (x : Leg P). x.end) e,
      ))
      (Decides-and _ _ (Decides-and _ _ (Decides-and _ _ (Decides-and _ _ (stretch l.stretch m.stretch) (Decides-eqb l.degree m.degree)) (point l.start m.start)) (point l.middle m.middle)) (point l.end m.end))

  pub legs : (o p : Option (List (Leg P))) → Decides (same_legs K o p) (o ≡ p)
  legs o p = option (pointwise (same_leg K)) (λ xs ys. slice_eq-Decides leg xs ys (pointwise (same_leg K) xs ys) refl) o p

pub drawing : {P : Type 0} (A : Setting P) → Lawful A.kind → (p : P) → Decides (drawn A p) (Reaches A.kind A.measure.limit p)
drawing A law p =
    let some : 1 ≤ A.kind.dimension = law.some in
    Decides-like (drawn A p) (λ h i l. h i (omega arith)) (λ h i l. h i (omega arith))
    (all (A.kind.dimension - 1) _ (λ i. Between (neg_ℤ (pos A.measure.limit)) (pos A.measure.limit) (A.kind.coordinate p i)) (λ i. Decides-and _ _ (up_to (neg_ℤ (pos A.measure.limit)) (A.kind.coordinate p i)) (up_to (A.kind.coordinate p i) (pos A.measure.limit))))
