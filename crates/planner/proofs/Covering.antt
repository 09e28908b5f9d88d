-- Looking for the first leg that covers a tick, from the first leg on.
use Rattle.std.specs.Prelude.{◌≡◌, ℕ, zero, suc, ◌<◌, ◌≤◌, List, [], ◌∷◌, length, take, ℤ, pos, negsuc, ◌<ℤ◌, ◌≤ℤ◌, None, Option, Some, refl}
use Rattle.std.proofs.Common.{ap, arith, get_or, inl, inr, subst}
use lib.IntN.{nat_abs}
use Rattle.std.proofs.lemmas.Int.{ints}
use Rattle.std.proofs.lemmas.List.{take_all}
use Rattle.std.specs.Option.{ok_or}
use Rattle.ordinate.specs.Kinds.{Kind}
use Rattle.leg.specs.Reasons.{First, because, refusal}
use Rattle.turn.specs.declared.refusal.Refusal.TheVariants.{NoLegThere}
use Rattle.leg.specs.declared.leg.Leg.{Leg}
use Rattle.planner.specs.Telling.{CoversTick, FirstTells, point_at}
use Rattle.turn.specs.Calls.{whole_ticks}

module _ {P : Type 0} (K : Kind P) (a : ℤ) where
  pub none_more : (ls : List (Leg P)) (i : ℕ) (l : Leg P) → i < length ls → l ≡ get_or ls i l → FirstTells K (take i ls) a None → (CoversTick K l a → ⊥) → FirstTells K (take (suc i) ls) a None
  none_more [] i l h e f n = absurd (omega arith)
  none_more (x ∷ ls) zero l h e f n = inr (subst (λ (y : Leg P). CoversTick K y a → ⊥) e n, refl)
  none_more (x ∷ ls) (suc i) l h e (inl f) n = absurd (let q = f.1 in cc)
  none_more (x ∷ ls) (suc i) l h e (inr f) n = inr (f.0, none_more ls i l (omega arith) e f.1 n)

  pub found : (ls : List (Leg P)) (i : ℕ) (l : Leg P) → i < length ls → l ≡ get_or ls i l → FirstTells K (take i ls) a None → CoversTick K l a → FirstTells K ls a (Some (point_at K l (whole_ticks a)))
  found [] i l h e f w = absurd (omega arith)
  found (x ∷ ls) zero l h e f w = inl (subst (λ (y : Leg P). CoversTick K y a) e w, ap (λ (y : Leg P). Some (point_at K y (whole_ticks a))) e)
  found (x ∷ ls) (suc i) l h e (inl f) w = absurd (let q = f.1 in cc)
  found (x ∷ ls) (suc i) l h e (inr f) w = inr (f.0, found ls i l (omega arith) e f.1 w)

  pub none_found : (ls : List (Leg P)) (i : ℕ) → length ls ≤ i → FirstTells K (take i ls) a None → FirstTells K ls a None
  none_found ls i h f = subst (λ (ks : List (Leg P)). FirstTells K ks a None) (take_all i ls h) f

  -- no leg covers a tick below 0
  pub none_covers : (ls : List (Leg P)) → ((l : Leg P) → CoversTick K l a → ⊥) → FirstTells K ls a None
  none_covers [] n = refl
  none_covers (l ∷ ls) n = inr (n l, none_covers ls n)

  -- what is told is told once
  pub not_none : (ls : List (Leg P)) (p : P) → FirstTells K ls a (Some p) → FirstTells K ls a None → ⊥
  not_none [] p f g = cc
  not_none (l ∷ ls) p (inl f) (inl g) = let q = g.1 in cc
  not_none (l ∷ ls) p (inl f) (inr g) = g.0 f.0
  not_none (l ∷ ls) p (inr f) (inl g) = let q = g.1 in cc
  not_none (l ∷ ls) p (inr f) (inr g) = not_none ls p f.1 g.1

  -- and decides whether the tick is refused
  pub told_first : (ls : List (Leg P)) (r : Option P) → FirstTells K ls a r → First (because (FirstTells K ls a None) NoLegThere ∷ []) (refusal (ok_or r NoLegThere))
  told_first ls None t = inl (NoLegThere, (t, refl), refl)
  told_first ls (Some p) t = inr ((λ f y. not_none ls p t y.0), refl)

pub below_zero : {P : Type 0} (K : Kind P) (a : ℤ) → a <ℤ pos 0 → (l : Leg P) → CoversTick K l a → ⊥
below_zero K (pos n) h l w = absurd (omega (arith, ints))
below_zero K (negsuc n) h l w = w

pub from_zero : (a z : ℤ) → z ≡ a → pos 0 ≤ℤ a → pos (nat_abs z) ≡ a
from_zero (pos n) z e h = ap (λ (x : ℤ). pos (nat_abs x)) e
from_zero (negsuc n) z e h = absurd (omega (arith, ints))
