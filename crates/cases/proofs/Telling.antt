-- What the tests of telling give is what the first leg that covers the tick does.
use Rattle.std.specs.Prelude.{◌≡◌, ℕ, ◌*◌, ◌≤◌, Bool, true, false, cond, is_none, List, [], ◌∷◌, length, ℤ, pos, negsuc, int_le, Some, None, Option, refl}
use Rattle.std.specs.Bool.{Decides}
use Rattle.std.proofs.Common.{subst, inl, inr, arith}
use Rattle.std.proofs.lemmas.Bool.Decides.{Decides-and, Decides-like, leb_tells}
use Rattle.ordinate.specs.Kinds.{Kind}
use Rattle.leg.specs.Chains.{Each}
use Rattle.leg.specs.Legs.{IsLeg}
use Rattle.leg.specs.Reasons.{First}
use Rattle.leg.specs.Ticks.{begins_at, cells, ends_at}
use Rattle.leg.specs.declared.leg.Leg.{Leg}
use Rattle.outlet.specs.Outlets.{Contents}
use Rattle.turn.specs.Calls.{whole_ticks}
use Rattle.turn.specs.declared.refusal.Refusal.TheVariants.{Foreign, NoLegThere, TickPastEnd}
use Rattle.planner.specs.Telling.{CoversTick, FirstTells, point_at, tell_reasons}
use Rattle.planner.specs.declared.sealed.Sealed.{Sealed}
use Rattle.cases.specs.Computed.{covers, first_of, first_told, tell_tests}
use Rattle.cases.proofs.Answering.{first, never, nothing, tested}
use Rattle.cases.proofs.Same.{less}

at_most : (a b : ℕ) → Decides (int_le (pos a) (pos b)) (a ≤ b)
at_most a b = elim (leb_tells a b) [ inl p ↦ (λ h. p.1, λ l. p.0) | inr p ↦ (λ h. absurd (cc), λ l. absurd (omega arith)) ]

module _ {P : Type 0} (K : Kind P) where
  covering : (l : Leg P) (a : ℤ) → IsLeg K l → Decides (covers l.stretch a) (CoversTick K l a)
  covering l (pos a) h =
      let s = l.stretch in
      Decides-like (covers s (pos a)) (λ x. (h, x)) (λ x. x.1) (Decides-and _ _ (at_most (begins_at s) (cells s * a)) (at_most (cells s * a) (ends_at s)))
  covering l (negsuc a) h = (λ e. absurd (cc), λ x. absurd x)

  pub telling : (ls : List (Leg P)) (a : ℤ) → Each (IsLeg K) ls → FirstTells K ls a (first_told K ls a)
  telling [] a e = refl
  telling (l ∷ ls) a e = go (covers l.stretch a) (covering l a e.0) (telling ls a e.1)
    where
      go : (b : Bool) → Decides b (CoversTick K l a) → FirstTells K ls a (first_told K ls a)
          → FirstTells K (l ∷ ls) a (cond b (Some (point_at K l (whole_ticks a))) (first_told K ls a))
      go true d t = inl (d.0 refl, refl)
      go false d t = inr (λ x. absurd (wrong (d.1 x)), t)
        where
          wrong : false ≡ true → ⊥
          wrong q = cc

  none_told : (ls : List (Leg P)) (a : ℤ) (o : Option P) → FirstTells K ls a o → FirstTells K ls a None → o ≡ None
  none_told [] a o h n = h
  none_told (l ∷ ls) a o h (inl n) = absurd (cc)
  none_told (l ∷ ls) a o (inl h) (inr n) = absurd (n.0 h.0)
  none_told (l ∷ ls) a o (inr h) (inr n) = none_told ls a o h.1 n.1

  told_nothing : (ls : List (Leg P)) (a : ℤ) → Each (IsLeg K) ls → Decides (is_none (first_told K ls a)) (FirstTells K ls a None)
  told_nothing ls a e =
      Decides-like (is_none (first_told K ls a)) (λ q. subst (FirstTells K ls a) q (telling ls a e)) (λ n. none_told ls a (first_told K ls a) (telling ls a e) n) (nothing (first_told K ls a))

  pub telling_nothing : {R : Type 0} (s : Sealed P R) (c : Contents P) (a : ℤ) → length c.legs ≡ s.count → Each (IsLeg K) c.legs
      → First (tell_reasons K s c a) (first_of (tell_tests K s.end c.legs a))
  telling_nothing s c a n e =
      first (tell_reasons K s c a) (tell_tests K s.end c.legs a)
      (never _ Foreign (λ h. h n), (tested _ _ TickPastEnd (less (pos s.end) a), (tested _ _ NoLegThere (told_nothing c.legs a e), tt)))
