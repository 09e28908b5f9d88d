-- What a leg and a list of legs tell.
use Rattle.std.proofs.Common.{◌≡◌, ℕ, ◌+◌, ◌<◌, ◌≤◌, List, [], ◌∷◌, ◌++◌, length, get_or, drop, Some, None, Option, sym, refl, subst, inl, inr, add-one, arith, drop-cons, MatchOption}
use Rattle.std.proofs.lemmas.List.{drop_all}
use Rattle.ordinate.specs.declared.flow.Flow.{Flow}
use Rattle.leg.specs.Values.{Tells, FirstTells}
use Rattle.leg.specs.declared.leg.Leg.{Leg}

-- ---- the first leg that tells
module _ (a : ℕ) where
  pub first_from : (ls : List (Leg Flow)) (i : ℕ) (d : Leg Flow) → i < length ls → ((v : Flow) → Tells (get_or ls i d) a v → ⊥)
      → (r : Option Flow) → FirstTells (drop (i + 1) ls) a r → FirstTells (drop i ls) a r
  first_from ls i d h n r f =
      subst (λ (xs : List (Leg Flow)). FirstTells xs a r) (sym (drop-cons ls i d h)) (inr (n, subst (λ (k : ℕ). FirstTells (drop k ls) a r) (add-one i) f))

  pub first_here : (ls : List (Leg Flow)) (i : ℕ) (d : Leg Flow) → i < length ls → (v : Flow) → Tells (get_or ls i d) a v → FirstTells (drop i ls) a (Some v)
  first_here ls i d h v t = subst (λ (xs : List (Leg Flow)). FirstTells xs a (Some v)) (sym (drop-cons ls i d h)) (inl (v, t, refl))

  pub first_none : (ls : List (Leg Flow)) (i : ℕ) → length ls ≤ i → FirstTells (drop i ls) a None
  first_none ls i h = subst (λ (xs : List (Leg Flow)). FirstTells xs a None) (sym (drop_all i ls h)) refl

  -- One leg more at the end: it is heard only where none before told.
  pub first_push_told : (ls : List (Leg Flow)) (l : Leg Flow) (r : Option Flow) → (r ≡ None → ⊥) → FirstTells ls a r → FirstTells (ls ++ (l ∷ [])) a r
  first_push_told [] l r n e = absurd (n e)
  first_push_told (m ∷ ls) l r n (inl t) = inl t
  first_push_told (m ∷ ls) l r n (inr t) = inr (t.0, first_push_told ls l r n t.1)

  pub first_push_untold : (ls : List (Leg Flow)) (l : Leg Flow) (o r : Option Flow) → o ≡ None → MatchOption r ((v : Flow) → Tells l a v → ⊥) (λ v. Tells l a v) → FirstTells ls a o → FirstTells (ls ++ (l ∷ [])) a r
  first_push_untold [] l o None n t f = inr (t, refl)
  first_push_untold [] l o (Some v) n t f = inl (v, t, refl)
  first_push_untold (m ∷ ls) l o r n t (inl f) = let e = f.2 in let z : ◌≡◌ {A = ℕ} 0 1 = cc in absurd (omega arith)
  first_push_untold (m ∷ ls) l o r n t (inr f) = inr (f.0, first_push_untold ls l o r n t f.1)
