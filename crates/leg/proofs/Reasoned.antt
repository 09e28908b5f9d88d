-- Reasons one after another.
use Rattle.std.proofs.Common.{◌≡◌, ℕ, List, [], ◌∷◌, ◌++◌, Some, None, Option, sym, ap, ◌∙◌, inl, inr, arith}
use Rattle.leg.specs.Reasons.{Reason, because, First}

module _ {E : Type 0} where
  -- where none of the first reasons holds, the others decide
  pub first_later : (rs qs : List (Reason E)) (a : Option E) → First rs None → First qs a → First (rs ++ qs) a
  first_later [] qs a h k = k
  first_later (r ∷ rs) qs a (inl h) k = absurd (let z : ◌≡◌ {A = ℕ} 0 1 = let e = h.2 in cc in omega arith)
  first_later (r ∷ rs) qs a (inr h) k = inr (h.0, first_later rs qs a h.1 k)

  -- a refusal by the first reasons is one by all
  pub first_now : (rs qs : List (Reason E)) (f : E) → First rs (Some f) → First (rs ++ qs) (Some f)
  first_now [] qs f h = absurd (let z : ◌≡◌ {A = ℕ} 0 1 = cc in omega arith)
  first_now (r ∷ rs) qs f (inl h) = inl h
  first_now (r ∷ rs) qs f (inr h) = inr (h.0, first_now rs qs f h.1)

  -- ---- at most one answer

  abbrev pub Single : Reason E → Type 0
  Single r = (e f : E) → r e → r f → e ≡ f

  abbrev pub AllSingle : List (Reason E) → Type 0
  AllSingle [] = Unit {0}
  AllSingle (r ∷ rs) = Single r × AllSingle rs

  pub because_single : (X : Type 0) (f : E) → Single (because X f)
  because_single X f d e h k = h.1 ∙ sym k.1

  pub one_answer : (rs : List (Reason E)) → AllSingle rs → (o p : Option E) → First rs o → First rs p → o ≡ p
  one_answer [] s o p h k = h ∙ sym k
  one_answer (r ∷ rs) s o p (inl h) (inl k) = h.2 ∙ ap Some (s.0 h.0 k.0 h.1 k.1) ∙ sym k.2
  one_answer (r ∷ rs) s o p (inl h) (inr k) = absurd (k.0 h.0 h.1)
  one_answer (r ∷ rs) s o p (inr h) (inl k) = absurd (h.0 k.0 k.1)
  one_answer (r ∷ rs) s o p (inr h) (inr k) = one_answer rs s.1 o p h.1 k.1
