-- Lists of reasons beside one another: what decides in one decides in the other.
use Rattle.std.proofs.Common.{◌⊎◌, List, [], ◌∷◌, Some, None, Option, refl, ap, inl, inr}
use Rattle.std.proofs.lemmas.Option.{none-some}
use Rattle.std.specs.Option.{option_map}
use Rattle.leg.specs.Reasons.{Reason, because, First}

-- ---- reasons over the refusals E beside reasons over the refusals F, of which m gives those that answer to E's

module _ {E F : Type 0} (m : E → F) where
  -- Each reason holds where the one beside it holds, and with the refusal that answers to it.
  abbrev pub Beside : Reason E → Reason F → Type 0
  Beside r q = ((f : E) → r f → q (m f)) × ((f : F) → q f → (e : E) × r e)

  abbrev pub AllBeside : List (Reason E) → List (Reason F) → Type 0
  AllBeside [] [] = Unit {0}
  AllBeside [] (q ∷ qs) = ⊥
  AllBeside (r ∷ rs) [] = ⊥
  AllBeside (r ∷ rs) (q ∷ qs) = Beside r q × AllBeside rs qs

  pub first_beside : (rs : List (Reason E)) (qs : List (Reason F)) (o : Option E) → AllBeside rs qs → First rs o → First qs (option_map m o)
  first_beside [] [] o b h = ap (option_map m) h
  first_beside [] (q ∷ qs) o b h = absurd b
  first_beside (r ∷ rs) [] o b h = absurd b
  first_beside (r ∷ rs) (q ∷ qs) o b (inl h) = inl (m h.0, b.0.0 h.0 h.1, ap (option_map m) h.2)
  first_beside (r ∷ rs) (q ∷ qs) o b (inr h) = inr (λ f x. let y = b.0.1 f x in h.0 y.0 y.1, first_beside rs qs o b.1 h.1)

  pub because_beside : {X Y : Type 0} (f : E) → (X → Y) → (Y → X) → Beside (because X f) (because Y (m f))
  because_beside f to back = (λ e h. (to h.0, ap m h.1), λ e h. (f, (back h.0, refl)))

-- ---- no reason holds

abbrev pub NoneHolds : {E : Type 0} → List (Reason E) → Type 0
NoneHolds [] = Unit {0}
NoneHolds {E} (r ∷ rs) = ((f : E) → r f → ⊥) × NoneHolds rs

pub none_holds : {E : Type 0} (rs : List (Reason E)) → First rs None → NoneHolds rs
none_holds [] h = tt
none_holds (r ∷ rs) (inl h) = absurd (none-some h.0 h.2)
none_holds (r ∷ rs) (inr h) = (h.0, none_holds rs h.1)

-- ---- at least one

abbrev pub Decided : {E : Type 0} → Reason E → Type 0
Decided {E} r = ((f : E) × r f) ⊎ ((f : E) → r f → ⊥)

abbrev pub AllDecided : {E : Type 0} → List (Reason E) → Type 0
AllDecided [] = Unit {0}
AllDecided (r ∷ rs) = Decided r × AllDecided rs

pub some_answer : {E : Type 0} (rs : List (Reason E)) → AllDecided rs → (o : Option E) × First rs o
some_answer [] d = (None, refl)
some_answer {E} (r ∷ rs) d = go d.0 (some_answer rs d.1)
  where
    go : Decided r → (o : Option E) × First rs o → (o : Option E) × First (r ∷ rs) o
    go (inl h) s = (Some h.0, inl (h.0, h.1, refl))
    go (inr n) s = (s.0, inr (n, s.1))

pub because_decided : {E : Type 0} (X : Type 0) (f : E) → Dec X → Decided (because X f)
because_decided X f (yes x) = inl (f, (x, refl))
because_decided X f (no n) = inr (λ e h. n h.0)
