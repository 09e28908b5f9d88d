-- Lists of calls, performed one after another.
use Rattle.std.specs.Prelude.{◌≡◌, ◌⊎◌, List, [], ◌∷◌}
use Rattle.outlet.specs.Outlets.{Contents}
use Rattle.turn.specs.Calls.{Answer, Call, History, Progress, Seals}
use Rattle.turn.specs.Outcomes.{Outcome}
use Rattle.turn.specs.Settings.{Setting}

module _ {P : Type 0} where
  -- The history h, followed by these calls in order, as many as there are answers.
  abbrev pub recorded : History P → List (Call P) → List Answer → History P
  recorded h calls [] = h
  recorded h [] (a ∷ answers) = h
  recorded h (c ∷ calls) (a ∷ answers) = recorded ((c, a) ∷ h) calls answers

  -- The calls are answered in order, up to the first accepted seal if there is one, and else all of them.
  abbrev pub AllAnswered : List (Call P) → List Answer → Type 0
  AllAnswered [] answers = answers ≡ []
  AllAnswered (c ∷ calls) [] = ⊥
  AllAnswered (c ∷ calls) (a ∷ answers) = (Seals c a × (answers ≡ [])) ⊎ ((Seals c a → ⊥) × AllAnswered calls answers)

module _ {P : Type 0} (A : Setting P) where
  -- Each call of the history had its outcome, on the draft and the outlet that the one before left; they were g₀ and c₀ before the first, and are g and c now.
  abbrev pub Reached : Progress P → Contents P → History P → Progress P → Contents P → Type 0
  Reached g₀ c₀ [] g c = (g ≡ g₀) × (c ≡ c₀)
  Reached g₀ c₀ (x ∷ h) g' c' = (g : Progress P) × (c : Contents P) × Reached g₀ c₀ h g c × Outcome A x.0 g c x.1 g' c'

  -- The calls were performed in order, an accepted seal being the last; these are their answers.
  pub record Performed (calls : List (Call P)) (answers : List Answer) (g₀ : Progress P) (c₀ : Contents P) (g : Progress P) (c : Contents P) : Type 0 where
    pub all : AllAnswered calls answers
    pub reached : Reached g₀ c₀ (recorded [] calls answers) g c
