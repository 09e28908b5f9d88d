-- What is proved of lists of calls.
use Rattle.std.specs.Prelude.{◌≡◌, ◌≤◌, List, [], ◌∷◌, map}
use Rattle.leg.specs.Chains.{Chained, Each}
use Rattle.leg.specs.Legs.{IsLeg}
use Rattle.outlet.specs.Outlets.{Contents}
use Rattle.turn.specs.Calls.{Answer, Call, History, Progress, begun}
use Rattle.turn.specs.Outcomes.{Outcome}
use Rattle.turn.specs.Runs.{Performed, Reached, recorded}
use Rattle.turn.specs.Settings.{Setting}
use Rattle.turn.specs.Whole.{Whole}

abbrev pub made_calls : {P : Type 0} → History P → List (Call P)
made_calls h = map (λ x. x.0) h

module _ {P : Type 0} (A : Setting P) where
  -- The promise holds of a new draft and an empty outlet, and every call keeps it: so it holds after every list of calls.
  pub record StaysWhole : Type 0 where
    pub at_first : (c : Contents P) → c.legs ≡ [] → Whole A [] begun c
    pub kept : (h : History P) (call : Call P) (a : Answer) (g g' : Progress P) (c c' : Contents P)
        → Whole A h g c → Outcome A call g c a g' c' → Whole A ((call, a) ∷ h) g' c'
    pub reached : (h : History P) (g : Progress P) (c₀ c : Contents P) → c₀.legs ≡ [] → Reached A begun c₀ h g c → Whole A h g c
    pub performed : (calls : List (Call P)) (answers : List Answer) (g : Progress P) (c₀ c : Contents P)
        → c₀.legs ≡ [] → Performed A calls answers begun c₀ g c → Whole A (recorded [] calls answers) g c

  -- The promise leaves nothing open: after the same calls, over outlets of the same capacity, it allows one list of answers, one draft and one list of legs.
  abbrev pub Pinned : Type 0
  Pinned = (h₁ h₂ : History P) (g₁ g₂ : Progress P) (c₁ c₂ : Contents P) → made_calls h₁ ≡ made_calls h₂ → c₁.capacity ≡ c₂.capacity
      → Whole A h₁ g₁ c₁ → Whole A h₂ g₂ c₂ → (h₁ ≡ h₂) × (g₁ ≡ g₂) × (c₁ ≡ c₂)

  -- Every call has exactly one outcome, at any draft and any outlet: so every list of calls has exactly one run.
  pub record Exact : Type 0 where
    pub some_outcome : (call : Call P) (g : Progress P) (c : Contents P) → (a : Answer) × (g' : Progress P) × (c' : Contents P) × Outcome A call g c a g' c'
    pub one_outcome : (call : Call P) (a b : Answer) (g g₁ g₂ : Progress P) (c c₁ c₂ : Contents P)
        → Outcome A call g c a g₁ c₁ → Outcome A call g c b g₂ c₂ → (a ≡ b) × (g₁ ≡ g₂) × (c₁ ≡ c₂)
    pub some_run : (calls : List (Call P)) (g₀ : Progress P) (c₀ : Contents P)
        → (h : History P) × (g : Progress P) × (c : Contents P) × (made_calls h ≡ calls) × Reached A g₀ c₀ h g c
    pub one_run : (h₁ h₂ : History P) (g₀ g₁ g₂ : Progress P) (c₀ c₁ c₂ : Contents P) → made_calls h₁ ≡ made_calls h₂
        → Reached A g₀ c₀ h₁ g₁ c₁ → Reached A g₀ c₀ h₂ g₂ c₂ → (h₁ ≡ h₂) × (g₁ ≡ g₂) × (c₁ ≡ c₂)

  -- With a depth and an end as they may be agreed, the legs of a whole turn are legs, and they form a chain: so a card of them is one that its reader accepts.
  pub record Playable : Type 0 where
    pub legs : A.depth ≤ 10 → A.end ≤ 65536 → (h : History P) (g : Progress P) (c : Contents P) → Whole A h g c → Each (IsLeg A.kind) c.legs
    pub chained : (h : History P) (g : Progress P) (c : Contents P) → Whole A h g c → Chained c.legs
