-- How a list of calls is performed: what a loop over the calls knows, and what it has to show at each.
use Rattle.std.proofs.Common.{◌≡◌, ℕ, List, [], ◌∷◌, ◌++◌, length, Some, sym, refl, ap, ◌∙◌, subst, inl, inr, arith, ◌<◌, get_or}
use Rattle.std.proofs.lemmas.Option.{none-some, same_Some, slice_get-get_or, slice_get-map}
use Rattle.std.specs.List.{slice_get}
use Rattle.std.specs.Option.{option_map}
use Rattle.outlet.specs.Outlets.{Contents}
use Rattle.turn.specs.Calls.{Answer, Call, History, Progress, Seals, call_of, calls_of}
use Rattle.turn.specs.Outcomes.{Outcome}
use Rattle.turn.specs.Runs.{AllAnswered, Performed, Reached, recorded}
use Rattle.turn.specs.Settings.{Setting}
use Rattle.turn.specs.declared.call.Call.{Call as CodeCall}

-- The call that a loop over the program's list has in hand, where so many are answered.
pub call_at : {P : Type 0} (calls : List (CodeCall P)) (answers : List Answer) (i : ℕ) (c : CodeCall P) → length answers ≡ i → i < length calls → c ≡ get_or calls i c
    → slice_get (calls_of calls) (length answers) ≡ Some (call_of c)
call_at calls answers i c n l e =
    ap (slice_get (calls_of calls)) n ∙ slice_get-map call_of calls i ∙ ap (option_map call_of) (slice_get-get_or calls i c l ∙ ap Some (sym e))

module _ {P : Type 0} where
  pub recorded_next : (h : History P) (calls : List (Call P)) (answers : List Answer) (c : Call P) (a : Answer) → slice_get calls (length answers) ≡ Some c
      → recorded h calls (answers ++ (a ∷ [])) ≡ (c, a) ∷ recorded h calls answers
  recorded_next h [] answers c a e = absurd (none-some c e)
  recorded_next h (d ∷ calls) [] c a e = ap (λ (x : Call P). (x, a) ∷ h) (same_Some d c e)
  recorded_next h (d ∷ calls) (b ∷ answers) c a e = recorded_next ((d, b) ∷ h) calls answers c a e

  -- None of the calls that are answered is an accepted seal.
  abbrev pub Unsealed : List (Call P) → List Answer → Type 0
  Unsealed calls [] = Unit {0}
  Unsealed [] (a ∷ answers) = Unit {0}
  Unsealed (c ∷ calls) (a ∷ answers) = (Seals c a → ⊥) × Unsealed calls answers

  unsealed_next : (calls : List (Call P)) (answers : List Answer) (c : Call P) (a : Answer) → Unsealed calls answers → slice_get calls (length answers) ≡ Some c
      → (Seals c a → ⊥) → Unsealed calls (answers ++ (a ∷ []))
  unsealed_next [] answers c a u e n = absurd (none-some c e)
  unsealed_next (d ∷ calls) [] c a u e n = (λ s. n (subst (λ (x : Call P). Seals x a) (same_Some d c e) s), tt)
  unsealed_next (d ∷ calls) (b ∷ answers) c a u e n = (u.0, unsealed_next calls answers c a u.1 e n)

  answered_sealed : (calls : List (Call P)) (answers : List Answer) (c : Call P) (a : Answer) → Unsealed calls answers → slice_get calls (length answers) ≡ Some c
      → Seals c a → AllAnswered calls (answers ++ (a ∷ []))
  answered_sealed [] answers c a u e s = absurd (none-some c e)
  answered_sealed (d ∷ calls) [] c a u e s = inl (subst (λ (x : Call P). Seals x a) (sym (same_Some d c e)) s, refl)
  answered_sealed (d ∷ calls) (b ∷ answers) c a u e s = inr (u.0, answered_sealed calls answers c a u.1 e s)

  answered_all : (calls : List (Call P)) (answers : List Answer) → Unsealed calls answers → length answers ≡ length calls → AllAnswered calls answers
  answered_all [] [] u e = refl
  answered_all [] (a ∷ answers) u e = absurd (omega arith)
  answered_all (c ∷ calls) [] u e = absurd (omega arith)
  answered_all (c ∷ calls) (a ∷ answers) u e = inr (u.0, answered_all calls answers u.1 (omega arith))

module _ {P : Type 0} (A : Setting P) (calls : List (Call P)) (g₀ : Progress P) (c₀ : Contents P) where
  -- So many calls are performed, and more may follow.
  pub record Underway (answers : List Answer) (g : Progress P) (c : Contents P) : Type 0 where
    pub unsealed : Unsealed calls answers
    pub reached : Reached A g₀ c₀ (recorded [] calls answers) g c

  pub underway_first : Underway [] g₀ c₀
  underway_first = record { unsealed = tt; reached = (refl, refl) }

  module _ (answers : List Answer) (call : Call P) (a : Answer) (g g' : Progress P) (c c' : Contents P) where
    reached_next : Underway answers g c → slice_get calls (length answers) ≡ Some call → Outcome A call g c a g' c'
        → Reached A g₀ c₀ (recorded [] calls (answers ++ (a ∷ []))) g' c'
    reached_next u e o = subst (λ h. Reached A g₀ c₀ h g' c') (sym (recorded_next [] calls answers call a e)) (g, c, u.reached, o)

    pub underway_next : Underway answers g c → slice_get calls (length answers) ≡ Some call → Outcome A call g c a g' c' → (Seals call a → ⊥)
        → Underway (answers ++ (a ∷ [])) g' c'
    underway_next u e o n = record { unsealed = unsealed_next calls answers call a u.unsealed e n; reached = reached_next u e o }

    pub performed_sealed : Underway answers g c → slice_get calls (length answers) ≡ Some call → Outcome A call g c a g' c' → Seals call a
        → Performed A calls (answers ++ (a ∷ [])) g₀ c₀ g' c'
    performed_sealed u e o s = record { all = answered_sealed calls answers call a u.unsealed e s; reached = reached_next u e o }

  pub performed_all : (answers : List Answer) (g : Progress P) (c : Contents P) → Underway answers g c → length answers ≡ length calls → Performed A calls answers g₀ c₀ g c
  performed_all answers g c u e = record { all = answered_all calls answers u.unsealed e; reached = u.reached }
