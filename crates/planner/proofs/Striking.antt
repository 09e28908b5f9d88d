-- Striking: what the last leg tells.
use Rattle.std.specs.Prelude.{◌≡◌, ℕ, ◌+◌, ◌^◌, ◌<◌, ◌≤◌, ◌-◌, List, [], ◌∷◌, MatchOption, length, None, Option, Some, refl, take}
use Rattle.std.proofs.Common.{◌∙◌, ap, arith, get_or, inl, inr, pow_mono, sym}
use Rattle.std.proofs.lemmas.Bool.{cases_lt}
use Rattle.std.proofs.lemmas.List.{take_all}
use Rattle.leg.specs.Chains.{last_or}
use Rattle.leg.specs.declared.leg.Leg.{Leg}
use Rattle.turn.specs.Calls.{last_leg}
use Rattle.turn.proofs.Struck.{last_of}

last_some : {P : Type 0} (x : Leg P) (ls : List (Leg P)) → last_or (Some x) ls ≡ None → ⊥
last_some x [] e = cc
last_some x (y ∷ ls) e = last_some y ls e

pub none_left : {P : Type 0} (ls : List (Leg P)) → last_leg ls ≡ None → length ls ≡ 0
none_left [] e = refl
none_left (x ∷ ls) e = absurd (last_some x ls e)

pub none_last : {P : Type 0} (ls : List (Leg P)) → length ls ≡ 0 → last_leg ls ≡ None
none_last [] e = refl
none_last (x ∷ ls) e = absurd (omega arith)

pub too_deep : (d k : ℕ) → 32 < d → k < 2 ^ 32 → k + 1 ≡ 2 ^ d → ⊥
too_deep d k h small e = let l : 33 ≤ d = omega arith in let m : 2 ^ 33 ≤ 2 ^ d = pow_mono l in omega arith

pub last_got : {P : Type 0} (ls : List (Leg P)) (n : ℕ) (r : Option (Leg P)) → n ≡ length ls → (n ≡ 0 → ⊥)
    → MatchOption r (length ls ≤ n - 1) (λ l. (n - 1 < length ls) × (l ≡ get_or ls (n - 1) l)) → r ≡ last_leg ls
last_got ls n None e z h = absurd (omega arith)
last_got ls n (Some l) e z h = sym (last_of ls n l e (omega arith) h.1)

-- The last leg is among those that are off, so that some are.
pub some_off : {P : Type 0} (ls : List (Leg P)) (i S : ℕ) (l : Leg P) → last_leg ls ≡ Some l → l.stretch.from ≡ S → i ≤ length ls
    → ((k : Leg P) → last_leg (take i ls) ≡ Some k → k.stretch.from ≡ S → ⊥) → i < length ls
some_off ls i S l e f h n =
    elim (cases_lt i (length ls)) [ inl a ↦ a | inr b ↦ absurd (n l (ap last_leg (take_all i ls b) ∙ e) f) ]
