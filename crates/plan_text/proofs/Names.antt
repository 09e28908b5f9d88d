-- The names that the parts of forms have.
use Rattle.std.proofs.Common.{◌≡◌, ◌≢◌, ℕ, List, [], ◌∷◌, All, Contains, Option, Some, None, MatchOption, Bool, true, false, codes, sym, refl, ◌∙◌, arith}
use Rattle.std.specs.List.{find}
use Rattle.std.specs.Str.{bytes_eq}
use Rattle.std.proofs.lemmas.List.Elements.{All-nil, All-cons, All-contains}
use Rattle.std.proofs.lemmas.Slice.Eq.{bytes_eq-Decides}
use Rattle.std.proofs.lemmas.Bool.{false≢true}
use Rattle.plan_text.specs.Lexing.{IsWord}
use Rattle.plan_text.specs.Laws.Words.{name_word}

pub kind_is_word : IsWord (codes "kind")
kind_is_word = name_word 107 (105 ∷ 110 ∷ 100 ∷ []) (omega arith) (refl, (refl, (refl, (refl, tt))))

pub legs_is_word : IsWord (codes "legs")
legs_is_word = name_word 108 (101 ∷ 103 ∷ 115 ∷ []) (omega arith) (refl, (refl, (refl, (refl, tt))))

pub within_word : IsWord (codes "within")
within_word = name_word 119 (105 ∷ 116 ∷ 104 ∷ 105 ∷ 110 ∷ []) (omega arith) (refl, (refl, (refl, (refl, (refl, (refl, tt))))))

pub depth_word : IsWord (codes "depth")
depth_word = name_word 100 (101 ∷ 112 ∷ 116 ∷ 104 ∷ []) (omega arith) (refl, (refl, (refl, (refl, (refl, tt)))))

pub ticks_word : IsWord (codes "ticks")
ticks_word = name_word 116 (105 ∷ 99 ∷ 107 ∷ 115 ∷ []) (omega arith) (refl, (refl, (refl, (refl, (refl, tt)))))

pub at_word : IsWord (codes "at")
at_word = name_word 97 (116 ∷ []) (omega arith) (refl, (refl, tt))

-- ---- the value that a word stands for

module _ {W : Type 0} (text : W → List ℕ) (octets : List ℕ) where
  abbrev names : W → Bool
  names v = bytes_eq (text v) octets

  none_from : (vs : List W) → find names vs ≡ None → All (λ v. octets ≢ text v) vs
  none_from [] e = All-nil (λ v. octets ≢ text v)
  none_from (v ∷ vs) e = from_test (names v) refl (λ f. none_from vs f)
    where
      from_test : (b : Bool) → names v ≡ b → (find names vs ≡ None → All (λ u. octets ≢ text u) vs) → All (λ u. octets ≢ text u) (v ∷ vs)
      from_test true h more = absurd (let f : Some v ≡ None = rw h at e in cc)
      from_test false h more = All-cons (λ u. octets ≢ text u) v vs (λ s. false≢true (sym h ∙ (bytes_eq-Decides (text v) octets).1 (sym s))) (more (rw h at e))

  one_from : (vs : List W) (v : W) → find names vs ≡ Some v → octets ≡ text v
  one_from [] v e = absurd (cc)
  one_from (u ∷ vs) v e = from_test (names u) refl (λ f. one_from vs v f)
    where
      from_test : (b : Bool) → names u ≡ b → (find names vs ≡ Some v → octets ≡ text v) → octets ≡ text v
      from_test true h more = let f : Some u ≡ Some v = rw h at e in (let g : text u ≡ octets = (bytes_eq-Decides (text u) octets).0 h in cc)
      from_test false h more = more (rw h at e)

  pub found : (vs : List W) → ((v : W) → Contains vs v) → (r : Option W) → r ≡ find names vs → MatchOption r ((v : W) → octets ≢ text v) (λ v. octets ≡ text v)
  found vs every None e = λ v. All-contains (λ u. octets ≢ text u) vs v (none_from vs (sym e)) (every v)
  found vs every (Some v) e = one_from vs v (sym e)
