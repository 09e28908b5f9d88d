-- Items of a name and one more token.
use Rattle.std.proofs.Common.{◌≡◌, ◌≢◌, ℕ, List, [], ◌∷◌, ◌++◌, sym, refl, ◌∙◌, subst}
use Rattle.plan_text.specs.declared.lexer.Lexer.{Lexer}
use Rattle.plan_text.specs.Tokens.{Mark, opening, closing, word}
use Rattle.plan_text.specs.Lexing.{IsWord, Steps, Misses}
use Rattle.plan_text.specs.Reading.{Spells, PassesOver, ReadsOne, ReadsNone, Any, field_marks}
use Rattle.plan_text.proofs.Steps.{missed}
use Rattle.plan_text.proofs.Parts.{passes, SoFar, begin_pass, none_pass, pass, stuck_pass, take, stuck_take, all_read}

module _ {B : Type 0} (part : B → Mark) (Fine : B → Type 0) (name : List ℕ) where
  abbrev marks : B → List Mark
  marks b = field_marks name (part b)

  abbrev head : List Mark
  head = opening ∷ word name ∷ []

  pub no_list : (l : Lexer) → ((ms : List Mark) → Spells l (head ++ ms) → ⊥) → ReadsNone (λ b. field_marks name (part b)) Fine l
  no_list l n = none_pass marks Fine l head n (λ b. part b ∷ closing ∷ []) (λ b. refl)

  module _ (l k : Lexer) (listed : PassesOver head l k) where
    behind_head : SoFar marks Fine l k head (λ b. Unit {0}) (λ b. part b ∷ closing ∷ [])
    behind_head = begin_pass marks Fine l k head listed (λ b. part b ∷ closing ∷ []) (λ b. refl)

    pub no_part : ((b : B) (ms : List Mark) → Fine b → Spells k (part b ∷ ms) → ⊥) → ReadsNone (λ b. field_marks name (part b)) Fine l
    no_part n = stuck_take marks Fine l k head (λ b. Unit {0}) (λ b. part b ∷ closing ∷ []) behind_head (λ b. part b ∷ []) Fine (λ b. b) (λ b. closing ∷ []) (λ b. refl) (λ b g. g) n

    module _ (k' : Lexer) (b : B) (taken : ReadsOne (λ d. part d ∷ []) Fine k b k') where
      behind_part : SoFar marks Fine l k' (head ++ (part b ∷ [])) (λ d. Unit {0} × (d ≡ b)) (λ d. closing ∷ [])
      behind_part = take marks Fine l k head (λ d. Unit {0}) (λ d. part d ∷ closing ∷ []) behind_head (λ d. part d ∷ []) Fine (λ d. d) (λ d. closing ∷ []) (λ d. refl) (λ d g. g) k' b taken

      pub no_close : Misses k' closing → ReadsNone (λ d. field_marks name (part d)) Fine l
      no_close n = stuck_pass marks Fine l k' (head ++ (part b ∷ [])) (λ d. Unit {0} × (d ≡ b)) (λ d. closing ∷ []) behind_part (closing ∷ []) (λ ms s. missed k' closing n ms tt s) (λ d. []) (λ d. refl)

      pub field_read : (k'' : Lexer) → Steps k' closing k'' → ReadsOne (λ d. field_marks name (part d)) Fine l b k''
      field_read k'' s =
          all_read marks Fine l k'' ((head ++ (part b ∷ [])) ++ (closing ∷ [])) (λ d. Unit {0} × (d ≡ b)) (λ d. [])
          (pass marks Fine l k' (head ++ (part b ∷ [])) (λ d. Unit {0} × (d ≡ b)) (λ d. closing ∷ []) behind_part k'' (closing ∷ []) (passes k' k'' closing s) (λ d. []) (λ d. refl))
          (λ d. refl) b taken.good (λ d g h. h.1) refl

-- ---- a word that names a value

module _ {K : Type 0} (name_of : K → List ℕ) (named : (k : K) → IsWord (name_of k)) (front back : List Mark) where
  pub none_named : (l : Lexer) → ReadsNone (λ w. front ++ (word w ∷ back)) IsWord l → ReadsNone (λ k. front ++ (word (name_of k) ∷ back)) Any l
  none_named l n k ms g s = n (name_of k) ms (named k) s

  pub other_named : (l l' : Lexer) (w : List ℕ) → ReadsOne (λ v. front ++ (word v ∷ back)) IsWord l w l' → ((k : K) → w ≢ name_of k) → ReadsNone (λ k. front ++ (word (name_of k) ∷ back)) Any l
  other_named l l' w r n k ms g s = n k (sym (r.only (name_of k) ms (named k) s).0)

  pub reads_named : (l l' : Lexer) (w : List ℕ) → ReadsOne (λ v. front ++ (word v ∷ back)) IsWord l w l' → (k : K) → w ≡ name_of k → ((i j : K) → name_of i ≡ name_of j → i ≡ j)
      → ReadsOne (λ k. front ++ (word (name_of k) ∷ back)) Any l k l'
  reads_named l l' w r k e apart =
      record {
        good = tt;
        back = λ ms s. subst (λ v. Spells l ((front ++ (word v ∷ back)) ++ ms)) e (r.back ms s);
        only = λ j ms g s. let o = r.only (name_of j) ms (named j) s in (apart j k (o.0 ∙ e), o.1);
        shorter = r.shorter;
      }
