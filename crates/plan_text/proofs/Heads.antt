-- A bracket and the name of a form.
use Rattle.std.proofs.Common.{◌≡◌, ℕ, List, [], ◌∷◌, arith}
use Rattle.plan_text.specs.declared.lexer.Lexer.{Lexer}
use Rattle.plan_text.specs.Tokens.{Mark, opening, word}
use Rattle.plan_text.specs.Lexing.{IsWord, Steps, Misses}
use Rattle.plan_text.specs.Reading.{Spells, ReadsOne, ReadsNone}
use Rattle.plan_text.proofs.Steps.{only, back, missed, shorter}

module _ (l k : Lexer) (bracket : Steps l opening k) where
  pub bare_bracket : ((w : List ℕ) → Misses k (word w)) → ReadsNone (λ w. opening ∷ word w ∷ []) IsWord l
  bare_bracket n w ms g s = missed k (word w) (n w) ms g (only l k opening bracket opening (word w ∷ ms) tt s).1

  pub reads_bracketed : (k' : Lexer) (w : List ℕ) → Steps k (word w) k' → ReadsOne (λ v. opening ∷ word v ∷ []) IsWord l w k'
  reads_bracketed k' w t =
      record {
        good = t.takes.mark;
        back = λ ms s. back l k opening bracket (word w ∷ ms) (back k k' (word w) t ms s);
        only = only_word;
        shorter = omega (arith, shorter l k opening bracket, shorter k k' (word w) t);
      }
    where
      only_word : (v : List ℕ) (ms : List Mark) → IsWord v → Spells l (opening ∷ word v ∷ ms) → (v ≡ w) × Spells k' ms
      only_word v ms g s =
          let r = only k k' (word w) t (word v) ms g (only l k opening bracket opening (word v ∷ ms) tt s).1 in
          let same : word v ≡ word w = r.0 in
          (cc, r.1)
