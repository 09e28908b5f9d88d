-- Parts read one after another.
use Rattle.std.proofs.Common.{◌≡◌, ℕ, ◌<◌, Option, Some, None, MatchOption, List, [], ◌∷◌, ◌++◌, length, ℤ, sym, ap, ◌∙◌, append_assoc, arith}
use Rattle.decimal.specs.Numbers.{HasFewDigits}
use Rattle.plan_text.specs.declared.lexer.Lexer.{Lexer}
use Rattle.plan_text.specs.Tokens.{Mark, closing, word, number, spelled}
use Rattle.plan_text.specs.Lexing.{IsMark, IsWord, Steps, Misses, left}
use Rattle.plan_text.specs.Reading.{Spells, PassesOver, Passes, ReadsOne}
use Rattle.plan_text.proofs.Steps.{only, back, missed, shorter}

pub along : (l : Lexer) (ms ns : List Mark) → ms ≡ ns → Spells l ms → Spells l ns
along l ms ns same e = e ∙ ap (spelled l.first) same

-- ---- single marks

pub passes : (l l' : Lexer) (m : Mark) → Steps l m l' → PassesOver (m ∷ []) l l'
passes l l' m s = record { back = back l l' m s; on = λ ms e. (only l l' m s m ms s.takes.mark e).1; shorter = shorter l l' m s }

pub passes_both : (l k l' : Lexer) (m n : Mark) → Steps l m k → Steps k n l' → PassesOver (m ∷ n ∷ []) l l'
passes_both l k l' m n s t =
    record {
      back = λ ms e. back l k m s (n ∷ ms) (back k l' n t ms e);
      on = λ ms e. (only k l' n t n ms t.takes.mark (only l k m s m (n ∷ ms) s.takes.mark e).1).1;
      shorter = omega (arith, shorter l k m s, shorter k l' n t);
    }

pub passes_two : (l k : Lexer) (m n : Mark) (r : Option Lexer) → Steps l m k → IsMark n → MatchOption r (Misses k n) (λ rest. Steps k n rest) → Passes (m ∷ n ∷ []) l r
passes_two l k m n None s g t = λ ms e. missed k n t ms g (only l k m s m (n ∷ ms) s.takes.mark e).1
passes_two l k m n (Some rest) s g t = passes_both l k rest m n s t

pub reads_word : (l l' : Lexer) (w : List ℕ) → Steps l (word w) l' → ReadsOne (λ v. word v ∷ []) IsWord l w l'
reads_word l l' w s =
    record {
      good = s.takes.mark;
      back = back l l' (word w) s;
      only = λ v ms g e. let r = only l l' (word w) s (word v) ms g e in (let same : word v ≡ word w = r.0 in cc, r.1);
      shorter = shorter l l' (word w) s;
    }

pub reads_number : (l l' : Lexer) (z : ℤ) → Steps l (number z) l' → ReadsOne (λ y. number y ∷ []) HasFewDigits l z l'
reads_number l l' z s =
    record {
      good = s.takes.mark;
      back = back l l' (number z) s;
      only = λ y ms g e. let r = only l l' (number z) s (number y) ms g e in (let same : number y ≡ number z = r.0 in cc, r.1);
      shorter = shorter l l' (number z) s;
    }

pub reads_no_number : (l : Lexer) → ((z : ℤ) → Misses l (number z)) → (z : ℤ) (ms : List Mark) → HasFewDigits z → Spells l (number z ∷ ms) → ⊥
reads_no_number l n z ms g e = missed l (number z) (n z) ms g e

-- ---- the parts of a value

module _ {C : Type 0} (marks : C → List Mark) (Good : C → Type 0) (l : Lexer) where
  -- From l up to k these marks were read; of a good value that stands at l, so much is known, and the rest stands at k.
  pub record SoFar (k : Lexer) (read : List Mark) (Known : C → Type 0) (rest : C → List Mark) : Type 0 where
    pub back : (ms : List Mark) → Spells k ms → Spells l (read ++ ms)
    pub only : (c : C) (ms : List Mark) → Good c → Spells l (marks c ++ ms) → Known c × Spells k (rest c ++ ms)
    pub shorter : length (left k) < length (left l)

  split : (k : Lexer) (whole front rest ms : List Mark) → whole ≡ front ++ rest → Spells k (whole ++ ms) → Spells k (front ++ (rest ++ ms))
  split k whole front rest ms e s = along k (whole ++ ms) (front ++ (rest ++ ms)) (ap (λ xs. xs ++ ms) e ∙ append_assoc front rest ms) s

  pub begin_pass : (k : Lexer) (ns : List Mark) → PassesOver ns l k → (rest : C → List Mark) → ((c : C) → marks c ≡ ns ++ rest c) → SoFar k ns (λ c. Unit {0}) rest
  begin_pass k ns p rest e =
      record {
        back = p.back;
        only = λ c ms g s. (tt, p.on (rest c ++ ms) (split l (marks c) ns (rest c) ms (e c) s));
        shorter = p.shorter;
      }

  pub none_pass : (ns : List Mark) → ((ms : List Mark) → Spells l (ns ++ ms) → ⊥) → (rest : C → List Mark) → ((c : C) → marks c ≡ ns ++ rest c) → (c : C) (ms : List Mark) → Good c → Spells l (marks c ++ ms) → ⊥
  none_pass ns n rest e c ms g s = n (rest c ++ ms) (split l (marks c) ns (rest c) ms (e c) s)

  module _ {B : Type 0} (part : B → List Mark) (Fine : B → Type 0) (q : C → B) (rest : C → List Mark) (whole : (c : C) → marks c ≡ part (q c) ++ rest c) (fine : (c : C) → Good c → Fine (q c)) where
    pub begin_take : (k : Lexer) (b : B) → ReadsOne part Fine l b k → SoFar k (part b) (λ c. q c ≡ b) rest
    begin_take k b r =
        record {
          back = r.back;
          only = λ c ms g s. r.only (q c) (rest c ++ ms) (fine c g) (split l (marks c) (part (q c)) (rest c) ms (whole c) s);
          shorter = r.shorter;
        }

    pub none_take : ((b : B) (ms : List Mark) → Fine b → Spells l (part b ++ ms) → ⊥) → (c : C) (ms : List Mark) → Good c → Spells l (marks c ++ ms) → ⊥
    none_take n c ms g s = n (q c) (rest c ++ ms) (fine c g) (split l (marks c) (part (q c)) (rest c) ms (whole c) s)

  module _ (k : Lexer) (read : List Mark) (Known : C → Type 0) (before : C → List Mark) (sofar : SoFar k read Known before) where
    pub pass : (k' : Lexer) (ns : List Mark) → PassesOver ns k k' → (rest : C → List Mark) → ((c : C) → before c ≡ ns ++ rest c) → SoFar k' (read ++ ns) Known rest
    pass k' ns p rest e =
        record {
          back = λ ms s. along l (read ++ (ns ++ ms)) ((read ++ ns) ++ ms) (sym (append_assoc read ns ms)) (sofar.back (ns ++ ms) (p.back ms s));
          only = λ c ms g s. let o = sofar.only c ms g s in (o.0, p.on (rest c ++ ms) (split k (before c) ns (rest c) ms (e c) o.1));
          shorter = omega (arith, sofar.shorter, p.shorter);
        }

    pub stuck_pass : (ns : List Mark) → ((ms : List Mark) → Spells k (ns ++ ms) → ⊥) → (rest : C → List Mark) → ((c : C) → before c ≡ ns ++ rest c) → (c : C) (ms : List Mark) → Good c → Spells l (marks c ++ ms) → ⊥
    stuck_pass ns n rest e c ms g s = n (rest c ++ ms) (split k (before c) ns (rest c) ms (e c) (sofar.only c ms g s).1)

    module _ {B : Type 0} (part : B → List Mark) (Fine : B → Type 0) (q : C → B) (rest : C → List Mark) (whole : (c : C) → before c ≡ part (q c) ++ rest c) (fine : (c : C) → Good c → Fine (q c)) where
      pub take : (k' : Lexer) (b : B) → ReadsOne part Fine k b k' → SoFar k' (read ++ part b) (λ c. Known c × (q c ≡ b)) rest
      take k' b r =
          record {
            back = λ ms s. along l (read ++ (part b ++ ms)) ((read ++ part b) ++ ms) (sym (append_assoc read (part b) ms)) (sofar.back (part b ++ ms) (r.back ms s));
            only = λ c ms g s.
                let o = sofar.only c ms g s in
                let t = r.only (q c) (rest c ++ ms) (fine c g) (split k (before c) (part (q c)) (rest c) ms (whole c) o.1) in
                ((o.0, t.0), t.1);
            shorter = omega (arith, sofar.shorter, r.shorter);
          }

      pub stuck_take : ((b : B) (ms : List Mark) → Fine b → Spells k (part b ++ ms) → ⊥) → (c : C) (ms : List Mark) → Good c → Spells l (marks c ++ ms) → ⊥
      stuck_take n c ms g s = n (q c) (rest c ++ ms) (fine c g) (split k (before c) (part (q c)) (rest c) ms (whole c) (sofar.only c ms g s).1)

    module _ (ended : (c : C) → before c ≡ []) where
      pub all_read : (c : C) → Good c → ((d : C) → Good d → Known d → d ≡ c) → read ≡ marks c → ReadsOne marks Good l c k
      all_read c g same e =
          record {
            good = g;
            back = λ ms s. along l (read ++ ms) (marks c ++ ms) (ap (λ xs. xs ++ ms) e) (sofar.back ms s);
            only = λ d ms h s. let o = sofar.only d ms h s in (same d h o.0, along k (before d ++ ms) ms (ap (λ xs. xs ++ ms) (ended d)) o.1);
            shorter = sofar.shorter;
          }

      pub closed : (c : C) → read ≡ marks c → Spells k (closing ∷ []) → Spells l (marks c ++ (closing ∷ []))
      closed c e s = along l (read ++ (closing ∷ [])) (marks c ++ (closing ∷ [])) (ap (λ xs. xs ++ (closing ∷ [])) e) (sofar.back (closing ∷ []) s)

      pub not_closed : (Spells k (closing ∷ []) → ⊥) → (c : C) → Good c → Spells l (marks c ++ (closing ∷ [])) → ⊥
      not_closed n c g s = n (along k (before c ++ (closing ∷ [])) (closing ∷ []) (ap (λ xs. xs ++ (closing ∷ [])) (ended c)) (sofar.only c (closing ∷ []) g s).1)
