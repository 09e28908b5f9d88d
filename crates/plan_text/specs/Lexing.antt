-- What the lexer takes from the front of a text.
use Rattle.std.specs.Prelude.{◌≡◌, ◌≢◌, ◌==◌, ℕ, ◌<◌, Bool, true, false, if◌then◌else◌, List, [], ◌∷◌, ◌++◌, length, drop, ℤ}
use Rattle.decimal.specs.Numbers.{text_of, HasFewDigits}
use Rattle.plan_text.specs.declared.lexer.Lexer.{Lexer}
use Rattle.plan_text.specs.Tokens.{Mark, opening, closing, word, number, octets_of, opens, gap}

-- what is left of the lexer's line
abbrev pub left : Lexer → List ℕ
left l = drop l.place l.line.now

-- no bracket and no space
abbrev pub is_plain_octet : ℕ → Bool
is_plain_octet b = if b == 40 then false else (if b == 41 then false else (if b == 32 then false else true))

abbrev pub ArePlain : List ℕ → Type 0
ArePlain [] = Unit {0}
ArePlain (b ∷ bs) = (is_plain_octet b ≡ true) × ArePlain bs

-- no plain octet begins it
abbrev pub IsStopped : List ℕ → Type 0
IsStopped [] = Unit {0}
IsStopped (b ∷ bs) = is_plain_octet b ≡ false

-- A word is one or more plain octets that are no number; a number has at most ten digits.
abbrev pub IsMark : Mark → Type 0
IsMark opening = Unit {0}
IsMark closing = Unit {0}
IsMark (word w) = (0 < length w) × ArePlain w × ((z : ℤ) → HasFewDigits z → w ≢ text_of z)
IsMark (number z) = HasFewDigits z

abbrev pub IsWord : List ℕ → Type 0
IsWord w = IsMark (word w)

-- A word or a number goes as far as plain octets go.
abbrev pub Ends : Mark → List ℕ → Type 0
Ends opening rest = Unit {0}
Ends closing rest = Unit {0}
Ends (word w) rest = IsStopped rest
Ends (number z) rest = IsStopped rest

-- The text begins with the mark, and goes on with the rest.
pub record Begins (text : List ℕ) (m : Mark) (rest : List ℕ) : Type 0 where
  pub mark : IsMark m
  pub ends : Ends m rest
  pub whole : text ≡ octets_of m ++ rest

abbrev pub BeginsWithNone : List ℕ → Type 0
BeginsWithNone text = (m : Mark) (rest : List ℕ) → Begins text m rest → ⊥

-- The same, behind what belongs before the mark.
pub record Takes (first : Bool) (text : List ℕ) (m : Mark) (rest : List ℕ) : Type 0 where
  pub mark : IsMark m
  pub ends : Ends m rest
  pub whole : text ≡ gap first m ++ (octets_of m ++ rest)

abbrev pub TakesNone : Bool → List ℕ → Type 0
TakesNone first text = (m : Mark) (rest : List ℕ) → Takes first text m rest → ⊥

-- The lexer goes over the mark, and then stands behind it.
pub record Steps (l : Lexer) (m : Mark) (l' : Lexer) : Type 0 where
  pub takes : Takes l.first (left l) m (left l')
  pub first : l'.first ≡ opens m

-- The mark does not stand where the lexer stands.
abbrev pub Misses : Lexer → Mark → Type 0
Misses l m = (rest : List ℕ) → Takes l.first (left l) m rest → ⊥

-- What the text is from the next mark on, whichever it is.
abbrev pub Starts : Bool → List ℕ → List ℕ → Type 0
Starts first text after =
    (m : Mark) (rest : List ℕ) → IsMark m
    → (after ≡ octets_of m ++ rest → text ≡ gap first m ++ (octets_of m ++ rest))
    × (text ≡ gap first m ++ (octets_of m ++ rest) → after ≡ octets_of m ++ rest)
