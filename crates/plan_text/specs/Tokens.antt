-- Brackets, words and numbers, and how a line is spelled with them.
use Rattle.std.specs.Prelude.{ℕ, Bool, true, false, List, [], ◌∷◌, ◌++◌, ℤ}
use Rattle.decimal.specs.Numbers.{text_of}
use Rattle.plan_text.specs.declared.token.Token.{Token}
use Rattle.plan_text.specs.declared.token.Token.TheVariants.{Open, Close, Word, Number}

-- A token apart from the line that a word is borrowed from.
pub data Mark : Type 0 where
  opening : Mark
  closing : Mark
  word : List ℕ → Mark
  number : ℤ → Mark

abbrev pub mark_of : Token → Mark
mark_of Open = opening
mark_of Close = closing
mark_of (Word w) = word w.now
mark_of (Number z) = number z

abbrev pub octets_of : Mark → List ℕ
octets_of opening = 40 ∷ []
octets_of closing = 41 ∷ []
octets_of (word w) = w
octets_of (number z) = text_of z

abbrev pub opens : Mark → Bool
opens opening = true
opens closing = false
opens (word w) = false
opens (number z) = false

-- What stands before a mark: a space, but nothing where it is the first of its list, or closes it.
abbrev pub gap : Bool → Mark → List ℕ
gap true m = []
gap false opening = 32 ∷ []
gap false closing = []
gap false (word w) = 32 ∷ []
gap false (number z) = 32 ∷ []

-- The octets of marks, of which the first is the first of its list or not.
abbrev pub spelled : Bool → List Mark → List ℕ
spelled first [] = []
spelled first (m ∷ ms) = gap first m ++ (octets_of m ++ spelled (opens m) ms)
