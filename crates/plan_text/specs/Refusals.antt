-- The refusals of the plan text.
use Rattle.std.specs.Prelude.{ℕ, List, ◌++◌, codes, decimal}
use Rattle.plan_text.specs.declared.refusal.TextRefusal.{TextRefusal}
use Rattle.plan_text.specs.declared.refusal.TextRefusal.TheVariants.{NoForm, OutOfPlace, TextTooLong, ShortBuffer}

-- the numbers by which the refusals go
abbrev pub number_of : TextRefusal → ℕ
number_of NoForm = 41
number_of OutOfPlace = 42
number_of TextTooLong = 43
number_of ShortBuffer = 44

-- In words, why the line or the text is refused.
abbrev pub words : TextRefusal → List ℕ
words NoForm = codes "the line is no form of the plan text, or a point is unlike the turn's kind"
words OutOfPlace = codes "the form is out of place"
words TextTooLong = codes "the plan text has more than 16384 octets"
words ShortBuffer = codes "the buffer has fewer than 160 octets"

-- How a refusal is printed: with its number and the words.
abbrev pub printed : TextRefusal → List ℕ
printed f = codes "refused " ++ (decimal (number_of f) ++ (codes ": " ++ words f))
