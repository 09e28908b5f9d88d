-- The refusals.
use Rattle.std.specs.Prelude.{ℕ, List, [], ◌++◌, codes, decimal, Some, None, Option}
use Rattle.card.specs.declared.refusal.Refusal.{Refusal}
use Rattle.card.specs.declared.refusal.Refusal.TheVariants.{PastLastLeg, ShortResult, ShortCard, WrongHeader, CountAboveCapacity, NoLeg, BrokenChain, TrailingOctet}

-- Each refusal's number, and the record that it names.
abbrev pub row : Refusal → ℕ × Option ℕ
row PastLastLeg = (16, None)
row ShortResult = (18, None)
row ShortCard = (21, None)
row WrongHeader = (22, None)
row CountAboveCapacity = (23, None)
row (NoLeg i) = (24, Some i)
row (BrokenChain i) = (25, Some i)
row TrailingOctet = (26, None)

-- In words, why a card is not read, or a value not told.
abbrev pub words : Refusal → List ℕ
words PastLastLeg = codes "the tick is past the last leg, or the card has no leg"
words ShortResult = codes "the result has fewer than eight octets"
words ShortCard = codes "the card has fewer than eight octets"
words WrongHeader = codes "the kind, the edition or the record length is wrong"
words CountAboveCapacity = codes "the count is above the card's capacity"
words (NoLeg i) = codes "a field that no leg has, or a spare octet that is not zero"
words (BrokenChain i) = codes "the chain of legs is broken"
words TrailingOctet = codes "an octet after the last record is not zero"

abbrev pub at_record : Option ℕ → List ℕ
at_record None = []
at_record (Some i) = codes " at record " ++ decimal i

-- How a refusal is printed: with its number, the record that it names, and the words.
abbrev pub printed : Refusal → List ℕ
printed f = codes "refused " ++ (decimal (row f).0 ++ (at_record (row f).1 ++ (codes ": " ++ words f)))
