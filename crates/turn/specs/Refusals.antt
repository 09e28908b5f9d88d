-- The refusals by number.
use Rattle.std.specs.Prelude.{ℕ, List, ◌++◌, codes, decimal, None, Option}
use Rattle.curve.specs.Refusals.{row as curve_row, words as curve_words}
use Rattle.turn.specs.declared.refusal.Refusal.{Refusal}
use Rattle.turn.specs.declared.refusal.Refusal.TheVariants.{Curve, End, Foreign, Ticks, PastEnd, Apart, Empty, Torn, NotFull, TickPastEnd, NoLegThere}

-- Each refusal's number, and the point that it names. What refuses a curve refuses the span that it would be, by the same number.
abbrev pub row : Refusal → ℕ × Option ℕ
row (Curve f) = curve_row f
row End = (3, None)
row Foreign = (4, None)
row Ticks = (7, None)
row PastEnd = (8, None)
row Apart = (9, None)
row Empty = (13, None)
row Torn = (14, None)
row NotFull = (15, None)
row TickPastEnd = (16, None)
row NoLegThere = (17, None)

-- In words, why the call is refused.
abbrev pub words : Refusal → List ℕ
words (Curve f) = curve_words f
words End = codes "the agreed end is not from 1 to 65536"
words Foreign = codes "the outlet's count is not that of the draft or sealed turn"
words Ticks = codes "a span lasts from 1 to 4096 ticks"
words PastEnd = codes "the span ends past the agreed end"
words Apart = codes "the span does not start where the last leg ends"
words Empty = codes "no span is left to strike"
words Torn = codes "the last leg does not close a span where the draft ends"
words NotFull = codes "the turn does not reach the agreed end"
words TickPastEnd = codes "the tick is past the agreed end"
words NoLegThere = codes "no leg covers the tick"

-- How a refusal is printed: with its number and the words.
abbrev pub printed : Refusal → List ℕ
printed f = codes "refused " ++ (decimal (row f).0 ++ (codes ": " ++ words f))
