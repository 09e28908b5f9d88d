use Rattle.std.proofs.Common.{map, take}
use Rattle.plan_text.specs.Texts.{spaced}
use Rattle.plan_text.proofs.Over.{Wrote}
use Rattle.plan_text.proofs.put.put_numbers.Given as goal

abbrev pub invariant-loop-number : goal.invariant-loop-number
invariant-loop-number g l = Wrote l.initial.buffer l.place (spaced (map g.I.Integer.text (take l.number-index l.numbers))) l.buffer l.end
