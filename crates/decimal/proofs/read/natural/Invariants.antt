use Rattle.decimal.proofs.Digits.{SoFar}
use Rattle.decimal.proofs.read.natural.Given as goal

abbrev pub invariant-loop-octet : goal.invariant-loop-octet
invariant-loop-octet l = SoFar l.text l.octet-index l.number
