use Rattle.std.proofs.Common.{sym, arith}
use Rattle.bezier.proofs.Bernstein.{choose_over}
use Rattle.bezier.proofs.binomial.binomial.Goals as goal

pub returns-then-i-n-clause-value : goal.returns-then-i-n-clause-value
returns-then-i-n-clause-value c = (omega arith, sym (choose_over c.args.n c.args.i (omega arith)))
