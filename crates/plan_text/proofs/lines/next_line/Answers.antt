use Rattle.plan_text.proofs.Cuts.{first_line, only_line}
use Rattle.plan_text.proofs.lines.next_line.Goals as goal

pub returns-in-Some : goal.returns-in-Some
returns-in-Some c = first_line c.args.text.now c.in-Some.end c.in-Some.ensures.0 c.in-Some.ensures.1 c.in-Some.ensures.2

pub returns-in-None : goal.returns-in-None
returns-in-None c = only_line c.args.text.now c.if-text-eq0.false c.in-None.ensures
