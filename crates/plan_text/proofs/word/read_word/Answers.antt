use Rattle.plan_text.proofs.Names.{found}
use Rattle.plan_text.proofs.word.read_word.Goals as goal

pub returns : goal.returns
returns g c = found g.W.Word.text c.args.octets.now g.W.Word.all g.met.W.Word.every c.first_named.result c.first_named.ensures
