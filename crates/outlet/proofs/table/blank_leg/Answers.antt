use Rattle.std.proofs.Common.{refl}
use Rattle.ordinate.specs.Laws.Points.{zero_blank}
use Rattle.outlet.proofs.table.blank_leg.Goals as goal

pub returns : goal.returns
returns g c = rw (zero_blank g.P.Ordinate.kind g.met.P.Ordinate.lawful c.zero-zero.result c.zero-zero.ensures) refl
