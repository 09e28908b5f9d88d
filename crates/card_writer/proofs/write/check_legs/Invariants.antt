use Rattle.std.proofs.Common.{take}
use Rattle.card_writer.specs.Outlet.{Fit}
use Rattle.card_writer.proofs.write.check_legs.Given as goal

abbrev pub invariant-loop-i : goal.invariant-loop-i
invariant-loop-i g l = Fit g.P.Ordinate.kind l.capacity (take l.i l.legs)
