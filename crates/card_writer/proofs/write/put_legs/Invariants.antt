use Rattle.std.proofs.Common.{length}
use Rattle.card_writer.proofs.Listing.{SoFar}
use Rattle.card_writer.proofs.write.put_legs.Given as goal

abbrev pub invariant-loop-i : goal.invariant-loop-i
invariant-loop-i g l = SoFar g.P.Ordinate.kind (length l.initial.octets) l.legs l.i l.octets
