use Rattle.std.proofs.Common.{arith}
use Rattle.card_writer.proofs.Listing.{no_leg_at, full_at}
use Rattle.card_writer.proofs.write.check_legs.Goals as goal

pub returns-then-not-is_leg : goal.returns-then-not-is_leg
returns-then-not-is_leg g c =
    no_leg_at g.P.Ordinate.kind c.args.capacity c.args.legs.now c.loop-i.i c.index-legs-i.result c.loop-i-test.true c.index-legs-i.is c.loop-i.invariant c.if-not-is_leg.ensures.no

pub returns-then-i-capacity : goal.returns-then-i-capacity
returns-then-i-capacity g c =
    full_at g.P.Ordinate.kind c.args.capacity c.args.legs.now c.loop-i.i c.index-legs-i.result c.loop-i-test.true c.index-legs-i.is c.loop-i.invariant (c.if-not-is_leg.ensures.yes tt) (omega arith)
