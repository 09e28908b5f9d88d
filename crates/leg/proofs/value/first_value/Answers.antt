use Rattle.std.proofs.Common.{Some, None, arith}
use Rattle.leg.proofs.Told.{first_from, first_here, first_none}
use Rattle.leg.proofs.value.first_value.Goals as goal

pub loop-leg-init : goal.loop-leg-init
loop-leg-init c r f = f

pub returns-in-Some : goal.returns-in-Some
returns-in-Some c =
    c.loop-leg.invariant (Some c.in-Some.value) (first_here c.args.tick c.args.legs.now c.loop-leg.leg-index _ c.loop-leg-test.true c.in-Some.value c.in-Some.ensures)

pub loop-leg-preserved : goal.loop-leg-preserved
loop-leg-preserved c r f =
    c.loop-leg.invariant r (first_from c.args.tick c.args.legs.now c.loop-leg.leg-index _ c.loop-leg-test.true c.in-default.ensures r f)

pub returns : goal.returns
returns c = c.loop-leg.invariant None (first_none c.args.tick c.args.legs.now c.loop-leg.leg-index (omega arith))
