use Rattle.std.proofs.Common.{arith, ◌^◌, ◌<◌, rules}
use Rattle.planner.proofs.Striking.{too_deep}
use Rattle.planner.proofs.strike.is_last_cell.Goals as goal

pub returns-then-stretch-gt32 : goal.returns-then-stretch-gt32
returns-then-stretch-gt32 c =
    let small : c.args.stretch.cell.index < 2 ^ 32 = search rules in
    (λ t. absurd (let t2 = t in cc), λ e. absurd (too_deep c.args.stretch.cell.depth c.args.stretch.cell.index (omega arith) small e))
