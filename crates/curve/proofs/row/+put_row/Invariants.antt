use Rattle.std.proofs.Common.{◌-◌}
use Rattle.curve.proofs.row.+put_row.Given as goal

abbrev pub decreases-put_row : goal.decreases-put_row
decreases-put_row g l = l.accuracy.depth - l.part.cell.depth
