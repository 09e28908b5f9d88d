use Rattle.std.proofs.Common.{◌-◌}
use Rattle.curve.proofs.row.+count_row.Given as goal

abbrev pub decreases-count_row : goal.decreases-count_row
decreases-count_row g l = l.accuracy.depth - l.part.cell.depth
