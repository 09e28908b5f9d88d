-- How boxes are measured: by each branch, and by both together, which is what the canal above the box notices.
use Rattle.std.specs.Prelude.{◌&&◌, ◌+ℤ◌}
use Rattle.distance.specs.Measures.{Measure, bounded}

abbrev pub box_measure : Measure
box_measure = record { limit = 2147483648; allowance = 2; within = λ x r. bounded (x 0) r && (bounded (x 1) r && bounded (x 0 +ℤ x 1) r) }
