-- How flows are measured: a vector of one coordinate is within r where its size is at most r.
use Rattle.distance.specs.Measures.{Measure, bounded}

abbrev pub flow_measure : Measure
flow_measure = record { limit = 2147483648; allowance = 1; within = λ x r. bounded (x 0) r }
