-- The kind flow: one coordinate, within 4 · 2,147,483,648 of zero.
use Rattle.std.specs.Prelude.{ℕ, List, pos, neg_ℤ}
use Rattle.std.specs.Fmt.{signed_decimal}
use Rattle.ordinate.specs.Kinds.{Kind, one, reach}
use Rattle.ordinate.specs.declared.flow.Flow.{Flow}

abbrev pub flow : Kind Flow
flow = record { code = 1; dimension = 1; least = neg_ℤ (pos reach); greatest = pos reach; coordinate = λ p. one p.value; made = λ f. record { value = f 0 } }

-- How a flow is printed: as in -5.
abbrev pub flow_text : Flow → List ℕ
flow_text p = signed_decimal p.value
