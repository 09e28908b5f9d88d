-- Flow and box keep the laws of their notation.
use Rattle.std.proofs.Common.{◌≡◌, refl, arith}
use Rattle.ordinate.specs.Flows.{flow}
use Rattle.ordinate.specs.Boxes.{box}
use Rattle.ordinate.specs.declared.flow.Flow.{Flow}
use Rattle.ordinate.specs.declared.branches.Branches.{Branches}
use Rattle.plan_text.specs.declared.form.At.TheVariants.{One, Two}
use Rattle.plan_text.specs.Notations.{numbers_of, coordinates_of, HasFewDigitsEach}

pub flow_same : (p : Flow) → numbers_of (One p.value) ≡ coordinates_of flow p
flow_same p = refl

pub flow_few : HasFewDigitsEach flow
flow_few = (omega arith, omega arith)

pub box_same : (p : Branches) → numbers_of (Two p.left p.right) ≡ coordinates_of box p
box_same p = refl

pub box_few : HasFewDigitsEach box
box_few = (omega arith, omega arith)
