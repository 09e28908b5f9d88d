use Rattle.std.proofs.Common.{None, Some, arith}
use Rattle.decimal.specs.Numbers.{IsNumber}
use Rattle.decimal.proofs.Signs.{stripped, no_text, bare_none, minus_none, minus_zero, bare_number, minus_number}
use Rattle.decimal.proofs.read.read_number.Goals.{After-from_residual, After-from_residual-in_err-size, Then-size-eq0}
use Rattle.decimal.proofs.read.read_number.Goals as goal

bare_bad : (c : After-from_residual) → IsNumber c.args.text.now → ⊥
bare_bad c = bare_none c.args.text.now (stripped c.args.text.now None c.in_default.ensures.cases) c.in_err-natural.ensures

pub returns-in_err-natural-clause-value : goal.returns-in_err-natural-clause-value
returns-in_err-natural-clause-value c = rw c.from_residual.ensures (no_text c.args.text.now (bare_bad c))

pub returns-in_default-clause-value : goal.returns-in_default-clause-value
returns-in_default-clause-value c = bare_number c.args.text.now _ c.in_ok-natural.ensures.0 c.in_ok-natural.ensures.1

minus_bad : (c : After-from_residual-in_err-size) → IsNumber c.args.text.now → ⊥
minus_bad c = minus_none c.args.text.now c.in-Some.digits.now (stripped c.args.text.now (Some c.in-Some.digits) c.in-Some.ensures.cases) c.in_err-size.ensures

pub returns-in_err-size-clause-value : goal.returns-in_err-size-clause-value
returns-in_err-size-clause-value c = rw c.from_residual-in_err-size.ensures (no_text c.args.text.now (minus_bad c))

zero_bad : (c : Then-size-eq0) → IsNumber c.args.text.now → ⊥
zero_bad c =
    let here = c.in_ok-size.ensures in
    minus_zero c.args.text.now c.in-Some.digits.now (stripped c.args.text.now (Some c.in-Some.digits) c.in-Some.ensures.cases) here.0 (omega (arith, here.1))

pub returns-then-size-eq0-clause-value : goal.returns-then-size-eq0-clause-value
returns-then-size-eq0-clause-value c = no_text c.args.text.now (zero_bad c)

pub returns-then-size-eq0-clause-shape : goal.returns-then-size-eq0-clause-shape
returns-then-size-eq0-clause-shape c = (λ e. cc, λ h. absurd (zero_bad c h))

pub returns-clause-value : goal.returns-clause-value
returns-clause-value c =
    let here = c.in_ok-size.ensures in
    minus_number c.args.text.now c.in-Some.digits.now c.in_ok-size.size (stripped c.args.text.now (Some c.in-Some.digits) c.in-Some.ensures.cases) here.0 here.1 (λ e. omega arith)
