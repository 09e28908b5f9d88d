use Rattle.std.proofs.Common.{◌≡◌, length, get_or, subst, ⊎_elim, arith}
use Rattle.std.specs.Int.{IsInRange}
use Rattle.decimal.proofs.Digits.{SoFar, room, one_more, all_read, is_natural}
use Rattle.decimal.proofs.read.natural.Goals as goal

pub overflow_mul-number : goal.overflow_mul-number
overflow_mul-number c = omega (arith, room c.args.text.now c.loop-octet.octet-index c.loop-octet.number c.loop-octet.invariant (omega arith) (omega arith))

pub overflow_add-number : goal.overflow_add-number
overflow_add-number c =
    let digit : IsInRange 48 57 (get_or c.args.text.now c.loop-octet.octet-index 0) = c.if-not-is_ascii_digit.ensures.cases in
    omega (arith, room c.args.text.now c.loop-octet.octet-index c.loop-octet.number c.loop-octet.invariant (omega arith) (omega arith))

pub loop-octet-preserved : goal.loop-octet-preserved
loop-octet-preserved c =
    let digit : IsInRange 48 57 (get_or c.args.text.now c.loop-octet.octet-index 0) = c.if-not-is_ascii_digit.ensures.cases in
    rw c.from.ensures (one_more c.args.text.now c.loop-octet.octet-index c.loop-octet.number c.loop-octet.invariant (omega arith) digit)

pub returns : goal.returns
returns c =
    let end : c.loop-octet.octet-index ≡ length c.args.text.now = omega arith in
    let either = c.else-text-eq48.either in
    let plain : get_or c.args.text.now 0 0 ≡ 48 → length c.args.text.now ≡ 1 = λ e. ⊎_elim (λ n. omega arith) (λ n. omega arith) either in
    let all = all_read c.args.text.now c.loop-octet.number (subst (λ i. SoFar c.args.text.now i c.loop-octet.number) end c.loop-octet.invariant) in
    (is_natural c.args.text.now (omega arith) (omega arith) all.0 plain, all.1, room c.args.text.now c.loop-octet.octet-index c.loop-octet.number c.loop-octet.invariant (omega arith) (omega arith))
