use Rattle.std.proofs.Common.{◌≡◌, ℕ, ◌+◌, ◌-◌, ◌*◌, ◌≤◌, length, get_or, None, Option, sym, ap, ◌∙◌, subst, arith}
use Rattle.std.proofs.Math.Nat.{min-eq_left}
use Rattle.std.proofs.lemmas.Result.{err_from_is_err_and}
use Rattle.leg.specs.Chains.{Standing, ClosedAfter}
use Rattle.leg.specs.declared.leg.Leg.{Leg}
use Rattle.leg.proofs.Reasoned.{first_now}
use Rattle.card.specs.Records.{record_length}
use Rattle.card.specs.Cards.{header_reasons, record_reasons}
use Rattle.card.proofs.Headers.{capacity_room}
use Rattle.card.proofs.Reading.{reads_standing, answer_stops, answer_open, answer_tail}
use Rattle.card.proofs.Carried.{carried, carried_accepted, carried_unrefused}
use Rattle.card.proofs.walk.fold_card.Goals as goal

pub returns-in_err-count-clause-legs : goal.returns-in_err-count-clause-legs
returns-in_err-count-clause-legs g c =
    let K = g.P.Ordinate.kind in
    let xs = c.args.card.now in
    let failed = err_from_is_err_and c.from_residual.result c.from_residual.ensures.1 in
    let refused = first_now (header_reasons K xs) (record_reasons K xs) _ c.in_err-count.ensures in
    rw failed.1 (carried_unrefused K xs g.met.P.Ordinate.lawful _ refused)

pub returns-in_err-chain-clause-legs : goal.returns-in_err-chain-clause-legs
returns-in_err-chain-clause-legs g c =
    let K = g.P.Ordinate.kind in
    let xs = c.args.card.now in
    let failed = err_from_is_err_and c.from_residual-in_err-chain.result c.from_residual-in_err-chain.ensures.1 in
    let refused = answer_stops K xs c.in_ok-count.count c.in_ok-count.ensures _ c.in_err-chain.ensures in
    rw failed.1 (carried_unrefused K xs g.met.P.Ordinate.lawful _ refused)

pub returns-then-not-is_closed-clause-answer : goal.returns-then-not-is_closed-clause-answer
returns-then-not-is_closed-clause-answer g c =
    let K = g.P.Ordinate.kind in
    let xs = c.args.card.now in
    let read = c.in_ok-chain.ensures in
    let standing = subst Standing (sym read.3) (reads_standing K xs 0 None read.0 read.1 tt) in
    answer_open K xs g.met.P.Ordinate.lawful c.in_ok-count.count c.in_ok-count.ensures read.0 read.1 read.2
    (λ closed. c.if-not-is_closed.ensures.no (standing, subst (λ (last : Option (Leg _)). ClosedAfter last) (sym read.3) closed))

pub returns-then-not-is_closed-clause-legs : goal.returns-then-not-is_closed-clause-legs
returns-then-not-is_closed-clause-legs g c =
    carried_unrefused g.P.Ordinate.kind c.args.card.now g.met.P.Ordinate.lawful _ (returns-then-not-is_closed-clause-answer g c)

pub returns-in-Some-clause-answer : goal.returns-in-Some-clause-answer
returns-in-Some-clause-answer g c =
    let K = g.P.Ordinate.kind in
    let xs = c.args.card.now in
    let n = c.in_ok-count.count in
    let read = c.in_ok-chain.ensures in
    let head = c.in_ok-count.ensures in
    let k = c.in-Some.field-0 in
    let m = c.place_of.result in
    let placed = c.place_of.ensures ∙ min-eq_left (capacity_room K n (length xs) head.long head.fits) in
    let closed = subst (λ (last : Option (Leg _)). ClosedAfter last) read.3 (c.if-not-is_closed.ensures.yes tt).1 in
    answer_tail K xs g.met.P.Ordinate.lawful n head read.0 read.1 read.2 closed (m + k)
    (subst (λ (at : ℕ). at ≤ m + k) placed (omega arith)) (λ zero. c.in-Some.ensures (c.split_at.ensures.by_index.2 k 0 ∙ zero))

pub returns-in-Some-clause-legs : goal.returns-in-Some-clause-legs
returns-in-Some-clause-legs g c = carried_unrefused g.P.Ordinate.kind c.args.card.now g.met.P.Ordinate.lawful _ (returns-in-Some-clause-answer g c)

pub returns-in-None-clause-legs : goal.returns-in-None-clause-legs
returns-in-None-clause-legs g c =
    let K = g.P.Ordinate.kind in
    let xs = c.args.card.now in
    let n = c.in_ok-count.count in
    let read = c.in_ok-chain.ensures in
    let head = c.in_ok-count.ensures in
    let m = c.place_of.result in
    let placed = c.place_of.ensures ∙ min-eq_left (capacity_room K n (length xs) head.long head.fits) in
    let zeros : (k : ℕ) → 8 + record_length K * n ≤ k → get_or xs k 0 ≡ 0 =
    (λ k past.
    let past' : m ≤ k = subst (λ (at : ℕ). at ≤ k) (sym placed) past in
    let back : m + (k - m) ≡ k = omega arith in
    ap (λ (i : ℕ). get_or xs i 0) (sym back) ∙ sym (c.split_at.ensures.by_index.2 (k - m) 0) ∙ c.in-None.ensures (k - m)) in
    let closed = subst (λ (last : Option (Leg _)). ClosedAfter last) read.3 (c.if-not-is_closed.ensures.yes tt).1 in
    (read.0, carried K xs n read.0 (record { head = head; many = read.2; read = read.1; closed = closed; zeros = zeros }), read.4)

pub returns-in-None-clause-answer : goal.returns-in-None-clause-answer
returns-in-None-clause-answer g c =
    let found = returns-in-None-clause-legs g c in
    carried_accepted g.P.Ordinate.kind c.args.card.now g.met.P.Ordinate.lawful found.0 found.1
