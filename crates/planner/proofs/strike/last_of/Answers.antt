use Rattle.std.proofs.Common.{◌≡◌, ℕ, ◌<◌, ◌≤◌, MatchOption, arith, get_or, length, subst}
use Rattle.planner.proofs.Striking.{last_got}
use Rattle.planner.proofs.strike.last_of.Goals as goal

pub returns-clause-value : goal.returns-clause-value
returns-clause-value g c =
    let legs = (g.O.Outlet.contents c.args.outlet.now).legs in
    let below = c.in_ok-checked_sub.ensures in
    let some : c.args.count ≡ 0 → ⊥ = λ e. omega (arith, below.0) in
    last_got legs c.args.count c.get.result c.requires.there some
    (subst (λ (i : ℕ). MatchOption c.get.result (length legs ≤ i) (λ l. (i < length legs) × (l ≡ get_or legs i l))) below.1 c.get.ensures.finds)
