use Rattle.std.proofs.Common.{rules, ◌≡◌, ℕ, ◌<◌, length, get_or, Bool, true, false, IsTrue, ◌↔◌, arith, sym, subst, pos, neg_ℤ, refl}
use Rattle.std.specs.Bool.{MatchBool}
use Rattle.std.specs.List.{AllWithin, HoldsAt, range_with_len}
use Rattle.std.proofs.lemmas.Iterator.{YieldsList-from_range, cases_from_all}
use Rattle.std.proofs.lemmas.List.FromFn.{get_or-range_with_len, length-range_with_len}
use Rattle.ordinate.specs.Kinds.{Between}
use Rattle.distance.proofs.points.is_drawable.Goals as goal

place : (n i : ℕ) → i < n → get_or (range_with_len 0 n) i 0 ≡ i
place n i l = let e = get_or-range_with_len 0 n i 0 l in omega arith

-- what `all` answers over the numbers below n
all_below : (n : ℕ) (Yes : ℕ → Type 0) (r : Bool)
    → MatchBool r (AllWithin Yes (range_with_len 0 n) 0 (length (range_with_len 0 n))) ((k : ℕ) × (k < length (range_with_len 0 n)) × HoldsAt (λ i. ¬ (Yes i)) (range_with_len 0 n) k)
    → IsTrue r ↔ ((i : ℕ) → i < n → Yes i)
all_below n Yes true h = (λ t i l. subst Yes (place n i l) (h i 0 (omega arith) (omega (arith, length-range_with_len 0 n))), λ f. refl)
all_below n Yes false h = let l : h.0 < n = omega (arith, h.1, length-range_with_len 0 n) in (λ t. absurd (cc), λ f. absurd (h.2 0 (subst Yes (sym (place n h.0 l)) (f h.0 l))))

pub returns : goal.returns
returns g c =
    let n = c.dimension.result in
    let m = pos g.P.Distance.measure.limit in
    let Yes = λ (i : ℕ). Between (neg_ℤ m) m (g.P.Ordinate.kind.coordinate c.args.p i) in
    let e = all_below n Yes c.all.result (cases_from_all _ _ c.all.result Yes (λ i. ¬ (Yes i)) c.all.ensures.ran (YieldsList-from_range 0 n n refl (omega arith)) (λ x q k. search rules) (λ x q k. search rules)) in
    (λ t i l. e.0 t i (omega arith), λ f. e.1 (λ i l. f i (omega arith)))
