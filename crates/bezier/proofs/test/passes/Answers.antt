use Rattle.std.proofs.Common.{List, ◌≡◌, ℕ, ◌-◌, ◌*◌, ◌^◌, ◌<◌, Bool, true, false, T, length, ℤ, sym, refl, ap, ◌∙◌, subst, ap₂, arith, w64, to_z, of_z, rules}
use Rattle.std.proofs.lemmas.Int.{to_z-of_z}
use Rattle.distance.specs.Measures.{Inside, point}
use Rattle.distance.specs.Vectors.{◌·◌}
use Rattle.bezier.specs.Shares.{all_near, shares_of}
use Rattle.bezier.specs.Tests.{left_over, passes, scale}
use Rattle.bezier.specs.declared.degree.Degree.{Degree}
use Rattle.bezier.proofs.Beside.{computed}
use Rattle.bezier.proofs.Parts.{inside_cell, length_cell}
use Rattle.bezier.proofs.Passing.{passing_is_near}
use Rattle.bezier.specs.Laws.Reach.{reach_in, widen}
use Rattle.bezier.proofs.Fits.{gap_fits, shares_small}
use Rattle.bezier.proofs.test.passes.Goals as goal

true_is : (b : Bool) → T b → b ≡ true
true_is true h = refl
true_is false h = absurd h

pub returns-clause-value : goal.returns-clause-value
returns-clause-value g c low high inside =
    let K = g.P.Ordinate.kind in
    let M = g.P.Distance.measure in
    let R = g.R.Reduction.rule in
    let law = g.met.P.Ordinate.lawful in
    let C = M.limit in
    let small = g.met.P.Distance.lawful.limit_high in
    let xs = c.args.points.now in
    let n = length xs - 1 in
    let t = c.args.tolerance in
    let d = c.args.depth in
    let same = c.in-Some.ensures in
    let at = λ (j : ℕ) (l : j < length xs) (i : ℕ). widen (K.coordinate (point K xs j) i) C (2 ^ 33) (omega arith) (reach_in K law C (point K xs j) (inside j l) i) in
    let mid = λ (i : ℕ). widen (K.coordinate (R.middle xs) i) (4 * C) (2 ^ 33) (omega arith) (reach_in K law (4 * C) (R.middle xs) (g.met.R.Reduction.lawful.near xs low high inside) i) in
    let r : to_z w64 (of_z w64 c.room-r.result) ≡ scale R.degree n · left_over K M t n d =
    to_z-of_z w64 c.room-r.result (search rules) ∙ c.room-r.ensures ∙ ap₂ (λ (m : Degree) (ps : List g.row.P.Denot). scale m (length ps - 1) · left_over K M t (length ps - 1) d) c.degree-degree.ensures same in
    c.are_near.ensures
    ∙ ap (λ (ps : List g.row.P.Denot). all_near K M c.degree-degree.result ps c.middle.result (to_z w64 (of_z w64 c.room-r.result))) same
    ∙ ap₂ (λ (m : Degree) (z : ℤ). all_near K M m xs c.middle.result z) c.degree-degree.ensures r
    ∙ ap (λ (q : g.row.P.Denot). all_near K M R.degree xs q (scale R.degree n · left_over K M t n d)) (c.middle.ensures low high inside)
    ∙ computed K M R t d xs (λ j l i.
    let some : 0 < length xs = omega arith in
    let inside_j : j < length xs = omega arith in
    let top : n < length xs = omega arith in
    gap_fits (shares_of R.degree n j) _ _ _ _ (shares_small R.degree n j (omega arith) l) (at j inside_j i) (at 0 some i) (mid i) (at n top i))

pub returns-clause-near : goal.returns-clause-near
returns-clause-near g c b ps k low high inside l e =
    let K = g.P.Ordinate.kind in
    let M = g.P.Distance.measure in
    let R = g.R.Reduction.rule in
    let law = g.met.P.Ordinate.lawful in
    let t = c.args.tolerance in
    let d = c.args.depth in
    let long = length_cell K d k ps in
    let as_long = ap length e in
    passing_is_near K M R law g.met.P.Distance.lawful g.met.R.Reduction.lawful t d k ps low l
    (sym (ap (passes K M R t d) e)
    ∙ sym (returns-clause-value g c (omega arith) (omega arith) (subst (Inside K M.limit) (sym e) (inside_cell K law M.limit d k ps inside)))
    ∙ true_is c.are_near.result b)
