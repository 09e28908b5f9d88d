-- Laying a span: what its checks and the legs that are put say of its reasons.
use Rattle.std.proofs.Common.{◌≡◌, ℕ, ◌+◌, ◌<◌, false, List, ◌++◌, length, ℤ, pos, ◌+ℤ◌, ◌<ℤ◌, Err, Ok, Some, None, Option, refl, sym, ap, subst, ◌∙◌, inl, inr, arith}
use Rattle.std.proofs.lemmas.Int.{ints}
use Rattle.std.proofs.lemmas.List.{length-append, length-map}
use Rattle.std.proofs.lemmas.Option.{none-some, same_Some}
use Rattle.std.specs.Option.{option_map}
use Rattle.ordinate.specs.Kinds.{Kind}
use Rattle.distance.specs.Measures.{Measure}
use Rattle.bezier.specs.Reductions.{Rule}
use Rattle.leg.specs.Reasons.{First}
use Rattle.outlet.specs.Outlets.{Contents, room}
use Rattle.curve.specs.Refusals.{point_reasons, put_reasons}
use Rattle.curve.specs.declared.refusal.CurveRefusal.{CurveRefusal}
use Rattle.curve.specs.declared.refusal.CurveRefusal.TheVariants.{PointCount}
use Rattle.curve.specs.declared.span.Span.{Span}
use Rattle.turn.specs.Calls.{Progress, lay}
use Rattle.turn.specs.Outcomes.{Outcome, legs_for}
use Rattle.turn.specs.Reasons.{Continues, facing, first_point, last_point, reasons}
use Rattle.turn.specs.Settings.{Setting}
use Rattle.turn.specs.declared.refusal.Refusal.TheVariants.{Apart, Curve}
use Rattle.turn.proofs.Laying.{lay_apart, lay_cells}
use Rattle.turn.proofs.Reasons.{none_holds}
use Rattle.planner.specs.Drafts.{halving_begun}
use Rattle.planner.specs.Steps.{Fits, Puts}

-- no halving is begun where the points refuse
pub points_not_begun : {P : Type 0} (K : Kind P) (M : Measure) (R : Rule P) (ps : List P) (f : CurveRefusal)
    → First (point_reasons K M R ps) (Some f) → halving_begun (Err (Curve f)) ≡ false
points_not_begun K M R ps f (inl h) = ap (λ e. halving_begun (Err (Curve e))) (same_Some _ _ h.2 ∙ h.1.1)
points_not_begun K M R ps f (inr (n, inl h)) = ap (λ e. halving_begun (Err (Curve e))) (same_Some _ _ h.2 ∙ h.1.2)
points_not_begun K M R ps f (inr (n, inr (m, e))) = absurd (none-some f (sym e))

pub drawn_some : {P : Type 0} (K : Kind P) (M : Measure) (R : Rule P) (ps : List P) → First (point_reasons K M R ps) None → 0 < length ps
drawn_some K M R ps h =
    let low : ¬ (length ps < R.lowest + 1) = λ x. (none_holds (point_reasons K M R ps) h).0 PointCount (inl x, refl) in
    omega arith

module _ {P : Type 0} (A : Setting P) (g : Progress P) (c : Contents P) (ps : List P) (s : Span) (fits : Fits A g c ps s) (work : ℕ) where
  some : ¬ (pos s.ticks <ℤ pos 1)
  some h = let n = s.some in omega (arith, ints)

  brief : ¬ (pos 4096 <ℤ pos s.ticks)
  brief h = let n = s.brief in omega (arith, ints)

  in_time : ¬ (pos A.end <ℤ (pos g.laid +ℤ pos s.ticks))
  in_time h = let e = fits.in_time in let n = fits.from in omega (arith, ints)

  pub fits_apart : ¬ (Continues g.end_value (first_point A ps)) → First (reasons A (facing A g c) (lay ps (pos s.ticks) work)) (Some Apart)
  fits_apart = lay_apart A g c ps (pos s.ticks) work fits.ours fits.drawn some brief in_time

  pub fits_cells : Continues g.end_value (first_point A ps) → (o : Option CurveRefusal)
      → First (put_reasons A.kind A.measure A.rule A.tolerance A.depth ps work (room c)) o → First (reasons A (facing A g c) (lay ps (pos s.ticks) work)) (option_map Curve o)
  fits_cells = lay_cells A g c ps (pos s.ticks) work fits.ours fits.drawn some brief in_time

  -- the draft as it goes on after its legs are put
  pub laid_outcome : (l : ℤ) → pos s.ticks ≡ l → First (reasons A (facing A g c) (lay ps (pos s.ticks) work)) None
      → (c' : Contents P) → Puts A ps s (Ok tt) c c' → (g' : Progress P) → g'.count ≡ length c'.legs → g'.laid ≡ g.laid + s.ticks → g'.end_value ≡ Some (last_point A ps)
      → Outcome A (lay ps l work) g c (Ok tt) g' c'
  laid_outcome l e h c' p g' n t v =
      subst (λ (z : ℤ). Outcome A (lay ps z work) g c (Ok tt) g' c') e
      (record {
        answer = h;
        effect =
            let cs = p.0 in
            let own = legs_for A s.from ps s.ticks cs in
            let legs : c'.legs ≡ c.legs ++ own = ap (λ (d : Contents P). d.legs) p.2 in
            let many : length c'.legs ≡ length c.legs + length cs = ap length legs ∙ length-append c.legs own ∙ ap (λ (i : ℕ). length c.legs + i) (length-map cs _) in
            let ours = fits.ours in
            record {
              cells = cs;
              fitted = p.1;
              put = subst (λ (i : ℕ). c' ≡ record { legs = c.legs ++ legs_for A i ps s.ticks cs; capacity = c.capacity }) fits.from p.2;
              count = omega arith;
              laid = t;
              end_value = v;
            };
      })
