-- What refuses a curve is what refuses a lay, in its place among the reasons of the lay.
use Rattle.std.proofs.Common.{◌≡◌, ℕ, ◌+◌, ◌<◌, ◌⊎◌, List, [], ◌∷◌, ◌++◌, length, ℤ, pos, ◌+ℤ◌, ◌<ℤ◌, Some, None, Option, refl, ap, inl, inr}
use Rattle.std.proofs.lemmas.Option.{none-some}
use Rattle.std.specs.Option.{option_map}
use Rattle.distance.specs.Measures.{Beyond}
use Rattle.leg.specs.Reasons.{First, Reason, because}
use Rattle.leg.specs.declared.leg.Cell.{Cell}
use Rattle.outlet.specs.Outlets.{Contents, room}
use Rattle.curve.specs.Fewest.{Divisible, Fewest}
use Rattle.curve.specs.Refusals.{Outside, bent, crowded, point_reasons, put_reasons, work_wanted}
use Rattle.curve.specs.declared.refusal.CurveRefusal.{CurveRefusal}
use Rattle.curve.specs.declared.refusal.CurveRefusal.TheVariants.{PointCount, PointBeyond, ShortWork, TooBent, TooManyLegs}
use Rattle.leg.proofs.Reasoned.{first_later, first_now}
use Rattle.turn.specs.Calls.{Progress, lay}
use Rattle.turn.specs.Reasons.{Continues, facing, first_point, reasons, cell_passes}
use Rattle.turn.specs.Settings.{Setting}
use Rattle.turn.specs.declared.refusal.Refusal.{Refusal}
use Rattle.turn.specs.declared.refusal.Refusal.TheVariants.{Curve, Ticks, PastEnd, Apart}
use Rattle.turn.proofs.Reasons.{because_beside, first_beside}

-- where none of the first reasons holds, the others decide
pub first_behind : {E : Type 0} (rs qs : List (Reason E)) (o : Option E) → First rs None → First (rs ++ qs) o → First qs o
first_behind [] qs o n h = h
first_behind (r ∷ rs) qs o (inl n) h = absurd (none-some n.0 n.2)
first_behind (r ∷ rs) qs o (inr n) (inl h) = absurd (n.0 h.0 h.1)
first_behind (r ∷ rs) qs o (inr n) (inr h) = first_behind rs qs o n.1 h.1

module _ {P : Type 0} (A : Setting P) (ps : List P) where
  -- the reasons of a lay that look at the points alone
  abbrev pub points_refuse : List (Reason Refusal)
  points_refuse =
      because (Outside (A.rule.lowest + 1) 9 (length ps)) (Curve PointCount)
      ∷ (λ f. (j : ℕ) × Beyond A.kind A.measure.limit ps j × (f ≡ Curve (PointBeyond j)))
      ∷ []

  pub points_first : (o : Option CurveRefusal) → First (point_reasons A.kind A.measure A.rule ps) o → First points_refuse (option_map Curve o)
  points_first o h =
      first_beside Curve (point_reasons A.kind A.measure A.rule ps) points_refuse o
      (because_beside Curve PointCount (λ x. x) (λ x. x), ((λ f x. (x.0, x.1, ap Curve x.2), λ f x. (PointBeyond x.0, (x.0, x.1, refl))), tt)) h

  -- the last of them, which look at the work points and at the cells of the curve
  abbrev pub cells_refuse : ℕ → ℕ → List (Reason Refusal)
  cells_refuse work free =
      because (work < work_wanted A.kind A.measure A.rule A.depth ps) (Curve ShortWork)
      ∷ because (¬ (Divisible A.depth (cell_passes A ps))) (Curve TooBent)
      ∷ because ((cs : List Cell) × Fewest A.depth (cell_passes A ps) cs × (free < length cs)) (Curve TooManyLegs)
      ∷ []

  abbrev cells_refuse_curve : ℕ → ℕ → List (Reason CurveRefusal)
  cells_refuse_curve work free =
      because (work < work_wanted A.kind A.measure A.rule A.depth ps) ShortWork
      ∷ bent A.kind A.measure A.rule A.tolerance A.depth ps
      ∷ crowded A.kind A.measure A.rule A.tolerance A.depth ps free
      ∷ []

  pub cells_first : (work free : ℕ) (o : Option CurveRefusal) → First (point_reasons A.kind A.measure A.rule ps) None
      → First (put_reasons A.kind A.measure A.rule A.tolerance A.depth ps work free) o → First (cells_refuse work free) (option_map Curve o)
  cells_first work free o p h =
      first_beside Curve (cells_refuse_curve work free) (cells_refuse work free) o (
        because_beside Curve ShortWork (λ x. x) (λ x. x),
        (because_beside Curve TooBent (λ x. x) (λ x. x), (because_beside Curve TooManyLegs (λ x. x) (λ x. x), tt)),
      )
      (first_behind (point_reasons A.kind A.measure A.rule ps) (cells_refuse_curve work free) o p h)

-- ---- the answer of a lay, as its checks find it

module _ {P : Type 0} (A : Setting P) (g : Progress P) (c : Contents P) (ps : List P) (l : ℤ) (work : ℕ) (ours : length c.legs ≡ g.count) where
  -- the reasons behind those that look at the points alone
  abbrev later : List (Reason Refusal)
  later =
      because ((l <ℤ pos 1) ⊎ (pos 4096 <ℤ l)) Ticks
      ∷ because (pos A.end <ℤ (pos g.laid +ℤ l)) PastEnd
      ∷ because (¬ (Continues g.end_value (first_point A ps))) Apart
      ∷ cells_refuse A ps work (room c)

  -- refused for its points
  pub lay_points : (f : CurveRefusal) → First (point_reasons A.kind A.measure A.rule ps) (Some f) → First (reasons A (facing A g c) (lay ps l work)) (Some (Curve f))
  lay_points f h = inr (λ e x. x.0 ours, first_now (points_refuse A ps) later (Curve f) (points_first A ps (Some f) h))

  module _ (drawn : First (point_reasons A.kind A.measure A.rule ps) None) where
    past_points : (o : Option Refusal) → First later o → First (reasons A (facing A g c) (lay ps l work)) o
    past_points o h = inr (λ e x. x.0 ours, first_later (points_refuse A ps) later o (points_first A ps None drawn) h)

    -- refused for its ticks, its end or its start
    pub lay_ticks : (l <ℤ pos 1) ⊎ (pos 4096 <ℤ l) → First (reasons A (facing A g c) (lay ps l work)) (Some Ticks)
    lay_ticks x = past_points (Some Ticks) (inl (Ticks, (x, refl), refl))

    module _ (some : ¬ (l <ℤ pos 1)) (brief : ¬ (pos 4096 <ℤ l)) where
      timely : (e : Refusal) → because ((l <ℤ pos 1) ⊎ (pos 4096 <ℤ l)) Ticks e → ⊥
      timely e x = elim x.0 [ inl y ↦ some y | inr y ↦ brief y ]

      pub lay_past_end : pos A.end <ℤ (pos g.laid +ℤ l) → First (reasons A (facing A g c) (lay ps l work)) (Some PastEnd)
      lay_past_end x = past_points (Some PastEnd) (inr (timely, inl (PastEnd, (x, refl), refl)))

      module _ (in_time : ¬ (pos A.end <ℤ (pos g.laid +ℤ l))) where
        pub lay_apart : ¬ (Continues g.end_value (first_point A ps)) → First (reasons A (facing A g c) (lay ps l work)) (Some Apart)
        lay_apart x = past_points (Some Apart) (inr (timely, inr (λ e y. in_time y.0, inl (Apart, (x, refl), refl))))

        -- refused or accepted as its curve is
        pub lay_cells : Continues g.end_value (first_point A ps) → (o : Option CurveRefusal) → First (put_reasons A.kind A.measure A.rule A.tolerance A.depth ps work (room c)) o
            → First (reasons A (facing A g c) (lay ps l work)) (option_map Curve o)
        lay_cells x o h =
            past_points (option_map Curve o) (inr (timely, inr (λ e y. in_time y.0, inr (λ e y. y.0 x, cells_first A ps work (room c) o drawn h))))
