-- The legs of the standing spans are a chain: each span's go on where the span before was closed.
use Rattle.std.proofs.Common.{◌≡◌, ℕ, zero, suc, ◌+◌, ◌-◌, ◌*◌, ◌^◌, ◌≤◌, Bool, List, [], ◌∷◌, ◌++◌, map, Some, None, Option, sym, refl, ap, ◌∙◌, subst, arith, pow_pos}
use Rattle.std.proofs.lemmas.List.{map-append}
use Rattle.ordinate.specs.Kinds.{Kind}
use Rattle.distance.specs.Measures.{Measure}
use Rattle.bezier.specs.Reductions.{Rule}
use Rattle.leg.specs.Chains.{Chained, Closed, Each, GoesOn, Last, RunsOn, last_or, stretch_of, stretches}
use Rattle.leg.specs.declared.leg.Cell.{Cell}
use Rattle.leg.specs.declared.leg.Leg.{Leg}
use Rattle.leg.specs.declared.leg.Stretch.{Stretch}
use Rattle.leg.proofs.Seams.{last_stretch}
use Rattle.outlet.specs.Outlets.{Contents}
use Rattle.curve.specs.Cells.{Allowed, Covers, Division, begin, end, whole}
use Rattle.curve.proofs.Divisions.{covers_le}
use Rattle.curve.proofs.Moments.{begin<end, units}
use Rattle.curve.specs.Legs.{leg_of}
use Rattle.turn.specs.Calls.{History, Progress, Span, end_tick, last_leg, standing}
use Rattle.turn.specs.Settings.{Setting}
use Rattle.turn.specs.Reasons.{cell_passes}
use Rattle.turn.specs.Whole.{EndsAt, Whole}
use Rattle.turn.proofs.Kept.{stand}
use Rattle.turn.proofs.Seams.{powers, run_ends}
use Rattle.turn.proofs.Standing.{Stand, stand_closes, stand_runs}

runs_append : (o : Option Stretch) (xs ys : List Stretch) → RunsOn o xs → RunsOn (last_or o xs) ys → RunsOn o (xs ++ ys)
runs_append o [] ys h k = k
runs_append o (x ∷ xs) ys h k = (h.0, runs_append (Some x) xs ys h.1 k)

-- Where a span that starts at the tick S is begun: at tick 0, or behind the last stretch of a span that ends at S.
abbrev Opens : ℕ → Option Stretch → Type 0
Opens S None = 0 ≡ S
Opens S (Some p) = (p.from + p.ticks ≡ S) × Last p

opened : (S : ℕ) (o : Option Stretch) (h : Stretch) → Opens S o → h.from ≡ S → h.cell.index ≡ 0 → GoesOn o h
opened S None h b e z = (e ∙ sym b, z)
opened S (Some p) h b e z = record { after = λ l. (e ∙ sym b.0, z); inside = λ n. absurd (n b.1) }

module _ {P : Type 0} (K : Kind P) (M : Measure) (R : Rule P) (D S L : ℕ) (ps : List P) (passes : Cell → Bool) where
  abbrev leg : Cell → Leg P
  leg c = leg_of K M R S L ps c

  last_ends : (c : Cell) → c.depth ≤ D → c.index + 1 ≡ 2 ^ c.depth → end D c ≡ end D whole
  last_ends c h e =
      let z : D ≡ D - 0 = omega arith in
      let f = powers D c.depth h in
      let g : (c.index + 1) * 2 ^ (D - c.depth) ≡ 2 ^ c.depth * 2 ^ (D - c.depth) = ap (λ (n : ℕ). n * 2 ^ (D - c.depth)) e in
      let w : (0 + 1) * 2 ^ D ≡ (0 + 1) * 2 ^ (D - 0) = ap (λ (n : ℕ). (0 + 1) * 2 ^ n) z in
      omega arith

  cells_on : (p : Cell) (cs : List Cell) → p.depth ≤ D → Each (Allowed D passes) cs → Covers D (end D p) cs (end D whole)
      → RunsOn (Some (leg p).stretch) (stretches (map leg cs))
  cells_on p [] h w v = tt
  cells_on p (c ∷ cs) h w v = (
    record {
      after = λ l.
          let e = last_ends p h l in
          let r = covers_le D (end D c) cs (end D whole) v.1 in
          let b = begin<end D c in
          let q : begin D c ≡ end D p = v.0 in
          absurd (omega arith);
      inside = λ n. (refl, refl, (units D (p.index + 1) p.depth c.index c.depth h w.0.shallow).0 (sym v.0));
    },
    cells_on c cs w.0.shallow w.1 v.1,
  )

  first_index : (c : Cell) → begin D c ≡ begin D whole → c.index ≡ 0
  first_index c e =
      let p = pow_pos (D - c.depth) in
      go c.index (2 ^ (D - c.depth)) p (let z : begin D whole ≡ 0 = omega arith in e ∙ z)
    where
      go : (k n : ℕ) → 1 ≤ n → k * n ≡ 0 → k ≡ 0
      go zero n h e = refl
      go (suc k) n h e = let f : k * n + n ≡ 0 = omega arith in absurd (omega arith)

  pub division_on : (o : Option Stretch) (cs : List Cell) → Opens S o → Division D passes whole cs → RunsOn o (stretches (map leg cs))
  division_on o [] b v = tt
  division_on o (c ∷ cs) b v =
      (opened S o (leg c).stretch b refl (first_index c v.covers.0), cells_on c cs v.allowed.0.shallow v.allowed.1 v.covers.1)

module _ {P : Type 0} (A : Setting P) where
  opens : (ss : List (Span P)) (ls : List (Leg P)) → Stand A ss ls → Opens (end_tick ss) (last_or None (stretches ls))
  opens ss ls s = subst (Opens (end_tick ss)) (sym (last_stretch None ls)) (go (last_leg ls) refl)
    where
      go : (o : Option (Leg P)) → last_leg ls ≡ o → Opens (end_tick ss) (stretch_of o)
      go None e = sym (subst (λ o. EndsAt o (end_tick ss)) (last_stretch None ls ∙ ap stretch_of e) (run_ends _ _ (stand_runs A ss ls s)))
      go (Some l) e = stand_closes A ss ls s l e

  stand_on : (ss : List (Span P)) (ls : List (Leg P)) → Stand A ss ls → RunsOn None (stretches ls)
  stand_on [] ls s = subst (λ ks. RunsOn None (stretches ks)) (sym s) tt
  stand_on (s ∷ ss) ls h =
      let o = h.4.legs in
      subst (RunsOn None) (sym (ap stretches h.2 ∙ map-append (λ (l : Leg P). l.stretch) h.0 h.1))
      (runs_append None (stretches h.0) (stretches h.1) (stand_on ss h.0 h.3)
      (subst (λ ks. RunsOn (last_or None (stretches h.0)) (stretches ks)) (sym o.made)
      (division_on A.kind A.measure A.rule A.depth (end_tick ss) s.ticks s.points (cell_passes A s.points) (last_or None (stretches h.0)) o.cells (opens ss h.0 h.3) o.fewest.division)))

  pub chained : (h : History P) (g : Progress P) (c : Contents P) → Whole A h g c → Chained c.legs
  chained h g c w =
      let s = stand A h g c w in
      record { ticks = stand_on (standing h) c.legs s; closed = subst Closed (sym (last_stretch None c.legs)) (go (last_leg c.legs) refl); points = w.joined }
    where
      go : (o : Option (Leg P)) → last_leg c.legs ≡ o → Closed (stretch_of o)
      go None e = tt
      go (Some l) e = (stand_closes A (standing h) c.legs (stand A h g c w) l e).1
