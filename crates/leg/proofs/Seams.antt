-- A chain has no gap and no overlap: it covers every tick up to its end, and none beyond.
use Rattle.std.proofs.Common.{◌≡◌, ℕ, ◌+◌, ◌*◌, ◌<◌, ◌≤◌, List, [], ◌∷◌, Some, None, Option, sym, refl, ap, ◌∙◌, subst, ap₂, inl, inr, mul-le-mul_left, arith, pow_pos}
use native.Mathlib.Nat.{le_of_mul-le-mul_left}
use Rattle.std.proofs.lemmas.Bool.{cases_lt, cases_eq}
use Rattle.ordinate.specs.Flows.{flow}
use Rattle.ordinate.specs.declared.flow.Flow.{Flow}
use Rattle.leg.specs.Legs.{IsLeg}
use Rattle.leg.specs.Ticks.{cells, begins_at, ends_at, Abuts}
use Rattle.leg.specs.Chains.{Each, Next, GoesOn, RunsOn, BeginsAfter, Seamless, Closed, Chained, last_or, stretches, stretch_of}
use Rattle.leg.specs.Values.{FirstTells, Past, PastLast}
use Rattle.leg.specs.declared.leg.Leg.{Leg}
use Rattle.leg.specs.declared.leg.Stretch.{Stretch}

pub last_stretch : {P : Type 0} (o : Option (Leg P)) (ls : List (Leg P)) → last_or (stretch_of o) (stretches ls) ≡ stretch_of (last_or o ls)
last_stretch o [] = refl
last_stretch o (l ∷ ls) = last_stretch (Some l) ls

-- ---- the arithmetic, over plain numbers

-- the last cell of a span ends with it
span_ends : (c s k t : ℕ) → k + 1 ≡ c → c * s + k * t + t ≡ c * (s + t)
span_ends c s k t e = rw (sym e) (omega arith)

abuts_after : (c c' s k t : ℕ) → k + 1 ≡ c → (c * s + k * t + t) * c' ≡ (c' * (s + t) + 0) * c
abuts_after c c' s k t e = rw (span_ends c s k t e) (omega arith)

abuts_inside : (c c' s k k' t : ℕ) → (k + 1) * c' ≡ k' * c → (c * s + k * t + t) * c' ≡ (c' * s + k' * t) * c
abuts_inside c c' s k k' t e =
    let a : (c * s + k * t + t) * c' ≡ c * c' * s + t * ((k + 1) * c') = omega arith in
    let b : (c' * s + k' * t) * c ≡ c * c' * s + t * (k' * c) = omega arith in
    a ∙ ap (λ (x : ℕ). c * c' * s + t * x) e ∙ sym b

-- a tick before the end of p is not past the beginning of h, where they meet, and the other way round
crossed : (c c' e b a : ℕ) → 0 < c → e * c' ≡ b * c → c * a ≤ e → c' * a ≤ b
crossed c c' e b a h m l =
    let x = mul-le-mul_left {m = c * a} {n = e} c' l in
    let y : c * (c' * a) ≤ c * b = omega arith in
    le_of_mul-le-mul_left {m = c' * a} {n = b} {k = c} y h

crossed_back : (c c' e b a : ℕ) → 0 < c' → e * c' ≡ b * c → c' * a ≤ b → c * a ≤ e
crossed_back c c' e b a h m l =
    let x = mul-le-mul_left {m = c' * a} {n = b} c l in
    let y : c' * (c * a) ≤ c' * e = omega arith in
    le_of_mul-le-mul_left {m = c * a} {n = e} {k = c'} y h

-- ---- no gap and no overlap
next_abuts : (p h : Stretch) → Next p h → Abuts p h
next_abuts p h n =
    elim (cases_eq (p.cell.index + 1) (cells p)) [
      | inl e ↦
          let x = n.after e in
          let z : cells h * (p.from + p.ticks) + 0 * h.ticks ≡ cells h * (p.from + p.ticks) + 0 = omega arith in
          let b : begins_at h ≡ cells h * (p.from + p.ticks) + 0 = ap₂ (λ (f k : ℕ). cells h * f + k * h.ticks) x.0 x.1 ∙ z in
          abuts_after (cells p) (cells h) p.from p.cell.index p.ticks e ∙ ap (λ (y : ℕ). y * cells p) (sym b)
      | inr ne ↦
          let x = n.inside ne in
          let b : begins_at h ≡ cells h * p.from + h.cell.index * p.ticks = ap₂ (λ (f t : ℕ). cells h * f + h.cell.index * t) x.0 x.1 in
          abuts_inside (cells p) (cells h) p.from p.cell.index h.cell.index p.ticks x.2 ∙ ap (λ (y : ℕ). y * cells p) (sym b)
    ]

goes_on_begins : (o : Option Stretch) (h : Stretch) → GoesOn o h → BeginsAfter o h
goes_on_begins None h g =
    let z : cells h * 0 + 0 * h.ticks ≡ 0 = omega arith in
    ap₂ (λ (f k : ℕ). cells h * f + k * h.ticks) g.0 g.1 ∙ z
goes_on_begins (Some p) h g = next_abuts p h g

pub runs_seamless : (o : Option Stretch) (hs : List Stretch) → RunsOn o hs → Seamless o hs
runs_seamless o [] r = tt
runs_seamless o (h ∷ hs) r = (goes_on_begins o h r.0, runs_seamless (Some h) hs r.1)

-- ---- the ticks that are covered
module _ (a : ℕ) where
  -- The tick a is no later than the end.
  abbrev Upto : Option Stretch → Type 0
  Upto None = ⊥
  Upto (Some h) = cells h * a ≤ ends_at h

  upto_next : (o : Option Stretch) (h : Stretch) → BeginsAfter o h → Upto o → cells h * a ≤ begins_at h
  upto_next None h b u = absurd u
  upto_next (Some p) h b u = crossed (cells p) (cells h) (ends_at p) (begins_at h) a (pow_pos p.cell.depth) b u

  upto_before : (o : Option Stretch) (h : Stretch) → BeginsAfter o h → cells h * a < begins_at h → Upto o
  upto_before None h b l = omega arith
  upto_before (Some p) h b l = crossed_back (cells p) (cells h) (ends_at p) (begins_at h) a (pow_pos h.cell.depth) b (omega arith)

  upto_last : (o : Option (Leg Flow)) (ls : List (Leg Flow)) → Seamless (stretch_of o) (stretches ls) → Upto (stretch_of o) → Upto (stretch_of (last_or o ls))
  upto_last o [] s u = u
  upto_last o (l ∷ ls) s u = upto_last (Some l) ls s.1 (let x = upto_next (stretch_of o) l.stretch s.0 u in omega arith)

  told_upto : (o : Option (Leg Flow)) (ls : List (Leg Flow)) (v : Flow) → Seamless (stretch_of o) (stretches ls) → FirstTells ls a (Some v) → Upto (stretch_of (last_or o ls))
  told_upto o [] v s e = let z : ◌≡◌ {A = ℕ} 0 1 = cc in absurd (omega arith)
  told_upto o (l ∷ ls) v s (inl t) = upto_last (Some l) ls s.1 t.1.covers.1
  told_upto o (l ∷ ls) v s (inr t) = told_upto (Some l) ls v s.1 t.1

  -- Where no leg tells, what the last one reaches was reached before the first.
  untold_upto : (o : Option (Leg Flow)) (ls : List (Leg Flow)) → Each (IsLeg flow) ls → Seamless (stretch_of o) (stretches ls) → FirstTells ls a None → Upto (stretch_of (last_or o ls)) → Upto (stretch_of o)
  untold_upto o [] i s f u = u
  untold_upto o (l ∷ ls) i s (inl t) u = let e = t.2 in let z : ◌≡◌ {A = ℕ} 0 1 = cc in absurd (omega arith)
  untold_upto o (l ∷ ls) i s (inr t) u =
      let up : cells l.stretch * a ≤ ends_at l.stretch = untold_upto (Some l) ls i.1 s.1 t.1 u in
      elim (cases_lt (cells l.stretch * a) (begins_at l.stretch)) [
        | inl lt ↦ upto_before (stretch_of o) l.stretch s.0 lt
        | inr ge ↦ absurd (t.0 _ (record { leg = i.0; covers = (ge, up); value = refl }))
      ]

  upto_not_past : (o : Option (Leg Flow)) → Closed (stretch_of o) → Upto (stretch_of o) → PastLast o a → ⊥
  upto_not_past None c u p = u
  upto_not_past (Some l) c u p =
      let h = l.stretch in
      let e = span_ends (cells h) h.from h.cell.index h.ticks c in
      let x : cells h * a ≤ cells h * (h.from + h.ticks) = omega arith in
      let y = le_of_mul-le-mul_left {m = a} {n = h.from + h.ticks} {k = cells h} x (pow_pos h.cell.depth) in
      omega arith

  upto_or_past : (o : Option (Leg Flow)) → Closed (stretch_of o) → (Upto (stretch_of o) → ⊥) → PastLast o a
  upto_or_past None c n = tt
  upto_or_past (Some l) c n =
      let h = l.stretch in
      elim (cases_lt (h.from + h.ticks) a) [
        | inl lt ↦ lt
        | inr ge ↦
            let e = span_ends (cells h) h.from h.cell.index h.ticks c in
            let x = mul-le-mul_left {m = a} {n = h.from + h.ticks} (cells h) ge in
            absurd (n (omega arith))
      ]

  -- No leg of a chain tells at the tick exactly where the tick is past the last leg, or there is none.
  pub untold_past : (ls : List (Leg Flow)) → Each (IsLeg flow) ls → Chained ls → FirstTells ls a None → Past ls a
  untold_past ls i c f =
      upto_or_past (last_or None ls) (subst Closed (last_stretch None ls) c.closed) (untold_upto None ls i (runs_seamless None (stretches ls) c.ticks) f)

  pub told_not_past : (ls : List (Leg Flow)) (v : Flow) → Chained ls → FirstTells ls a (Some v) → Past ls a → ⊥
  told_not_past ls v c f = upto_not_past (last_or None ls) (subst Closed (last_stretch None ls) c.closed) (told_upto None ls v (runs_seamless None (stretches ls) c.ticks) f)
