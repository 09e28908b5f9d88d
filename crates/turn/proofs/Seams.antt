-- The legs of a division run from the start of their span to its end, without gap or overlap.
use Rattle.std.proofs.Common.{◌≡◌, ℕ, ◌+◌, ◌-◌, ◌*◌, ◌^◌, ◌≤◌, Bool, List, [], ◌∷◌, ◌++◌, map, Some, None, Option, sym, refl, ap, ◌∙◌, subst, arith, pow_pos, pow-add}
use Rattle.std.proofs.Math.Nat.{eq_of_mul-eq-mul_right}
use Rattle.std.proofs.lemmas.Option.{none-some, same_Some}
use Rattle.ordinate.specs.Kinds.{Kind}
use Rattle.distance.specs.Measures.{Measure}
use Rattle.bezier.specs.Reductions.{Rule}
use Rattle.leg.specs.Chains.{Each, Last, Seamless, last_or, stretches}
use Rattle.leg.specs.Ticks.{begins_at, cells, ends_at}
use Rattle.leg.specs.declared.leg.Cell.{Cell}
use Rattle.leg.specs.declared.leg.Leg.{Leg}
use Rattle.leg.specs.declared.leg.Stretch.{Stretch}
use Rattle.curve.specs.Cells.{Allowed, Covers, Division, begin, end, whole}
use Rattle.curve.specs.Legs.{leg_of}
use Rattle.turn.specs.Whole.{EndsAt}

-- ---- moments of a turn, in ticks, as fractions

pub record Moment : Type 0 where
  pub over : ℕ
  pub under : ℕ

abbrev pub tick : ℕ → Moment
tick a = record { over = a; under = 1 }

abbrev pub Same : Moment → Moment → Type 0
Same a b = a.over * b.under ≡ b.over * a.under

abbrev pub begins : Stretch → Moment
begins h = record { over = begins_at h; under = cells h }

abbrev pub ends : Stretch → Moment
ends h = record { over = ends_at h; under = cells h }

through : (a b c : Moment) → 1 ≤ b.under → Same a b → Same b c → Same a c
through a b c h p q =
    let p' : a.over * b.under * c.under ≡ b.over * a.under * c.under = ap (λ (n : ℕ). n * c.under) p in
    let q' : b.over * c.under * a.under ≡ c.over * b.under * a.under = ap (λ (n : ℕ). n * a.under) q in
    eq_of_mul-eq-mul_right b.under h (a.over * c.under) (c.over * a.under) (omega arith)

-- ---- stretches from one moment to another

-- The first begins at a, each other one where the one before ends, and the last ends at b.
abbrev pub Runs : Moment → List Stretch → Moment → Type 0
Runs a [] b = Same a b
Runs a (h ∷ hs) b = Same a (begins h) × Runs (ends h) hs b

runs_from : (a b c : Moment) (hs : List Stretch) → 1 ≤ b.under → Same a b → Runs b hs c → Runs a hs c
runs_from a b c [] h p r = through a b c h p r
runs_from a b c (x ∷ hs) h p r = (through a b (begins x) h p r.0, r.1)

pub runs_append : (a b c : Moment) (xs ys : List Stretch) → 1 ≤ b.under → Runs a xs b → Runs b ys c → Runs a (xs ++ ys) c
runs_append a b c [] ys h r q = runs_from a b c ys h r q
runs_append a b c (x ∷ xs) ys h r q = (r.0, runs_append (ends x) b c xs ys h r.1 q)

-- A run from tick 0 is seamless, and the last of it ends at its end.
after_seamless : (p : Stretch) (hs : List Stretch) (b : Moment) → Runs (ends p) hs b → Seamless (Some p) hs
after_seamless p [] b r = tt
after_seamless p (h ∷ hs) b r = (r.0, after_seamless h hs b r.1)

pub run_seamless : (hs : List Stretch) (b : Moment) → Runs (tick 0) hs b → Seamless None hs
run_seamless [] b r = tt
run_seamless (h ∷ hs) b r = let e = r.0 in (omega arith, after_seamless h hs b r.1)

after_ends : (p : Stretch) (hs : List Stretch) (e : ℕ) → Runs (ends p) hs (tick e) → EndsAt (last_or (Some p) hs) e
after_ends p [] e r = omega arith
after_ends p (h ∷ hs) e r = after_ends h hs e r.1

pub run_ends : (hs : List Stretch) (e : ℕ) → Runs (tick 0) hs (tick e) → EndsAt (last_or None hs) e
run_ends [] e r = omega arith
run_ends (h ∷ hs) e r = after_ends h hs e r.1

-- ---- the legs of a division

-- 2^D = 2^d 2^(D-d)
pub powers : (D d : ℕ) → d ≤ D → 2 ^ D ≡ 2 ^ d * 2 ^ (D - d)
powers D d h = let q : D ≡ d + (D - d) = omega arith in ap (λ (n : ℕ). 2 ^ n) q ∙ pow-add 2 d (D - d)

at_begin : (S L k X Y a : ℕ) → k * Y ≡ a → (X * Y * S + a * L) * X ≡ (X * S + k * L) * (X * Y)
at_begin S L k X Y a h = let h' : k * Y * (L * X) ≡ a * (L * X) = ap (λ (n : ℕ). n * (L * X)) h in omega arith

at_end : (S L k X Y a : ℕ) → (k + 1) * Y ≡ a → (X * Y * S + a * L) * X ≡ (X * S + k * L + L) * (X * Y)
at_end S L k X Y a h = let h' : (k + 1) * Y * (L * X) ≡ a * (L * X) = ap (λ (n : ℕ). n * (L * X)) h in omega arith

at_whole : (S D L a : ℕ) → a ≡ (0 + 1) * 2 ^ (D - 0) → (2 ^ D * S + a * L) * 1 ≡ (S + L) * 2 ^ D
at_whole S D L a h =
    let e : D - 0 ≡ D = omega arith in
    let h' : a ≡ (0 + 1) * 2 ^ D = rw e at h in
    let h'' : a * L ≡ (0 + 1) * 2 ^ D * L = ap (λ (n : ℕ). n * L) h' in
    omega arith

module _ {P : Type 0} (K : Kind P) (M : Measure) (R : Rule P) (D S L : ℕ) (ps : List P) where
  abbrev leg : Cell → Leg P
  leg c = leg_of K M R S L ps c

  abbrev moment : ℕ → Moment
  moment a = record { over = 2 ^ D * S + a * L; under = 2 ^ D }

  cell_begins : (c : Cell) (a : ℕ) → c.depth ≤ D → begin D c ≡ a → Same (moment a) (begins (leg c).stretch)
  cell_begins c a h b = rw (powers D c.depth h) (at_begin S L c.index (2 ^ c.depth) (2 ^ (D - c.depth)) a b)

  cell_ends : (c : Cell) (a : ℕ) → c.depth ≤ D → end D c ≡ a → Same (moment a) (ends (leg c).stretch)
  cell_ends c a h b = rw (powers D c.depth h) (at_end S L c.index (2 ^ c.depth) (2 ^ (D - c.depth)) a b)

  module _ (passes : Cell → Bool) where
    cells_run : (a : ℕ) (cs : List Cell) → Each (Allowed D passes) cs → Covers D a cs (end D whole) → Runs (moment a) (stretches (map leg cs)) (tick (S + L))
    cells_run a [] w v = at_whole S D L a v
    cells_run a (c ∷ cs) w v = (
      cell_begins c a w.0.shallow v.0,
      runs_from (ends (leg c).stretch) (moment (end D c)) (tick (S + L)) (stretches (map leg cs)) (pow_pos D)
          (sym (cell_ends c (end D c) w.0.shallow refl)) (cells_run (end D c) cs w.1 v.1),
    )

    pub division_runs : (cs : List Cell) → Division D passes whole cs → Runs (tick S) (stretches (map leg cs)) (tick (S + L))
    division_runs cs v =
        runs_from (tick S) (moment (begin D whole)) (tick (S + L)) (stretches (map leg cs)) (pow_pos D) (omega arith)
        (cells_run (begin D whole) cs v.allowed v.covers)

    -- ---- the last leg closes the span
    abbrev pub Closes : Leg P → Type 0
    Closes l = (l.stretch.from + l.stretch.ticks ≡ S + L) × Last l.stretch

    closing : (c : Cell) → c.depth ≤ D → end D c ≡ end D whole → c.index + 1 ≡ 2 ^ c.depth
    closing c h e =
        let z : D - 0 ≡ D = omega arith in
        let e' : (c.index + 1) * 2 ^ (D - c.depth) ≡ (0 + 1) * 2 ^ D = rw z at e in
        let f = powers D c.depth h in
        eq_of_mul-eq-mul_right (2 ^ (D - c.depth)) (pow_pos (D - c.depth)) (c.index + 1) (2 ^ c.depth) (omega arith)

    last_closes : (a : ℕ) (cs : List Cell) (o : Option (Leg P)) → Each (Allowed D passes) cs → Covers D a cs (end D whole)
        → ((l : Leg P) → o ≡ Some l → a ≡ end D whole → Closes l)
        → (l : Leg P) → last_or o (map leg cs) ≡ Some l → Closes l
    last_closes a [] o w v h l e = h l e v
    last_closes a (c ∷ cs) o w v h l e =
        last_closes (end D c) cs (Some (leg c)) w.1 v.1 (λ k q f. subst Closes (same_Some (leg c) k q) (refl, closing c w.0.shallow f)) l e

    pub division_closes : (cs : List Cell) → Division D passes whole cs → (l : Leg P) → last_or None (map leg cs) ≡ Some l → Closes l
    division_closes cs v l e =
        last_closes (begin D whole) cs None v.allowed v.covers (λ k q f. absurd (none-some k q)) l e
