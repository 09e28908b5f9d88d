-- The legs of the standing spans, one span's after another's.
use Rattle.std.proofs.Common.{◌≡◌, ℕ, ◌+◌, ◌<◌, ◌≤◌, Bool, true, false, T, eqb, List, [], ◌∷◌, ◌++◌, length, Some, None, Option, sym, refl, ap, ◌∙◌, subst, ap₂, append_assoc, append-nil, arith, eqb→eq}
use Rattle.std.proofs.Math.Dec.{eqb_refl}
use Rattle.std.proofs.lemmas.Option.{none-some}
use Rattle.std.proofs.lemmas.List.{length-append, length-map, map-append}
use Rattle.leg.specs.Chains.{Each, Last, last_or, stretches}
use Rattle.leg.specs.declared.leg.Cell.{Cell}
use Rattle.leg.specs.declared.leg.Leg.{Leg}
use Rattle.curve.specs.Cells.{left, right, whole}
use Rattle.curve.specs.Fewest.{Fewest}
use Rattle.curve.proofs.Divisions.{fewest_is_found}
use Rattle.curve.proofs.Fitting.{each_map}
use Rattle.curve.proofs.Pieces.{each_append, found}
use Rattle.turn.specs.Calls.{Span, end_of, end_tick, last_leg}
use Rattle.turn.specs.Outcomes.{legs_for}
use Rattle.turn.specs.Reasons.{FewestLegs, end_point, first_point, last_point, cell_passes}
use Rattle.turn.specs.Settings.{Setting}
use Rattle.turn.specs.Whole.{EachSpan, SpanLegs, leg_if, legs_of, with_start}
use Rattle.turn.proofs.Seams.{Runs, division_closes, division_runs, runs_append, tick}
use Rattle.turn.proofs.Strung.{Strung, halving_strung, strung_arrives}

-- ---- the last of lists

module _ {P : Type 0} where
  pub last_append : (o : Option (Leg P)) (xs ys : List (Leg P)) → last_or o (xs ++ ys) ≡ last_or (last_or o xs) ys
  last_append o [] ys = refl
  last_append o (x ∷ xs) ys = last_append (Some x) xs ys

  last_own : (o : Option (Leg P)) (own : List (Leg P)) → 1 ≤ length own → last_or o own ≡ last_leg own
  last_own o [] h = absurd (omega arith)
  last_own o (l ∷ own) h = refl

-- ---- the legs with a start tick

module _ {P : Type 0} where
  taken : (b : Bool) (l : Leg P) (ls : List (Leg P)) → T b → leg_if b l ls ≡ l ∷ ls
  taken true l ls h = refl
  taken false l ls h = elim h [ ]

  passed : (b : Bool) (l : Leg P) (ls : List (Leg P)) → ¬ (T b) → leg_if b l ls ≡ ls
  passed true l ls h = absurd (h tt)
  passed false l ls h = refl

  if_append : (b : Bool) (l : Leg P) (xs ys zs : List (Leg P)) → zs ≡ xs ++ ys → leg_if b l zs ≡ leg_if b l xs ++ ys
  if_append true l xs ys zs e = ap (λ ls. l ∷ ls) e
  if_append false l xs ys zs e = e

  start_append : (S : ℕ) (xs ys : List (Leg P)) → with_start S (xs ++ ys) ≡ with_start S xs ++ with_start S ys
  start_append S [] ys = refl
  start_append S (x ∷ xs) ys = if_append (eqb x.stretch.from S) x (with_start S xs) (with_start S ys) (with_start S (xs ++ ys)) (start_append S xs ys)

  start_all : (S : ℕ) (xs : List (Leg P)) → Each (λ (l : Leg P). l.stretch.from ≡ S) xs → with_start S xs ≡ xs
  start_all S [] h = refl
  start_all S (x ∷ xs) h =
      taken (eqb x.stretch.from S) x (with_start S xs) (subst (λ (n : ℕ). T (eqb x.stretch.from n)) h.0 (eqb_refl x.stretch.from)) ∙ ap (λ ls. x ∷ ls) (start_all S xs h.1)

  start_none : (S : ℕ) (xs : List (Leg P)) → Each (λ (l : Leg P). ¬ (l.stretch.from ≡ S)) xs → with_start S xs ≡ []
  start_none S [] h = refl
  start_none S (x ∷ xs) h = passed (eqb x.stretch.from S) x (with_start S xs) (λ t. h.0 (eqb→eq x.stretch.from S t)) ∙ start_none S xs h.1

-- ---- the legs of a span

module _ {P : Type 0} (A : Setting P) where
  -- What the induction knows of them.
  pub record Own (S : ℕ) (s : Span P) (ls : List (Leg P)) : Type 0 where
    pub legs : SpanLegs A S s ls
    pub lasts : 1 ≤ s.ticks

  pub fewest_some : (ps : List P) (cs : List Cell) → Fewest A.depth (cell_passes A ps) cs → 1 ≤ length cs
  fewest_some ps cs f = (found (cell_passes A ps) left right A.depth whole cs (fewest_is_found A.depth (cell_passes A ps) cs f)).some

  pub fewest_same : (ps : List P) (cs ds : List Cell) → Fewest A.depth (cell_passes A ps) cs → Fewest A.depth (cell_passes A ps) ds → length cs ≡ length ds
  fewest_same ps cs ds f g = let a = f.fewest ds g.division in let b = g.fewest cs f.division in omega arith

  module _ (S : ℕ) (s : Span P) (own : List (Leg P)) (o : Own S s own) where
    legs_many : length own ≡ length o.legs.cells
    legs_many = ap length o.legs.made ∙ length-map o.legs.cells _

    pub own_some : 1 ≤ length own
    own_some = let a = fewest_some s.points o.legs.cells o.legs.fewest in let e = legs_many in omega arith

    pub own_strung : Strung (first_point A s.points) own (last_point A s.points)
    own_strung =
        subst (λ ls. Strung (first_point A s.points) ls (last_point A s.points)) (sym o.legs.made)
        (halving_strung A.kind A.measure A.rule S s.ticks s.points (cell_passes A s.points) A.depth o.legs.cells
        (fewest_is_found A.depth (cell_passes A s.points) o.legs.cells o.legs.fewest))

    own_arrives : end_of (last_leg own) ≡ Some (last_point A s.points)
    own_arrives = strung_arrives (first_point A s.points) (last_point A s.points) own own_some own_strung

    own_runs : Runs (tick S) (stretches own) (tick (S + s.ticks))
    own_runs =
        subst (λ ls. Runs (tick S) (stretches ls) (tick (S + s.ticks))) (sym o.legs.made)
        (division_runs A.kind A.measure A.rule A.depth S s.ticks s.points (cell_passes A s.points) o.legs.cells o.legs.fewest.division)

    own_closes : (l : Leg P) → last_leg own ≡ Some l → (l.stretch.from + l.stretch.ticks ≡ S + s.ticks) × Last l.stretch
    own_closes l e =
        division_closes A.kind A.measure A.rule A.depth S s.ticks s.points (cell_passes A s.points) o.legs.cells o.legs.fewest.division l
        (ap last_leg (sym o.legs.made) ∙ e)

    pub own_from : Each (λ (l : Leg P). l.stretch.from ≡ S) own
    own_from = subst (Each (λ (l : Leg P). l.stretch.from ≡ S)) (sym o.legs.made) (all_from o.legs.cells)
      where
        all_from : (cs : List Cell) → Each (λ (l : Leg P). l.stretch.from ≡ S) (legs_for A S s.points s.ticks cs)
        all_from [] = tt
        all_from (c ∷ cs) = (refl, all_from cs)

  -- ---- the legs of the standing spans

  abbrev pub Stand : List (Span P) → List (Leg P) → Type 0
  Stand [] ls = ls ≡ []
  Stand (s ∷ ss) ls = (before : List (Leg P)) × (own : List (Leg P)) × (ls ≡ before ++ own) × Stand ss before × Own (end_tick ss) s own

  pub stand_runs : (ss : List (Span P)) (ls : List (Leg P)) → Stand ss ls → Runs (tick 0) (stretches ls) (tick (end_tick ss))
  stand_runs [] ls h = subst (λ ks. Runs (tick 0) (stretches ks) (tick 0)) (sym h) refl
  stand_runs (s ∷ ss) ls h =
      subst (λ hs. Runs (tick 0) hs (tick (end_tick ss + s.ticks))) (sym (ap stretches h.2 ∙ map-append (λ (l : Leg P). l.stretch) h.0 h.1))
      (runs_append (tick 0) (tick (end_tick ss)) (tick (end_tick ss + s.ticks)) (stretches h.0) (stretches h.1) (omega arith)
      (stand_runs ss h.0 h.3) (own_runs (end_tick ss) s h.1 h.4))

  pub stand_below : (ss : List (Span P)) (ls : List (Leg P)) → Stand ss ls → Each (λ (l : Leg P). l.stretch.from < end_tick ss) ls
  stand_below [] ls h = subst (Each (λ (l : Leg P). l.stretch.from < 0)) (sym h) tt
  stand_below (s ∷ ss) ls h =
      let t : 1 ≤ s.ticks = h.4.lasts in
      let Q : Leg P → Type 0 = λ l. l.stretch.from < end_tick ss + s.ticks in
      subst (Each Q) (sym h.2)
      (each_append Q h.0 h.1
      (each_map (λ (l : Leg P). l.stretch.from < end_tick ss) Q (λ l k. omega arith) h.0 (stand_below ss h.0 h.3))
      (each_map (λ (l : Leg P). l.stretch.from ≡ end_tick ss) Q (λ l k. omega arith) h.1 (own_from (end_tick ss) s h.1 h.4)))

  stand_last : (s : Span P) (ss : List (Span P)) (ls : List (Leg P)) (h : Stand (s ∷ ss) ls) → last_leg ls ≡ last_leg h.1
  stand_last s ss ls h = ap last_leg h.2 ∙ last_append None h.0 h.1 ∙ last_own (last_or None h.0) h.1 (own_some (end_tick ss) s h.1 h.4)

  pub stand_end : (ss : List (Span P)) (ls : List (Leg P)) → Stand ss ls → end_of (last_leg ls) ≡ end_point A ss
  stand_end [] ls h = ap (λ ks. end_of (last_leg ks)) h
  stand_end (s ∷ ss) ls h = ap end_of (stand_last s ss ls h) ∙ own_arrives (end_tick ss) s h.1 h.4

  pub stand_some : (s : Span P) (ss : List (Span P)) (ls : List (Leg P)) → Stand (s ∷ ss) ls → 1 ≤ length ls
  stand_some s ss ls h =
      let a = own_some (end_tick ss) s h.1 h.4 in
      let b : length ls ≡ length h.0 + length h.1 = ap length h.2 ∙ length-append h.0 h.1 in
      omega arith

  pub stand_closes : (ss : List (Span P)) (ls : List (Leg P)) → Stand ss ls → (l : Leg P) → last_leg ls ≡ Some l
      → (l.stretch.from + l.stretch.ticks ≡ end_tick ss) × Last l.stretch
  stand_closes [] ls h l e = absurd (none-some l (sym (ap last_leg h) ∙ e))
  stand_closes (s ∷ ss) ls h l e = own_closes (end_tick ss) s h.1 h.4 l (sym (stand_last s ss ls h) ∙ e)

  -- ---- how many

  pub stand_fewest : (ss : List (Span P)) (ls : List (Leg P)) → Stand ss ls → FewestLegs A ss (length ls)
  stand_fewest [] ls h = ap length h
  stand_fewest (s ∷ ss) ls h =
      let o = h.4.legs in
      (o.cells, o.fewest, length h.0, stand_fewest ss h.0 h.3, ap length h.2 ∙ length-append h.0 h.1 ∙ ap (λ (n : ℕ). length h.0 + n) (legs_many (end_tick ss) s h.1 h.4))

  pub fewest_legs_same : (ss : List (Span P)) (i j : ℕ) → FewestLegs A ss i → FewestLegs A ss j → i ≡ j
  fewest_legs_same [] i j f g = f ∙ sym g
  fewest_legs_same (s ∷ ss) i j f g =
      let a = fewest_same s.points f.0 g.0 f.1 g.1 in
      let b = fewest_legs_same ss f.2 g.2 f.3 g.3 in
      let c = f.4 in
      let d = g.4 in
      omega arith

  -- ---- the same, by the start ticks

  by_start : (ss : List (Span P)) (ls later : List (Leg P)) → Stand ss ls → Each (λ (l : Leg P). end_tick ss ≤ l.stretch.from) later
      → EachSpan (λ S s. SpanLegs A S s (with_start S (ls ++ later))) ss × (legs_of ss (ls ++ later) ≡ ls)
  by_start [] ls later h k = (tt, sym h)
  by_start (s ∷ ss) ls later h k =
      let S : ℕ = end_tick ss in
      let before = h.0 in
      let own = h.1 in
      let t : 1 ≤ s.ticks = h.4.lasts in
      let from = own_from S s own h.4 in
      let all : ls ++ later ≡ before ++ (own ++ later) = ap (λ ks. ks ++ later) h.2 ∙ append_assoc before own later in
      let a : with_start S before ≡ [] =
      start_none S before (each_map (λ (l : Leg P). l.stretch.from < S) (λ (l : Leg P). ¬ (l.stretch.from ≡ S)) (λ l p. omega arith) before (stand_below ss before h.3)) in
      let b : with_start S own ≡ own = start_all S own from in
      let c : with_start S later ≡ [] =
      start_none S later (each_map (λ (l : Leg P). S + s.ticks ≤ l.stretch.from) (λ (l : Leg P). ¬ (l.stretch.from ≡ S)) (λ l p. omega arith) later k) in
      let q : with_start S (ls ++ later) ≡ own =
      ap (with_start S) all ∙ start_append S before (own ++ later) ∙ ap₂ (λ xs ys. xs ++ ys) a (start_append S own later ∙ ap₂ (λ xs ys. xs ++ ys) b c ∙ append-nil own) in
      let rest = by_start ss before (own ++ later) h.3
      (each_append (λ (l : Leg P). S ≤ l.stretch.from) own later
      (each_map (λ (l : Leg P). l.stretch.from ≡ S) (λ (l : Leg P). S ≤ l.stretch.from) (λ l p. omega arith) own from)
      (each_map (λ (l : Leg P). S + s.ticks ≤ l.stretch.from) (λ (l : Leg P). S ≤ l.stretch.from) (λ l p. omega arith) later k)) in (
        (subst (SpanLegs A S s) (sym q) h.4.legs, subst (λ ks. EachSpan (λ S s. SpanLegs A S s (with_start S ks)) ss) (sym all) rest.0),
        ap₂ (λ xs ys. xs ++ ys) (ap (legs_of ss) all ∙ rest.1) q ∙ sym h.2,
      )

  pub stand_spans : (ss : List (Span P)) (ls : List (Leg P)) → Stand ss ls → EachSpan (λ S s. SpanLegs A S s (with_start S ls)) ss
  stand_spans ss ls h = subst (λ ks. EachSpan (λ S s. SpanLegs A S s (with_start S ks)) ss) (append-nil ls) (by_start ss ls [] h tt).0

  pub stand_all : (ss : List (Span P)) (ls : List (Leg P)) → Stand ss ls → ls ≡ legs_of ss ls
  stand_all ss ls h = sym (ap (legs_of ss) (sym (append-nil ls)) ∙ (by_start ss ls [] h tt).1)

  -- and back
  pub stand_of : (ss : List (Span P)) (ls : List (Leg P)) → Each (λ (s : Span P). 1 ≤ s.ticks) ss
      → EachSpan (λ S s. SpanLegs A S s (with_start S ls)) ss → Stand ss (legs_of ss ls)
  stand_of [] ls t h = refl
  stand_of (s ∷ ss) ls t h = (legs_of ss ls, with_start (end_tick ss) ls, refl, stand_of ss ls t.1 h.1, record { legs = h.0; lasts = t.0 })
