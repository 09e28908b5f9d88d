-- Every call has exactly one outcome.
use Rattle.std.proofs.Common.{◌≡◌, ℕ, ◌+◌, ◌*◌, ◌^◌, ◌<◌, ◌≤◌, ◌⊎◌, List, [], ◌∷◌, ◌++◌, length, pos, ◌+ℤ◌, Some, None, Option, Ok, Err, sym, refl, ap, ◌∙◌, subst, subst₂, inl, inr, append-nil, arith}
use Rattle.std.proofs.Math.Decide.{dec_le, dec_lt, ℕ_discrete}
use Rattle.std.proofs.lemmas.Option.{none-some, same_Some}
use Rattle.distance.specs.Measures.{Beyond, Inside}
use Rattle.bezier.specs.Near.{CellNear}
use Rattle.bezier.proofs.Passing.{passing_is_near}
use Rattle.leg.specs.Chains.{Each, Last, last_or}
use Rattle.leg.specs.Reasons.{First, Reason, refusal}
use Rattle.leg.specs.declared.leg.Cell.{Cell}
use Rattle.leg.specs.declared.leg.Leg.{Leg}
use Rattle.leg.proofs.Reasoned.{AllSingle, Single, because_single, one_answer}
use Rattle.outlet.specs.Outlets.{Contents, room, with_legs}
use Rattle.curve.specs.Cells.{Allowed, halving}
use Rattle.curve.specs.Fewest.{Divisible, Fewest}
use Rattle.curve.proofs.Divisions.{halving_is_fewest}
use Rattle.turn.specs.Calls.{Answer, Call, History, Progress, answer_of, end_of, last_leg, lay, seal, strike, whole_ticks}
use Rattle.turn.specs.Claims.{Exact, made_calls}
use Rattle.turn.specs.Outcomes.{Effect, Laid, Outcome, Struck, legs_for}
use Rattle.turn.specs.Runs.{Reached}
use Rattle.turn.specs.Reasons.{Continues, Situation, facing, first_point, last_point, reasons, cell_passes}
use Rattle.turn.specs.Settings.{LawfulSetting, Setting}
use Rattle.turn.specs.declared.refusal.Refusal.{Refusal}
use Rattle.curve.specs.declared.refusal.CurveRefusal.TheVariants.{PointCount, PointBeyond, ShortWork, TooBent, TooManyLegs}
use Rattle.turn.specs.declared.refusal.Refusal.TheVariants.{Curve, Foreign, Ticks, PastEnd, Apart, Empty, Torn, NotFull}
use Rattle.turn.proofs.Points.{beyond_or_inside, dec_less, dec_not, dec_or, dec_point, settled}
use Rattle.turn.proofs.Reasons.{AllDecided, Decided, because_decided, none_holds, some_answer}
use Rattle.turn.proofs.Standing.{fewest_same}
use Rattle.turn.proofs.Struck.{one_cut}

-- ---- one answer

answer_back : (a : Answer) → answer_of (refusal a) ≡ a
answer_back (Ok tt) = refl
answer_back (Err f) = refl

pub same_answer : (a b : Answer) → refusal a ≡ refusal b → a ≡ b
same_answer a b e = sym (answer_back a) ∙ ap answer_of e ∙ answer_back b

module _ {P : Type 0} (A : Setting P) where
  one_place : (ps : List P) (i j : ℕ) → Beyond A.kind A.measure.limit ps i → Beyond A.kind A.measure.limit ps j → i ≡ j
  one_place ps i j x y = go (dec_lt i j) (dec_lt j i)
    where
      go : Dec (i < j) → Dec (j < i) → i ≡ j
      go (yes l) d = absurd (x.beyond (y.first i l))
      go (no l) (yes k) = absurd (y.beyond (x.first j k))
      go (no l) (no k) = omega arith

  abbrev beyond_reason : List P → Reason Refusal
  beyond_reason ps f = (j : ℕ) × Beyond A.kind A.measure.limit ps j × (f ≡ Curve (PointBeyond j))

  beyond_single : (ps : List P) → Single (beyond_reason ps)
  beyond_single ps e f x y = x.2 ∙ ap (λ i. Curve (PointBeyond i)) (one_place ps x.0 y.0 x.1 y.1) ∙ sym y.2

  pub all_single : (now : Situation P) (call : Call P) → AllSingle (reasons A now call)
  all_single now (lay ps l work) = (
    because_single _ Foreign,
    (
      because_single _ (Curve PointCount),
      (
        beyond_single ps,
        (
          because_single _ Ticks,
          (
            because_single _ PastEnd,
            (because_single _ Apart, (because_single _ (Curve ShortWork), (because_single _ (Curve TooBent), (because_single _ (Curve TooManyLegs), tt)))),
          ),
        ),
      ),
    ),
  )
  all_single now strike = (because_single _ Foreign, (because_single _ Empty, (because_single _ Torn, tt)))
  all_single now seal = (because_single _ Foreign, (because_single _ NotFull, tt))

  -- ---- one effect

  same_progress : (g₁ g₂ : Progress P) → g₁.count ≡ g₂.count → g₁.laid ≡ g₂.laid → g₁.end_value ≡ g₂.end_value → g₁ ≡ g₂
  same_progress g₁ g₂ c l e = λ i. record { count = c i; laid = l i; end_value = e i }

  same_contents : (c₁ c₂ : Contents P) → c₁.legs ≡ c₂.legs → c₁.capacity ≡ c₂.capacity → c₁ ≡ c₂
  same_contents c₁ c₂ l c = λ i. record { legs = l i; capacity = c i }

  one_lay : (ps : List P) (L : ℕ) (g : Progress P) (c : Contents P) (g₁ g₂ : Progress P) (c₁ c₂ : Contents P)
      → Laid A ps L g c g₁ c₁ → Laid A ps L g c g₂ c₂ → (g₁ ≡ g₂) × (c₁ ≡ c₂)
  one_lay ps L g c g₁ g₂ c₁ c₂ x y =
      let q = same_Some x.cells y.cells (sym x.fitted.found ∙ y.fitted.found) in (
        same_progress g₁ g₂ (x.count ∙ ap (λ cs. g.count + length cs) q ∙ sym y.count) (x.laid ∙ sym y.laid) (x.end_value ∙ sym y.end_value),
        x.put ∙ ap (λ cs. with_legs c (legs_for A g.laid ps L cs)) q ∙ sym y.put,
      )

  one_strike : (c : Contents P) (g₁ g₂ : Progress P) (c₁ c₂ : Contents P) → Struck A c g₁ c₁ → Struck A c g₂ c₂ → (g₁ ≡ g₂) × (c₁ ≡ c₂)
  one_strike c g₁ g₂ c₁ c₂ x y =
      let q = one_cut x.start y.start None c₁.legs x.off c₂.legs y.off (sym x.left ∙ y.left) x.shared x.some x.all y.shared y.some y.all in (
        same_progress g₁ g₂ (x.count ∙ ap length q.0 ∙ sym y.count) (x.laid ∙ q.1 ∙ sym y.laid) (x.end_value ∙ ap (λ ls. end_of (last_leg ls)) q.0 ∙ sym y.end_value),
        same_contents c₁ c₂ q.0 (x.capacity ∙ sym y.capacity),
      )

  one_effect : (call : Call P) (a : Answer) (g : Progress P) (c : Contents P) (g₁ g₂ : Progress P) (c₁ c₂ : Contents P)
      → Effect A call a g c g₁ c₁ → Effect A call a g c g₂ c₂ → (g₁ ≡ g₂) × (c₁ ≡ c₂)
  one_effect (lay ps l work) (Ok tt) g c g₁ g₂ c₁ c₂ x y = one_lay ps (whole_ticks l) g c g₁ g₂ c₁ c₂ x y
  one_effect (lay ps l work) (Err f) g c g₁ g₂ c₁ c₂ x y = (x.0 ∙ sym y.0, x.1 ∙ sym y.1)
  one_effect strike (Ok tt) g c g₁ g₂ c₁ c₂ x y = one_strike c g₁ g₂ c₁ c₂ x y
  one_effect strike (Err f) g c g₁ g₂ c₁ c₂ x y = (x.0 ∙ sym y.0, x.1 ∙ sym y.1)
  one_effect seal a g c g₁ g₂ c₁ c₂ x y = (x.0 ∙ sym y.0, x.1 ∙ sym y.1)

  pub one_outcome : (call : Call P) (g : Progress P) (c : Contents P) (a b : Answer) (g₁ g₂ : Progress P) (c₁ c₂ : Contents P)
      → Outcome A call g c a g₁ c₁ → Outcome A call g c b g₂ c₂ → (a ≡ b) × (g₁ ≡ g₂) × (c₁ ≡ c₂)
  one_outcome call g c a b g₁ g₂ c₁ c₂ x y =
      let q = same_answer a b (one_answer (reasons A (facing A g c) call) (all_single (facing A g c) call) (refusal a) (refusal b) x.answer y.answer) in
      let e = one_effect call b g c g₁ g₂ c₁ c₂ (subst (λ d. Effect A call d g c g₁ c₁) q x.effect) y.effect in
      (q, e.0, e.1)

  -- ---- one run

  pub calls_head : (x y : Call P) (xs ys : List (Call P)) → x ∷ xs ≡ y ∷ ys → x ≡ y
  calls_head x y xs ys h = cc

  pub calls_tail : (x y : Call P) (xs ys : List (Call P)) → x ∷ xs ≡ y ∷ ys → xs ≡ ys
  calls_tail x y xs ys h = cc

  pub no_calls : (x : Call P) (xs : List (Call P)) → [] ≡ x ∷ xs → ⊥
  no_calls x xs h = let z : ◌≡◌ {A = ℕ} 0 1 = cc in omega arith

  one_run : (h₁ h₂ : History P) (g₀ g₁ g₂ : Progress P) (c₀ c₁ c₂ : Contents P) → made_calls h₁ ≡ made_calls h₂
      → Reached A g₀ c₀ h₁ g₁ c₁ → Reached A g₀ c₀ h₂ g₂ c₂ → (h₁ ≡ h₂) × (g₁ ≡ g₂) × (c₁ ≡ c₂)
  one_run [] [] g₀ g₁ g₂ c₀ c₁ c₂ e x y = (refl, x.0 ∙ sym y.0, x.1 ∙ sym y.1)
  one_run [] (b ∷ h₂) g₀ g₁ g₂ c₀ c₁ c₂ e x y = absurd (no_calls b.0 (made_calls h₂) e)
  one_run (a ∷ h₁) [] g₀ g₁ g₂ c₀ c₁ c₂ e x y = absurd (no_calls a.0 (made_calls h₁) (sym e))
  one_run (a ∷ h₁) (b ∷ h₂) g₀ g₁ g₂ c₀ c₁ c₂ e x y =
      let h = calls_head a.0 b.0 (made_calls h₁) (made_calls h₂) e in
      let i = one_run h₁ h₂ g₀ x.0 y.0 c₀ x.1 y.1 (calls_tail a.0 b.0 (made_calls h₁) (made_calls h₂) e) x.2 y.2 in
      let z : Outcome A b.0 y.0 y.1 a.1 g₁ c₁ =
      subst₂ (λ g c. Outcome A b.0 g c a.1 g₁ c₁) i.1 i.2 (subst (λ d. Outcome A d x.0 x.1 a.1 g₁ c₁) h x.3) in
      let q = one_outcome b.0 y.0 y.1 a.1 b.1 g₁ g₂ c₁ c₂ z y.3 in
      (λ k. (h k, q.0 k) ∷ i.0 k, q.1, q.2)

-- ---- some outcome

module _ {P : Type 0} (A : Setting P) (law : LawfulSetting A) where
  beyond_decided : (ps : List P) → Decided (beyond_reason A ps)
  beyond_decided ps = go (beyond_or_inside A.kind A.measure.limit ps)
    where
      go : ((j : ℕ) × Beyond A.kind A.measure.limit ps j) ⊎ Inside A.kind A.measure.limit ps → Decided (beyond_reason A ps)
      go (inl x) = inl (Curve (PointBeyond x.0), (x.0, x.1, refl))
      go (inr f) = inr (λ e x. x.1.beyond (f x.0 x.1.there))

  dec_continues : (o : Option P) (p : P) → Dec (Continues o p)
  dec_continues None p = yes tt
  dec_continues (Some q) p = dec_point A.kind law.kind p q

  dec_divisible : (ps : List P) → Dec (Divisible A.depth (cell_passes A ps))
  dec_divisible ps = go (halving A.depth (cell_passes A ps)) refl
    where
      go : (o : Option (List Cell)) → halving A.depth (cell_passes A ps) ≡ o → Dec (Divisible A.depth (cell_passes A ps))
      go None e = no ((halving_is_fewest.nothing A.depth (cell_passes A ps)).0 e)
      go (Some cs) e = yes (cs, (halving_is_fewest.found A.depth (cell_passes A ps) cs e).division)

  dec_crowded : (ps : List P) (free : ℕ) → Dec ((cs : List Cell) × Fewest A.depth (cell_passes A ps) cs × (free < length cs))
  dec_crowded ps free = go (halving A.depth (cell_passes A ps)) refl
    where
      go : (o : Option (List Cell)) → halving A.depth (cell_passes A ps) ≡ o → Dec ((cs : List Cell) × Fewest A.depth (cell_passes A ps) cs × (free < length cs))
      go None e = no (λ x. (halving_is_fewest.nothing A.depth (cell_passes A ps)).0 e (x.0, x.1.division))
      go (Some cs) e =
          let f = halving_is_fewest.found A.depth (cell_passes A ps) cs e in
          elim (dec_lt free (length cs)) [
            | yes l ↦ yes (cs, f, l)
            | no l ↦ no (λ x. let q = fewest_same A ps x.0 cs x.1 f in let r = x.2 in omega arith)
          ]

  abbrev Bad : ℕ → Leg P → Type 0
  Bad laid l = (¬ (l.stretch.from + l.stretch.ticks ≡ laid)) ⊎ (¬ (Last l.stretch))

  dec_torn : (laid : ℕ) (o : Option (Leg P)) → Dec ((l : Leg P) × (o ≡ Some l) × Bad laid l)
  dec_torn laid None = no (λ x. none-some x.0 x.1)
  dec_torn laid (Some y) =
      go (dec_or _ _ (dec_not _ (ℕ_discrete (y.stretch.from + y.stretch.ticks) laid)) (dec_not _ (ℕ_discrete (y.stretch.cell.index + 1) (2 ^ y.stretch.cell.depth))))
    where
      go : Dec (Bad laid y) → Dec ((l : Leg P) × (Some y ≡ Some l) × Bad laid l)
      go (yes b) = yes (y, refl, b)
      go (no f) = no (λ x. f (subst (Bad laid) (sym (same_Some y x.0 x.1)) x.2))

  all_decided : (g : Progress P) (c : Contents P) (call : Call P) → AllDecided (reasons A (facing A g c) call)
  all_decided g c (lay ps l work) = (
    because_decided _ Foreign (dec_not _ (ℕ_discrete (length c.legs) g.count)),
    (
      because_decided _ (Curve PointCount) (dec_or _ _ (dec_lt (length ps) (A.rule.lowest + 1)) (dec_lt 9 (length ps))),
      (
        beyond_decided ps,
        (
          because_decided _ Ticks (dec_or _ _ (dec_less l (pos 1)) (dec_less (pos 4096) l)),
          (
            because_decided _ PastEnd (dec_less (pos A.end) (pos g.laid +ℤ l)),
            (
              because_decided _ Apart (dec_not _ (dec_continues g.end_value (first_point A ps))),
              (
                because_decided _ (Curve ShortWork) (dec_lt work ((A.depth + 1) * length ps)),
                (
                  because_decided _ (Curve TooBent) (dec_not _ (dec_divisible ps)),
                  (because_decided _ (Curve TooManyLegs) (dec_crowded ps (room c)), tt),
                ),
              ),
            ),
          ),
        ),
      ),
    ),
  )
  all_decided g c strike = (
    because_decided _ Foreign (dec_not _ (ℕ_discrete (length c.legs) g.count)),
    (because_decided _ Empty (ℕ_discrete g.count 0), (because_decided _ Torn (dec_torn g.laid (last_leg c.legs)), tt)),
  )
  all_decided g c seal = (
    because_decided _ Foreign (dec_not _ (ℕ_discrete (length c.legs) g.count)),
    (because_decided _ NotFull (dec_not _ (dec_le A.end g.laid)), tt),
  )

  -- ---- a lay that no reason refuses

  pub all_near : (ps : List P) → A.rule.lowest < length ps → (cs : List Cell) → Each (Allowed A.depth (cell_passes A ps)) cs
      → Each (λ (c : Cell). CellNear A.kind A.measure A.rule A.tolerance ps c.depth c.index) cs
  all_near ps h [] w = tt
  all_near ps h (c ∷ cs) w = (
    passing_is_near A.kind A.measure A.rule law.kind law.measure law.rule A.tolerance c.depth c.index ps h w.0.inside w.0.passed,
    all_near ps h cs w.1,
  )

  lay_down : (ps : List P) (L : ℕ) (g : Progress P) (c : Contents P) → A.rule.lowest < length ps → ¬ (¬ (Divisible A.depth (cell_passes A ps)))
      → (g' : Progress P) × (c' : Contents P) × Laid A ps L g c g' c'
  lay_down ps L g c low some = go (halving A.depth (cell_passes A ps)) refl
    where
      go : (o : Option (List Cell)) → halving A.depth (cell_passes A ps) ≡ o → (g' : Progress P) × (c' : Contents P) × Laid A ps L g c g' c'
      go None e = absurd (some ((halving_is_fewest.nothing A.depth (cell_passes A ps)).0 e))
      go (Some cs) e =
          let f = halving_is_fewest.found A.depth (cell_passes A ps) cs e in (
            record { count = g.count + length cs; laid = g.laid + L; end_value = Some (last_point A ps) },
            with_legs c (legs_for A g.laid ps L cs),
            record {
              cells = cs;
              fitted = record { fewest = f; near = all_near ps low cs f.division.allowed; found = e };
              put = refl;
              count = refl;
              laid = refl;
              end_value = refl;
            },
          )

  -- ---- a strike that no reason refuses

  abbrev Split : ℕ → List (Leg P) → Type 0
  Split S ls = (k : List (Leg P)) × (off : List (Leg P)) × (ls ≡ k ++ off) × Each (λ (l : Leg P). l.stretch.from ≡ S) off
      × ((l : Leg P) → last_leg k ≡ Some l → ¬ (l.stretch.from ≡ S))

  split_more : (S : ℕ) (x : Leg P) (xs k off : List (Leg P)) → xs ≡ k ++ off → Each (λ (l : Leg P). l.stretch.from ≡ S) off
      → ((l : Leg P) → last_leg k ≡ Some l → ¬ (l.stretch.from ≡ S)) → Dec (x.stretch.from ≡ S) → Split S (x ∷ xs)
  split_more S x xs [] off e f h (yes q) = ([], x ∷ off, ap (λ ls. x ∷ ls) e, (q, f), λ l z. absurd (none-some l z))
  split_more S x xs [] off e f h (no n) = (x ∷ [], off, ap (λ ls. x ∷ ls) e, f, λ l z q. n (subst (λ (y : Leg P). y.stretch.from ≡ S) (sym (same_Some x l z)) q))
  split_more S x xs (y ∷ k) off e f h d = (x ∷ y ∷ k, off, ap (λ ls. x ∷ ls) e, f, h)

  split : (S : ℕ) (ls : List (Leg P)) → Split S ls
  split S [] = ([], [], refl, tt, λ l z. absurd (none-some l z))
  split S (x ∷ xs) = let r = split S xs in split_more S x xs r.0 r.1 r.2 r.3 r.4 (ℕ_discrete x.stretch.from S)

  off_some : (S : ℕ) (ls : List (Leg P)) (l : Leg P) → last_leg ls ≡ Some l → l.stretch.from ≡ S → (k off : List (Leg P)) → ls ≡ k ++ off
      → ((l : Leg P) → last_leg k ≡ Some l → ¬ (l.stretch.from ≡ S)) → 1 ≤ length off
  off_some S ls l e q k [] p h = absurd (h l (ap last_leg (sym (append-nil k)) ∙ ap last_leg (sym p) ∙ e) q)
  off_some S ls l e q k (x ∷ off) p h = omega arith

  some_last : (x : Leg P) (xs : List (Leg P)) → last_or (Some x) xs ≡ None → ⊥
  some_last x [] q = none-some x (sym q)
  some_last x (y ∷ xs) q = some_last y xs q

  strike_off : (c : Contents P) (o : Option (Leg P)) → last_leg c.legs ≡ o → 1 ≤ length c.legs → (g' : Progress P) × (c' : Contents P) × Struck A c g' c'
  strike_off c None e h = absurd (go c.legs e h)
    where
      go : (ls : List (Leg P)) → last_leg ls ≡ None → 1 ≤ length ls → ⊥
      go [] e h = omega arith
      go (x ∷ xs) e h = some_last x xs e
  strike_off c (Some l) e h =
      let r = split l.stretch.from c.legs in (
        record { count = length r.0; laid = l.stretch.from; end_value = end_of (last_leg r.0) },
        record { legs = r.0; capacity = c.capacity },
        record {
          start = l.stretch.from;
          off = r.1;
          some = off_some l.stretch.from c.legs l e refl r.0 r.1 r.2 r.4;
          shared = r.3;
          all = r.4;
          left = r.2;
          capacity = refl;
          count = refl;
          laid = refl;
          end_value = refl;
        },
      )

  some_effect : (call : Call P) (a : Answer) (g : Progress P) (c : Contents P) → First (reasons A (facing A g c) call) (refusal a)
      → (g' : Progress P) × (c' : Contents P) × Effect A call a g c g' c'
  some_effect (lay ps l work) (Ok tt) g c x =
      let n = none_holds (reasons A (facing A g c) (lay ps l work)) x in
      let low : ¬ (length ps < A.rule.lowest + 1) = λ h. n.1.0 (Curve PointCount) (inl h, refl) in
      lay_down ps (whole_ticks l) g c (omega arith) (λ h. n.1.1.1.1.1.1.1.0 (Curve TooBent) (h, refl))
  some_effect (lay ps l work) (Err f) g c x = (g, c, (refl, refl))
  some_effect strike (Ok tt) g c x =
      let n = none_holds (reasons A (facing A g c) strike) x in
      let e = settled (length c.legs ≡ g.count) (ℕ_discrete (length c.legs) g.count) (λ h. n.0 Foreign (h, refl)) in
      let z : ¬ (g.count ≡ 0) = λ h. n.1.0 Empty (h, refl) in
      strike_off c (last_leg c.legs) refl (omega arith)
  some_effect strike (Err f) g c x = (g, c, (refl, refl))
  some_effect seal a g c x = (g, c, (refl, refl))

  some_outcome : (call : Call P) (g : Progress P) (c : Contents P) → (a : Answer) × (g' : Progress P) × (c' : Contents P) × Outcome A call g c a g' c'
  some_outcome call g c = go (some_answer (reasons A (facing A g c) call) (all_decided g c call))
    where
      go : (o : Option Refusal) × First (reasons A (facing A g c) call) o → (a : Answer) × (g' : Progress P) × (c' : Contents P) × Outcome A call g c a g' c'
      go x =
          let a = answer_of x.0 in
          let f : First (reasons A (facing A g c) call) (refusal a) = subst (First (reasons A (facing A g c) call)) (sym (refusal_back x.0)) x.1 in
          let y = some_effect call a g c f in
          (a, y.0, y.1, record { answer = f; effect = y.2 })
        where
          refusal_back : (o : Option Refusal) → refusal (answer_of o) ≡ o
          refusal_back None = refl
          refusal_back (Some f) = refl

  some_run : (calls : List (Call P)) (g₀ : Progress P) (c₀ : Contents P)
      → (h : History P) × (g : Progress P) × (c : Contents P) × (made_calls h ≡ calls) × Reached A g₀ c₀ h g c
  some_run [] g₀ c₀ = ([], g₀, c₀, refl, (refl, refl))
  some_run (d ∷ ds) g₀ c₀ =
      let r = some_run ds g₀ c₀ in
      let x = some_outcome d r.1 r.2 in
      ((d, x.0) ∷ r.0, x.1, x.2, ap (λ zs. d ∷ zs) r.3, (r.1, r.2, r.4, x.3))

  pub exact : Exact A
  exact = record { some_outcome = some_outcome; one_outcome = λ call a b g g₁ g₂ c c₁ c₂ x y. one_outcome A call g c a b g₁ g₂ c₁ c₂ x y; some_run = some_run; one_run = one_run A }
