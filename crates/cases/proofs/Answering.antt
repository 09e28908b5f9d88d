-- The tests of a call give the first of its reasons that holds.
use Rattle.std.specs.Prelude.{◌≡◌, ℕ, zero, suc, ◌+◌, ◌<◌, Bool, true, false, cond, is_none, List, [], ◌∷◌, length, pos, ◌+ℤ◌, nat_lt, Some, None, Option, refl}
use Rattle.std.specs.Bool.{Decides}
use Rattle.std.specs.Option.{option_map}
use Rattle.std.proofs.Common.{ap, subst, sym, ◌∙◌, inl, inr, arith}
use Rattle.std.proofs.lemmas.Bool.Decides.{Decides-eqb, Decides-like, Decides-ltb, Decides-not, Decides-or}
use Rattle.std.proofs.lemmas.Option.{none-some, same_Some}
use Rattle.ordinate.specs.Kinds.{Lawful}
use Rattle.distance.specs.Measures.{Beyond, Inside, Reaches, point}
use Rattle.leg.specs.Reasons.{First, Reason, because, refusal}
use Rattle.leg.specs.declared.leg.Cell.{Cell}
use Rattle.curve.specs.Fewest.{Divisible, Fewest}
use Rattle.curve.specs.Refusals.{work_wanted}
use Rattle.curve.proofs.Divisions.{fewest_is_found, halving_is_fewest}
use Rattle.turn.specs.Calls.{Call, History, Span, answer_of, end_tick, lay, seal, standing, strike}
use Rattle.turn.specs.Reasons.{Continues, FewestLegs, after, cell_passes, end_point, first_point, reasons}
use Rattle.turn.specs.Runs.{recorded}
use Rattle.turn.specs.Settings.{Full, Setting}
use Rattle.turn.specs.Whole.{Answered}
use Rattle.turn.specs.declared.refusal.Refusal.{Refusal}
use Rattle.curve.specs.declared.refusal.CurveRefusal.TheVariants.{PointCount, PointBeyond, ShortWork, TooBent, TooManyLegs}
use Rattle.turn.specs.declared.refusal.Refusal.TheVariants.{Curve, Foreign, Ticks, PastEnd, Apart, Empty, Torn, NotFull}
use Rattle.cases.specs.Computed.{added, answers, apart, drawn, exceeds, first_beyond, first_of, found, legs_taken, same_point, tests, when}
use Rattle.cases.proofs.Same.{drawing, less, point as same}

-- ---- reasons and their tests

-- The test gives what the reason does: the refusal where it holds, and else nothing.
abbrev pub Tests : Reason Refusal → Option Refusal → Type 0
Tests r o = ((f : Refusal) → o ≡ Some f → r f) × (o ≡ None → (f : Refusal) → r f → ⊥)

abbrev pub AllTest : List (Reason Refusal) → List (Option Refusal) → Type 0
AllTest [] [] = Unit {0}
AllTest [] (o ∷ os) = ⊥
AllTest (r ∷ rs) [] = ⊥
AllTest (r ∷ rs) (o ∷ os) = Tests r o × AllTest rs os

pub first : (rs : List (Reason Refusal)) (os : List (Option Refusal)) → AllTest rs os → First rs (first_of os)
first [] [] t = refl
first [] (o ∷ os) t = absurd t
first (r ∷ rs) [] t = absurd t
first (r ∷ rs) (None ∷ os) t = inr (t.0.1 refl, first rs os t.1)
first (r ∷ rs) (Some f ∷ os) t = inl (f, t.0.0 f refl, refl)

pub tested : (X : Type 0) (b : Bool) (f : Refusal) → Decides b X → Tests (because X f) (when b f)
tested X true f d = (λ g e. (d.0 refl, sym (same_Some f g e)), λ e. absurd (none-some f (sym e)))
tested X false f d = (λ g e. absurd (none-some g e), λ e g h. absurd (wrong (d.1 h.0)))
  where
    wrong : false ≡ true → ⊥
    wrong e = cc

pub never : (X : Type 0) (f : Refusal) → (X → ⊥) → Tests (because X f) None
never X f n = (λ g e. absurd (none-some g e), λ e g h. n h.0)

-- ---- what is there or not

pub nothing : {X : Type 0} (o : Option X) → Decides (is_none o) (o ≡ None)
nothing None = (λ h. refl, λ e. refl)
nothing (Some x) = (λ h. absurd (cc), λ e. absurd (none-some x (sym e)))

module _ {P : Type 0} (A : Setting P) (law : Lawful A.kind) where
  -- ---- the first point beyond the limit

  abbrev Sought : List P → Option ℕ → Type 0
  Sought ps None = Inside A.kind A.measure.limit ps
  Sought ps (Some j) = Beyond A.kind A.measure.limit ps j

  sought : (ps : List P) → Sought ps (first_beyond A ps)
  sought [] = λ j l. absurd (omega arith)
  sought (p ∷ ps) = go (drawn A p) (first_beyond A ps) (drawing A law p) (sought ps)
    where
      before : (n : ℕ) → Reaches A.kind A.measure.limit p → ((i : ℕ) → i < n → Reaches A.kind A.measure.limit (point A.kind ps i)) → (i : ℕ) → i < suc n → Reaches A.kind A.measure.limit (point A.kind (p ∷ ps) i)
      before n r f zero l = r
      before n r f (suc i) l = f i (omega arith)

      go : (b : Bool) (o : Option ℕ) → Decides b (Reaches A.kind A.measure.limit p) → Sought ps o → Sought (p ∷ ps) (cond b (option_map suc o) (Some 0))
      go true None d s = before (length ps) (d.0 refl) s
      go true (Some j) d s = record { there = let t = s.there in omega arith; beyond = s.beyond; first = before j (d.0 refl) s.first }
      go false o d s = record { there = omega arith; beyond = λ r. absurd (wrong (d.1 r)); first = λ i l. absurd (omega arith) }
        where
          wrong : false ≡ true → ⊥
          wrong e = cc

  beyond : (ps : List P) → Tests (λ f. (j : ℕ) × Beyond A.kind A.measure.limit ps j × (f ≡ Curve (PointBeyond j))) (option_map (λ i. Curve (PointBeyond i)) (first_beyond A ps))
  beyond ps = go (first_beyond A ps) (sought ps)
    where
      go : (o : Option ℕ) → Sought ps o → Tests (λ f. (j : ℕ) × Beyond A.kind A.measure.limit ps j × (f ≡ Curve (PointBeyond j))) (option_map (λ j. Curve (PointBeyond j)) o)
      go None s = (λ f e. absurd (none-some f e), λ e f h. h.1.beyond (s h.0 h.1.there))
      go (Some j) s = (λ f e. (j, s, sym (same_Some (Curve (PointBeyond j)) f e)), λ e. absurd (none-some (Curve (PointBeyond j)) (sym e)))

  -- ---- legs

  found_fewest : (ps : List P) (cs : List Cell) → found A ps ≡ Some cs → Fewest A.depth (cell_passes A ps) cs
  found_fewest ps cs e = halving_is_fewest.found A.depth (cell_passes A ps) cs e

  fewest_found : (ps : List P) (cs : List Cell) → Fewest A.depth (cell_passes A ps) cs → found A ps ≡ Some cs
  fewest_found ps cs h = fewest_is_found A.depth (cell_passes A ps) cs h

  -- so many legs are the fewest for the spans and one more curve
  abbrev Sum : List (Span P) → List P → ℕ → Type 0
  Sum ss ps n = (cs : List Cell) × Fewest A.depth (cell_passes A ps) cs × (k : ℕ) × FewestLegs A ss k × (n ≡ k + length cs)

  sum_of : (ss : List (Span P)) (ps : List P) (o : Option ℕ) (p : Option (List Cell)) → o ≡ legs_taken A ss → p ≡ found A ps
      → ((k : ℕ) → o ≡ Some k → FewestLegs A ss k) → (n : ℕ) → added o p ≡ Some n → Sum ss ps n
  sum_of ss ps None p e f t n h = absurd (none-some n h)
  sum_of ss ps (Some k) None e f t n h = absurd (none-some n h)
  sum_of ss ps (Some k) (Some cs) e f t n h = (cs, found_fewest ps cs (sym f), k, t k refl, sym (same_Some (k + length cs) n h))

  taken : (ss : List (Span P)) (n : ℕ) → legs_taken A ss ≡ Some n → FewestLegs A ss n
  taken [] n e = sym (same_Some 0 n e)
  taken (s ∷ ss) n e = sum_of ss s.points (legs_taken A ss) (found A s.points) refl refl (taken ss) n e

  added_up : (ss : List (Span P)) (ps : List P) (n : ℕ) → ((k : ℕ) → FewestLegs A ss k → legs_taken A ss ≡ Some k) → Sum ss ps n → added (legs_taken A ss) (found A ps) ≡ Some n
  added_up ss ps n t x = rw (t x.2 x.3) (rw (fewest_found ps x.0 x.1) (ap Some (sym x.4)))

  takes : (ss : List (Span P)) (n : ℕ) → FewestLegs A ss n → legs_taken A ss ≡ Some n
  takes [] n e = ap Some (sym e)
  takes (s ∷ ss) n x = added_up ss s.points n (takes ss) x

  abbrev Crowded : ℕ → List (Span P) → List P → Type 0
  Crowded capacity ss ps = (cs : List Cell) × Fewest A.depth (cell_passes A ps) cs × (after A capacity ss).crowded (length cs)

  crowded : (capacity : ℕ) (ss : List (Span P)) (ps : List P) → Decides (exceeds capacity (added (legs_taken A ss) (found A ps))) (Crowded capacity ss ps)
  crowded capacity ss ps = go (added (legs_taken A ss) (found A ps)) refl
    where
      go : (o : Option ℕ) → added (legs_taken A ss) (found A ps) ≡ o → Decides (exceeds capacity o) (Crowded capacity ss ps)
      go None e = (λ h. absurd (cc), λ x. absurd (none-some (x.2.0 + length x.0) (sym e ∙ added_up ss ps (x.2.0 + length x.0) (takes ss) (x.0, x.1, x.2.0, x.2.1, refl))))
      go (Some n) e = (
        λ h.
            let y = sum_of ss ps (legs_taken A ss) (found A ps) refl refl (taken ss) n e in
            let l = (Decides-ltb capacity n).0 h in
            (y.0, y.1, (y.2, y.3, subst (λ (m : ℕ). capacity < m) y.4 l)),
        λ x.
            let q = same_Some n (x.2.0 + length x.0) (sym e ∙ added_up ss ps (x.2.0 + length x.0) (takes ss) (x.0, x.1, x.2.0, x.2.1, refl)) in
            (Decides-ltb capacity n).1 (subst (λ (m : ℕ). capacity < m) (sym q) x.2.2),
      )

  bent : (ps : List P) → Decides (is_none (found A ps)) (¬ (Divisible A.depth (cell_passes A ps)))
  bent ps = Decides-like (is_none (found A ps)) (halving_is_fewest.nothing A.depth (cell_passes A ps)).0 (halving_is_fewest.nothing A.depth (cell_passes A ps)).1 (nothing (found A ps))

  -- ---- calls

  goes_on : (o : Option P) (p : P) → Decides (apart A o p) (¬ (Continues o p))
  goes_on None p = (λ h. absurd (cc), λ n. absurd (n tt))
  goes_on (Some q) p = Decides-not (same_point A.kind p q) (same A.kind law p q)

  full : (n : ℕ) → Decides (nat_lt n A.end) (¬ (Full A n))
  full n = Decides-like (nat_lt n A.end) (λ l h. absurd (omega arith)) (λ h. omega arith) (Decides-ltb n A.end)

  all_test : (capacity : ℕ) (ss : List (Span P)) (call : Call P) → AllTest (reasons A (after A capacity ss) call) (tests A capacity ss call)
  all_test capacity ss (lay ps l work) = (
    never _ Foreign (λ h. h),
    (
      tested _ _ (Curve PointCount) (Decides-or _ _ (Decides-ltb (length ps) (A.rule.lowest + 1)) (Decides-ltb 9 (length ps))),
      (
        beyond ps,
        (
          tested _ _ Ticks (Decides-or _ _ (less l (pos 1)) (less (pos 4096) l)),
          (
            tested _ _ PastEnd (less (pos A.end) (pos (end_tick ss) +ℤ l)),
            (
              tested _ _ Apart (goes_on (end_point A ss) (first_point A ps)),
              (
                tested _ _ (Curve ShortWork) (Decides-ltb work (work_wanted A.kind A.measure A.rule A.depth ps)),
                (tested _ _ (Curve TooBent) (bent ps), (tested _ _ (Curve TooManyLegs) (crowded capacity ss ps), tt)),
              ),
            ),
          ),
        ),
      ),
    ),
  )
  all_test capacity ss strike = (never _ Foreign (λ h. h), (tested _ _ Empty (Decides-eqb (length ss) 0), (never _ Torn (λ h. h), tt)))
  all_test capacity ss seal = (never _ Foreign (λ h. h), (tested _ _ NotFull (full (end_tick ss)), tt))

  -- ---- lists of calls

  answered : (rs : List (Reason Refusal)) (o : Option Refusal) → First rs o → First rs (refusal (answer_of o))
  answered rs None h = h
  answered rs (Some f) h = h

  going_on : (capacity : ℕ) (h : History P) (calls : List (Call P)) → Answered A capacity h → Answered A capacity (recorded h calls (answers A capacity (standing h) calls))
  going_on capacity h [] p = p
  going_on capacity h (c ∷ calls) p =
      let o = first_of (tests A capacity (standing h) c) in
      let rs = reasons A (after A capacity (standing h)) c in
      going_on capacity ((c, answer_of o) ∷ h) calls (answered rs o (first rs (tests A capacity (standing h) c) (all_test capacity (standing h) c)), p)

  pub answering : (capacity : ℕ) (calls : List (Call P)) → Answered A capacity (recorded [] calls (answers A capacity [] calls))
  answering capacity calls = going_on capacity [] calls tt
