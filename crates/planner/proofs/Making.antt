-- One call made from its data: what it comes to is what the lay, the strike or the seal comes to.
use Rattle.std.specs.Prelude.{◌≡◌, ℕ, ◌≤◌, Bool, true, false, cond, List, ◌++◌, drop, length, replicate, take, ℤ, Err, IsOkAnd, MatchResult, Ok, Result, Some, refl}
use Rattle.std.proofs.Common.{◌∙◌, ap, append_assoc, inl, inr, subst, sym}
use Rattle.std.proofs.lemmas.Bool.{cases_lt}
use Rattle.std.proofs.lemmas.List.{drop-append-le, length-take-le, take-append-drop}
use Rattle.distance.specs.Measures.{blank}
use Rattle.leg.specs.Reasons.{First, refusal}
use Rattle.outlet.specs.Outlets.{Contents}
use Rattle.curve.specs.Refusals.{work_wanted}
use Rattle.turn.specs.Calls.{Answer, Call, Progress, lay}
use Rattle.turn.specs.Outcomes.{Outcome}
use Rattle.turn.specs.Reasons.{Situation, reasons}
use Rattle.turn.specs.Settings.{Setting}
use Rattle.turn.specs.declared.refusal.Refusal.{Refusal}
use Rattle.curve.specs.declared.refusal.CurveRefusal.TheVariants.{PointCount, PointBeyond, ShortWork}
use Rattle.turn.specs.declared.refusal.Refusal.TheVariants.{Curve, Foreign, Ticks, PastEnd, Apart}
use Rattle.planner.specs.Drafts.{HandsBack, answer, halving_begun, left, progress, seal_left, work_left}
use Rattle.planner.specs.Runs.{TurnKeeps, as_turn, turn_left, turn_progress}
use Rattle.planner.specs.declared.draft.Draft.{Draft}
use Rattle.planner.specs.declared.draft.Refused.{Refused}
use Rattle.planner.specs.declared.run.Turn.{Turn}
use Rattle.planner.specs.declared.run.Turn.TheVariants.{Draft as StillDraft, Sealed as NowSealed}
use Rattle.planner.specs.declared.sealed.Sealed.{Sealed}

module _ {P R : Type 0} where
  -- The step's result, with the turn in the place of what it hands back.
  abbrev pub Wrapped : {A : Type 0} → (A → Turn P R) → Result A (Refused P R) → Result (Turn P R) (Refused P R) → Type 0
  Wrapped f r m = MatchResult r (λ x. IsOkAnd m (λ t. t ≡ f x)) (λ e. m ≡ Err e)

  pub as_turn_wraps : {A : Type 0} (f : A → Turn P R) (r : Result A (Refused P R)) → Wrapped f r (as_turn f r)
  as_turn_wraps f (Ok x) = refl
  as_turn_wraps f (Err e) = refl

  wrapped_answer : {A : Type 0} (f : A → Turn P R) (r : Result A (Refused P R)) (m : Result (Turn P R) (Refused P R)) → Wrapped f r m → answer m ≡ answer r
  wrapped_answer f (Ok x) (Ok t) w = refl
  wrapped_answer f (Ok x) (Err e) w = absurd w
  wrapped_answer f (Err e) m w = ap answer w

  still_left : (r : Result (Draft P R) (Refused P R)) (m : Result (Turn P R) (Refused P R)) → Wrapped StillDraft r m → turn_left m ≡ StillDraft (left r)
  still_left (Ok d) (Ok t) w = w
  still_left (Ok d) (Err e) w = absurd w
  still_left (Err e) m w = ap turn_left w

  sealed_left : (r : Result (Sealed P R) (Refused P R)) (m : Result (Turn P R) (Refused P R)) → Wrapped NowSealed r m → turn_progress (turn_left m) ≡ seal_left r
  sealed_left (Ok s) (Ok t) w = ap turn_progress w
  sealed_left (Ok s) (Err e) w = absurd w
  sealed_left (Err e) m w = ap (λ (n : Result (Turn P R) (Refused P R)). turn_progress (turn_left n)) w

  pub still_answer : (m : Result (Turn P R) (Refused P R)) (x : Turn P R × Answer) → x ≡ (turn_left m, answer m) → (r : Result (Draft P R) (Refused P R)) → Wrapped StillDraft r m → x.1 ≡ answer r
  still_answer m x is r w = ap (λ (y : Turn P R × Answer). y.1) is ∙ wrapped_answer StillDraft r m w

  -- what the lay, the strike or the seal comes to is what the call does
  module _ (A : Setting P) (call : Call P) (g : Progress P) (c c' : Contents P) (m : Result (Turn P R) (Refused P R)) (x : Turn P R × Answer) (is : x ≡ (turn_left m, answer m)) where
    came : (a : Answer) (g' : Progress P) → answer m ≡ a → turn_progress (turn_left m) ≡ g' → Outcome A call g c a g' c' → Outcome A call g c x.1 (turn_progress x.0) c'
    came a g' e f o =
        subst (λ (b : Answer). Outcome A call g c b (turn_progress x.0) c') (sym (ap (λ (y : Turn P R × Answer). y.1) is ∙ e))
        (subst (λ (p : Progress P). Outcome A call g c a p c') (sym (ap (λ (y : Turn P R × Answer). turn_progress y.0) is ∙ f)) o)

    pub still_came : (r : Result (Draft P R) (Refused P R)) → Wrapped StillDraft r m → Outcome A call g c (answer r) (progress (left r)) c' → Outcome A call g c x.1 (turn_progress x.0) c'
    still_came r w o = came (answer r) (progress (left r)) (wrapped_answer StillDraft r m w) (ap turn_progress (still_left r m w)) o

    pub sealed_came : (r : Result (Sealed P R) (Refused P R)) → Wrapped NowSealed r m → Outcome A call g c (answer r) (seal_left r) c' → Outcome A call g c x.1 (turn_progress x.0) c'
    sealed_came r w o = came (answer r) (seal_left r) (wrapped_answer NowSealed r m w) (sealed_left r m w) o

  keeps : (d : Draft P R) (r : Result (Draft P R) (Refused P R)) → HandsBack d r → TurnKeeps d (answer r) (StillDraft (left r))
  keeps d (Ok e) h = h
  keeps d (Err e) h = ap StillDraft h

  -- what is agreed stays
  pub still_keeps : (d : Draft P R) (m : Result (Turn P R) (Refused P R)) (x : Turn P R × Answer) → x ≡ (turn_left m, answer m)
      → (r : Result (Draft P R) (Refused P R)) → Wrapped StillDraft r m → HandsBack d r → TurnKeeps d x.1 x.0
  still_keeps d m x is r w h =
      subst (λ (y : Turn P R × Answer). TurnKeeps d y.1 y.0) (sym is)
      (subst (λ (a : Answer). TurnKeeps d a (turn_left m)) (sym (wrapped_answer StillDraft r m w))
      (subst (TurnKeeps d (answer r)) (sym (still_left r m w)) (keeps d r h)))

-- ---- work points

not_begun : (a : Answer) (f : Refusal) → refusal a ≡ Some f → halving_begun (Err f) ≡ false → halving_begun a ≡ true → ⊥
not_begun (Ok tt) f e n b = cc
not_begun (Err g) f e n b = cc

module _ {P : Type 0} (A : Setting P) (now : Situation P) (ps : List P) (l : ℤ) (n : ℕ) where
  -- where the halving is begun, the work points are enough
  enough : (a : Answer) → halving_begun a ≡ true → First (reasons A now (lay ps l n)) (refusal a) → work_wanted A.kind A.measure A.rule A.depth ps ≤ n
  enough a b (inl x) = absurd (not_begun a Foreign (x.2 ∙ ap Some x.1.1) refl b)
  enough a b (inr (_, inl x)) = absurd (not_begun a (Curve PointCount) (x.2 ∙ ap Some x.1.1) refl b)
  enough a b (inr (_, inr (_, inl x))) = absurd (not_begun a (Curve (PointBeyond x.1.0)) (x.2 ∙ ap Some x.1.2) refl b)
  enough a b (inr (_, inr (_, inr (_, inl x)))) = absurd (not_begun a Ticks (x.2 ∙ ap Some x.1.1) refl b)
  enough a b (inr (_, inr (_, inr (_, inr (_, inl x))))) = absurd (not_begun a PastEnd (x.2 ∙ ap Some x.1.1) refl b)
  enough a b (inr (_, inr (_, inr (_, inr (_, inr (_, inl x)))))) = absurd (not_begun a Apart (x.2 ∙ ap Some x.1.1) refl b)
  enough a b (inr (_, inr (_, inr (_, inr (_, inr (_, inr (_, inl x))))))) = absurd (not_begun a (Curve ShortWork) (x.2 ∙ ap Some x.1.1) refl b)
  enough a b (inr (_, inr (_, inr (_, inr (_, inr (_, inr (_, inr (k, _)))))))) =
      let W = work_wanted A.kind A.measure A.rule A.depth ps in
      elim (cases_lt n W) [ inl h ↦ absurd (k (Curve ShortWork) (h, refl)) | inr h ↦ h ]

  -- a lay that is lent the first n of the work points leaves all of them as one that is lent all would
  pub work_stays : (work new : List P) (a : Answer) → n ≤ length work → First (reasons A now (lay ps l n)) (refusal a)
      → new ≡ work_left A.kind a (work_wanted A.kind A.measure A.rule A.depth ps) (take n work)
      → new ++ drop n work ≡ work_left A.kind a (work_wanted A.kind A.measure A.rule A.depth ps) work
  work_stays work new a few first e = ap (λ (xs : List P). xs ++ drop n work) e ∙ go (halving_begun a) refl
    where
      W : ℕ
      W = work_wanted A.kind A.measure A.rule A.depth ps

      go : (b : Bool) → halving_begun a ≡ b → cond b (replicate W (blank A.kind) ++ drop W (take n work)) (take n work) ++ drop n work ≡ cond b (replicate W (blank A.kind) ++ drop W work) work
      go false q = take-append-drop n work
      go true q =
          let have : W ≤ length (take n work) = rw (length-take-le n work few) (enough a q first) in
          append_assoc (replicate W (blank A.kind)) (drop W (take n work)) (drop n work)
          ∙ ap (λ (xs : List P). replicate W (blank A.kind) ++ xs) (sym (drop-append-le W (take n work) (drop n work) have) ∙ ap (drop W) (take-append-drop n work))
