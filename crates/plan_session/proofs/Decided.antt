-- Turn, history and printed text are decided by the lines.
use Rattle.std.proofs.Common.{◌≡◌, inl, inr, ℕ, List, [], ◌∷◌, ◌++◌, Some, None, sym, refl, ap, subst, subst₂, ◌∙◌}
use Rattle.ordinate.specs.declared.flow.Flow.{Flow}
use Rattle.ordinate.specs.declared.branches.Branches.{Branches}
use Rattle.turn.specs.Calls.{Call, History, lay}
use Rattle.plan_text.specs.Forms.{PlanForm, Says}
use Rattle.plan_text.specs.Forms.PlanForm.{turn as turn_form, span as span_form, strike as strike_form, seal as seal_form}
use Rattle.plan_text.specs.declared.form.At.{At}
use Rattle.plan_text.specs.declared.form.TurnForm.{TurnForm}
use Rattle.plan_session.specs.Claims.{LinesDecide}
use Rattle.plan_session.specs.Makings.{Called, Made}
use Rattle.plan_session.specs.Promises.{NoTurn, Promise, SaysCall, StandsFor, Tells}
use Rattle.plan_session.specs.Replies.{reply_text}
use Rattle.plan_session.specs.Sessions.{State, waiting, flow_turn, box_turn, flow_at, box_at, begun_by, measure_of}
use Rattle.plan_session.specs.Texts.{Adds, Printed, legs_before}
use Rattle.plan_session.specs.Views.{View, next_number}
use Rattle.plan_session.proofs.Once.{box_turn_once, box_typed_once, flow_turn_once, flow_typed_once, one_called, one_judged, one_view, same_form, same_points}

same_turn : (line : List ℕ) (t u : TurnForm) → Says line (Some (turn_form t)) → Says line (Some (turn_form u)) → t ≡ u
same_turn line t u a b = let e = same_form line (turn_form t) (turn_form u) a b in cc

module _ {P : Type 0} (at : P → At) (wrap : Made P → State) where
  -- Where no turn was accepted there is nothing to tell.
  no_turn : (lines : List (List ℕ)) (m : Made P) (h : History P) → NoTurn lines → Tells at wrap lines m h → ⊥
  no_turn [] m h n t = t
  no_turn (line ∷ lines) m h n (inl x) =
      let t = x.1.form in
      let r = n.1 t x.1.says in
      let e = one_judged (measure_of t.kind) t None (Some r.0) x.1.agreed r.1 in
      cc
  no_turn (line ∷ lines) m h n (inr (inl x)) = no_turn lines x.0 x.1 n.0 x.2
  no_turn (line ∷ lines) m h n (inr (inr x)) = no_turn lines m h n.0 x.0

  module _ (typed_once : (p q : P) → at p ≡ at q → p ≡ q) (wrapped_once : (m n : Made P) → wrap m ≡ wrap n → m ≡ n) where
    one_stands : (f : PlanForm) (c d : Call P) → StandsFor at wrap f c → StandsFor at wrap f d → c ≡ d
    one_stands (turn_form t) c d x y = absurd x
    one_stands (span_form l ats) c d x y = x.2 ∙ ap (λ (ps : List P). lay ps l 99) (same_points at typed_once x.0 y.0 (x.1 ∙ sym y.1)) ∙ sym y.2
    one_stands strike_form c d x y = x ∙ sym y
    one_stands seal_form c d x y = x ∙ sym y

    one_call_said : (line : List ℕ) (c d : Call P) → SaysCall at wrap line c → SaysCall at wrap line d → c ≡ d
    one_call_said line c d x y =
        one_stands y.0 c d (subst (λ (f : PlanForm). StandsFor at wrap f c) (same_form line x.0 y.0 x.1 y.1) x.2) y.2

    one_told : (lines : List (List ℕ)) (m n : Made P) (h k : History P) → Tells at wrap lines m h → Tells at wrap lines n k → (m ≡ n) × (h ≡ k)
    one_told [] m n h k x y = absurd x
    one_told (line ∷ lines) m n h k (inl x) (inl y) =
        let e = same_turn line x.1.form y.1.form x.1.says y.1.says in
        (wrapped_once m n (x.1.begun ∙ ap (λ (t : TurnForm). begun_by t.kind t) e ∙ sym y.1.begun), x.1.none ∙ sym y.1.none)
    one_told (line ∷ lines) m n h k (inl x) (inr (inl y)) = absurd (no_turn lines y.0 y.1 x.0 y.2)
    one_told (line ∷ lines) m n h k (inl x) (inr (inr y)) = absurd (no_turn lines n k x.0 y.0)
    one_told (line ∷ lines) m n h k (inr (inl x)) (inl y) = absurd (no_turn lines x.0 x.1 y.0 x.2)
    one_told (line ∷ lines) m n h k (inr (inl x)) (inr (inl y)) =
        let before = one_told lines x.0 y.0 x.1 y.1 x.2 y.2 in
        let call = one_call_said line x.3.call y.3.call x.3.says y.3.says in
        let made : Called y.0 y.3.call x.3.answer m = subst₂ (λ (z : Made P) (c : Call P). Called z c x.3.answer m) before.0 call x.3.called in
        let after = one_called y.0 y.3.call x.3.answer y.3.answer m n made y.3.called in
        (after.1, x.3.more ∙ (λ i. (call i, after.0 i) ∷ before.1 i) ∙ sym y.3.more)
    one_told (line ∷ lines) m n h k (inr (inl x)) (inr (inr (z, inl s))) =
        let before = one_told lines x.0 n x.1 k x.2 z in
        absurd (let e = before.0 in let o = x.3.open_turn in let w = ap (λ (a : Made P). a.sealed) e in cc)
    one_told (line ∷ lines) m n h k (inr (inl x)) (inr (inr (z, inr s))) = absurd (s x.3.call x.3.says)
    one_told (line ∷ lines) m n h k (inr (inr x)) (inl y) = absurd (no_turn lines m h y.0 x.0)
    one_told (line ∷ lines) m n h k (inr (inr (z, inl s))) (inr (inl y)) =
        let before = one_told lines m y.0 h y.1 z y.2 in
        absurd (let e = before.0 in let o = y.3.open_turn in let w = ap (λ (a : Made P). a.sealed) e in cc)
    one_told (line ∷ lines) m n h k (inr (inr (z, inr s))) (inr (inl y)) = absurd (s y.3.call y.3.says)
    one_told (line ∷ lines) m n h k (inr (inr x)) (inr (inr y)) = one_told lines m n h k x.0 y.0

-- ---- flow and box

-- A turn is of one kind.
one_kind : (lines : List (List ℕ)) (m : Made Flow) (n : Made Branches) (h : History Flow) (k : History Branches) → Tells flow_at flow_turn lines m h → Tells box_at box_turn lines n k → ⊥
one_kind [] m n h k x y = x
one_kind (line ∷ lines) m n h k (inl x) (inl y) =
    let e = same_turn line x.1.form y.1.form x.1.says y.1.says in
    let same : flow_turn m ≡ box_turn n = x.1.begun ∙ ap (λ (t : TurnForm). begun_by t.kind t) e ∙ sym y.1.begun in
    cc
one_kind (line ∷ lines) m n h k (inl x) (inr (inl y)) = no_turn box_at box_turn lines y.0 y.1 x.0 y.2
one_kind (line ∷ lines) m n h k (inl x) (inr (inr y)) = no_turn box_at box_turn lines n k x.0 y.0
one_kind (line ∷ lines) m n h k (inr (inl x)) (inl y) = no_turn flow_at flow_turn lines x.0 x.1 y.0 x.2
one_kind (line ∷ lines) m n h k (inr (inl x)) (inr (inl y)) = one_kind lines x.0 y.0 x.1 y.1 x.2 y.2
one_kind (line ∷ lines) m n h k (inr (inl x)) (inr (inr y)) = one_kind lines x.0 n x.1 k x.2 y.0
one_kind (line ∷ lines) m n h k (inr (inr x)) (inl y) = no_turn flow_at flow_turn lines m h y.0 x.0
one_kind (line ∷ lines) m n h k (inr (inr x)) (inr (inl y)) = one_kind lines m y.0 h y.1 x.0 y.2
one_kind (line ∷ lines) m n h k (inr (inr x)) (inr (inr y)) = one_kind lines m n h k x.0 y.0

one_state : (lines : List (List ℕ)) (s u : State) → Promise lines s → Promise lines u → s ≡ u
one_state lines waiting waiting x y = refl
one_state lines waiting (flow_turn n) x y = absurd (no_turn flow_at flow_turn lines n y.0 x y.1)
one_state lines waiting (box_turn n) x y = absurd (no_turn box_at box_turn lines n y.0 x y.1)
one_state lines (flow_turn m) waiting x y = absurd (no_turn flow_at flow_turn lines m x.0 y x.1)
one_state lines (flow_turn m) (flow_turn n) x y = ap flow_turn (one_told flow_at flow_turn flow_typed_once flow_turn_once lines m n x.0 y.0 x.1 y.1).0
one_state lines (flow_turn m) (box_turn n) x y = absurd (one_kind lines m n x.0 y.0 x.1 y.1)
one_state lines (box_turn m) waiting x y = absurd (no_turn box_at box_turn lines m x.0 y x.1)
one_state lines (box_turn m) (flow_turn n) x y = absurd (one_kind lines n m y.0 x.0 y.1 x.1)
one_state lines (box_turn m) (box_turn n) x y = ap box_turn (one_told box_at box_turn box_typed_once box_turn_once lines m n x.0 y.0 x.1 y.1).0

-- ---- what is printed

one_added : (line : List ℕ) (v : View) (before : List ℕ) (w u : View) (xs ys : List ℕ) → Adds line v before w xs → Adds line v before u ys → (w ≡ u) × (xs ≡ ys)
one_added line v before w u xs ys x y =
    let e = one_view v line x.reply y.reply w u x.heard y.heard in
    (e.1, x.more ∙ (λ i. before ++ (legs_before (e.0 i) (e.1 i).state ++ reply_text (next_number v.heard) (e.0 i))) ∙ sym y.more)

one_printed : (lines : List (List ℕ)) (v w : View) (xs ys : List ℕ) → Printed lines v xs → Printed lines w ys → (v ≡ w) × (xs ≡ ys)
one_printed [] v w xs ys x y = (x.0 ∙ sym y.0, x.1 ∙ sym y.1)
one_printed (line ∷ lines) v w xs ys x y =
    let e = one_printed lines x.0 y.0 x.1 y.1 x.2 y.2 in
    one_added line y.0 y.1 v w xs ys (subst₂ (λ (z : View) (b : List ℕ). Adds line z b v xs) e.0 e.1 x.3) y.3

pub lines_decide : LinesDecide
lines_decide =
    record {
      state = one_state;
      flow_calls = λ lines m n h k x y. one_told flow_at flow_turn flow_typed_once flow_turn_once lines m n h k x y;
      box_calls = λ lines m n h k x y. one_told box_at box_turn box_typed_once box_turn_once lines m n h k x y;
      printed = one_printed;
    }
