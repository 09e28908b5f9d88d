-- A line has one answer.
use Rattle.std.proofs.Common.{◌≡◌, inl, inr, ℕ, List, [], ◌∷◌, map, length, ℤ, ◌||◌, Some, None, Option, sym, refl, ap, subst, ◌∙◌}
use Rattle.ordinate.specs.declared.flow.Flow.{Flow}
use Rattle.ordinate.specs.declared.branches.Branches.{Branches}
use Rattle.distance.specs.Measures.{Measure}
use Rattle.leg.proofs.Reasoned.{AllSingle, because_single, one_answer}
use Rattle.curve.specs.declared.refusal.CurveRefusal.TheVariants.{Tolerance, Depth}
use Rattle.turn.specs.Calls.{Answer, Call, lay, strike, seal}
use Rattle.turn.specs.declared.refusal.Refusal.{Refusal}
use Rattle.turn.specs.declared.refusal.Refusal.TheVariants.{Curve, End}
use Rattle.turn.proofs.Exact.{one_outcome}
use Rattle.planner.specs.Drafts.{begin_reasons}
use Rattle.plan_text.specs.Forms.{PlanForm, Says}
use Rattle.plan_text.specs.Forms.PlanForm.{turn as turn_form, span as span_form, strike as strike_form, seal as seal_form}
use Rattle.plan_text.specs.declared.form.At.{At}
use Rattle.plan_text.specs.declared.form.At.TheVariants.{One, Two}
use Rattle.plan_text.specs.declared.form.TurnForm.{TurnForm}
use Rattle.plan_text.proofs.OneForm.{said_form}
use Rattle.plan_session.specs.Makings.{Answers, Called, Calls, InPlace, Judged, Made, reply_to, seals, terms_of}
use Rattle.plan_session.specs.Replies.{is_refusal}
use Rattle.plan_session.specs.Sessions.{BeginsFor, FirstHears, Hears, HearsForm, SaysAndHears, State, waiting, flow_turn, box_turn, flow_at, box_at, measure_of}
use Rattle.plan_session.specs.Views.{Heard, View}
use Rattle.plan_session.specs.declared.reply.Reply.{Reply}

one_said : (line : List ℕ) (o o' : Option PlanForm) → Says line o → Says line o' → o ≡ o'
one_said line o (Some f) s s' = said_form line o s f s'.0 s'.1
one_said line (Some f) None s s' = absurd (s' f s.0 s.1)
one_said line None None s s' = refl

same_some : {A : Type 0} (x y : A) → Some x ≡ Some y → x ≡ y
same_some x y e = cc

pub same_form : (line : List ℕ) (f g : PlanForm) → Says line (Some f) → Says line (Some g) → f ≡ g
same_form line f g s t = same_some f g (one_said line (Some f) (Some g) s t)

pub one_judged : (M : Measure) (t : TurnForm) (f g : Option Refusal) → Judged M t f → Judged M t g → f ≡ g
one_judged M t f g x y =
    let single : AllSingle (begin_reasons M (terms_of t)) = (because_single _ (Curve Tolerance), (because_single _ (Curve Depth), (because_single _ End, tt))) in
    one_answer (begin_reasons M (terms_of t)) single f g x.first y.first

-- Points that are typed alike are the same.
module _ {P : Type 0} (at : P → At) (typed_once : (p q : P) → at p ≡ at q → p ≡ q) where
  pub same_points : (ps qs : List P) → map at ps ≡ map at qs → ps ≡ qs
  same_points [] [] e = refl
  same_points [] (q ∷ qs) e = absurd cc
  same_points (p ∷ ps) [] e = absurd cc
  same_points (p ∷ ps) (q ∷ qs) e = λ i. typed_once p q (first (at p) (at q) (map at ps) (map at qs) e) i ∷ same_points ps qs (others (at p) (at q) (map at ps) (map at qs) e) i
    where
      first : (a b : At) (xs ys : List At) → a ∷ xs ≡ b ∷ ys → a ≡ b
      first a b xs ys e = cc

      others : (a b : At) (xs ys : List At) → a ∷ xs ≡ b ∷ ys → xs ≡ ys
      others a b xs ys e = cc

-- ---- a turn in the making
module _ {P : Type 0} where
  same_made : (m n : Made P) → m.setting ≡ n.setting → m.progress ≡ n.progress → m.contents ≡ n.contents → m.sealed ≡ n.sealed → m ≡ n
  same_made m n a b c d = λ i. record { setting = a i; progress = b i; contents = c i; sealed = d i }

  pub one_called : (m : Made P) (call : Call P) (a b : Answer) (n k : Made P) → Called m call a n → Called m call b k → (a ≡ b) × (n ≡ k)
  one_called m call a b n k x y =
      let e = one_outcome m.setting call m.progress m.contents a b n.progress k.progress n.contents k.contents x.outcome y.outcome in
      (e.0, same_made n k (x.setting ∙ sym y.setting) e.1 e.2 (x.sealed ∙ ap (seals call) e.0 ∙ sym y.sealed))

  one_call : (m : Made P) (call : Call P) (r q : Reply) (n k : Made P) → Calls m call r n → Calls m call q k → (r ≡ q) × (n ≡ k)
  one_call m call r q n k x y =
      let e = one_called m call x.0 y.0 n k x.1 y.1 in
      (x.2 ∙ ap (reply_to (length m.contents.legs) m.setting.end call) e.0 ∙ sym y.2, e.1)

  one_refused : (f r q : Reply) (m n k : Made P) → (r ≡ f) × (n ≡ m) → (q ≡ f) × (k ≡ m) → (r ≡ q) × (n ≡ k)
  one_refused f r q m n k x y = (x.0 ∙ sym y.0, x.1 ∙ sym y.1)

module _ {P : Type 0} (at : P → At) (typed_once : (p q : P) → at p ≡ at q → p ≡ q) where
  one_in_place : (m : Made P) (f : PlanForm) (r q : Reply) (n k : Made P) → InPlace at m f r n → InPlace at m f q k → (r ≡ q) × (n ≡ k)
  one_in_place m (turn_form t) r q n k x y = one_refused _ r q m n k x y
  one_in_place m (span_form l ats) r q n k (inl x) (inl y) = one_refused _ r q m n k x.1 y.1
  one_in_place m (span_form l ats) r q n k (inl x) (inr y) = absurd (x.0 y.0 y.1)
  one_in_place m (span_form l ats) r q n k (inr x) (inl y) = absurd (y.0 x.0 x.1)
  one_in_place m (span_form l ats) r q n k (inr x) (inr y) =
      let e = same_points at typed_once y.0 x.0 (y.1 ∙ sym x.1) in
      one_call m (lay x.0 l 99) r q n k x.2 (subst (λ (ps : List P). Calls m (lay ps l 99) q k) e y.2)
  one_in_place m strike_form r q n k x y = one_call m strike r q n k x y
  one_in_place m seal_form r q n k x y = one_call m seal r q n k x y

  one_answered : (m : Made P) (f : PlanForm) (r q : Reply) (n k : Made P) → Answers at m f r n → Answers at m f q k → (r ≡ q) × (n ≡ k)
  one_answered m f r q n k (inl x) (inl y) = one_refused _ r q m n k x.1 y.1
  one_answered m f r q n k (inl x) (inr y) = absurd (let a = x.0 in let b = y.0 in cc)
  one_answered m f r q n k (inr x) (inl y) = absurd (let a = x.0 in let b = y.0 in cc)
  one_answered m f r q n k (inr x) (inr y) = one_in_place m f r q n k x.1 y.1

same_one : (a b : ℤ) → One a ≡ One b → a ≡ b
same_one a b e = cc

same_left : (a b c d : ℤ) → Two a b ≡ Two c d → a ≡ c
same_left a b c d e = cc

same_right : (a b c d : ℤ) → Two a b ≡ Two c d → b ≡ d
same_right a b c d e = cc

pub flow_typed_once : (p q : Flow) → flow_at p ≡ flow_at q → p ≡ q
flow_typed_once p q e = let same = same_one p.value q.value e in λ i. record { value = same i }

pub box_typed_once : (p q : Branches) → box_at p ≡ box_at q → p ≡ q
box_typed_once p q e =
    let left = same_left p.left p.right q.left q.right e in
    let right = same_right p.left p.right q.left q.right e in
    λ i. record { left = left i; right = right i }

pub flow_turn_once : (m n : Made Flow) → flow_turn m ≡ flow_turn n → m ≡ n
flow_turn_once m n e = cc

pub box_turn_once : (m n : Made Branches) → box_turn m ≡ box_turn n → m ≡ n
box_turn_once m n e = cc

-- ---- a session
one_begun : (t : TurnForm) (f : Option Refusal) (r q : Reply) (s u : State) → BeginsFor f t r s → BeginsFor f t q u → (r ≡ q) × (s ≡ u)
one_begun t None r q s u x y = (x.0 ∙ sym y.0, x.1 ∙ sym y.1)
one_begun t (Some f) r q s u x y = (x.0 ∙ sym y.0, x.1 ∙ sym y.1)

one_first : (f : PlanForm) (r q : Reply) (s u : State) → FirstHears f r s → FirstHears f q u → (r ≡ q) × (s ≡ u)
one_first (turn_form t) r q s u x y =
    let e = one_judged (measure_of t.kind) t x.0 y.0 x.1 y.1 in
    one_begun t y.0 r q s u (subst (λ (f : Option Refusal). BeginsFor f t r s) e x.2) y.2
one_first (span_form l ats) r q s u x y = (x.0 ∙ sym y.0, x.1 ∙ sym y.1)
one_first strike_form r q s u x y = (x.0 ∙ sym y.0, x.1 ∙ sym y.1)
one_first seal_form r q s u x y = (x.0 ∙ sym y.0, x.1 ∙ sym y.1)

one_form_heard : (z : State) (f : PlanForm) (r q : Reply) (s u : State) → HearsForm z f r s → HearsForm z f q u → (r ≡ q) × (s ≡ u)
one_form_heard waiting f r q s u x y = one_first f r q s u x y
one_form_heard (flow_turn m) f r q s u x y =
    let e = one_answered flow_at flow_typed_once m f r q x.0 y.0 x.1 y.1 in
    (e.0, x.2 ∙ ap flow_turn e.1 ∙ sym y.2)
one_form_heard (box_turn m) f r q s u x y =
    let e = one_answered box_at box_typed_once m f r q x.0 y.0 x.1 y.1 in
    (e.0, x.2 ∙ ap box_turn e.1 ∙ sym y.2)

one_heard : (z : State) (o : Option PlanForm) (r q : Reply) (s u : State) → Hears z o r s → Hears z o q u → (r ≡ q) × (s ≡ u)
one_heard z None r q s u x y = (x.0 ∙ sym y.0, x.1 ∙ sym y.1)
one_heard z (Some f) r q s u x y = one_form_heard z f r q s u x y

one_reply : (z : State) (line : List ℕ) (r q : Reply) (s u : State) → SaysAndHears z line r s → SaysAndHears z line q u → (r ≡ q) × (s ≡ u)
one_reply z line r q s u x y =
    let e = one_said line x.0 y.0 x.1 y.1 in
    one_heard z y.0 r q s u (subst (λ (o : Option PlanForm). Hears z o r s) e x.2) y.2

same_view : (v w : View) → v.heard ≡ w.heard → v.refused ≡ w.refused → v.state ≡ w.state → v ≡ w
same_view v w a b c = λ i. record { heard = a i; refused = b i; state = c i }

pub one_view : (v : View) (line : List ℕ) (r q : Reply) (w u : View) → Heard v line r w → Heard v line q u → (r ≡ q) × (w ≡ u)
one_view v line r q w u x y =
    let e = one_reply v.state line r q w.state u.state x.hears y.hears in
    (e.0, same_view w u (x.counted ∙ sym y.counted) (x.noted ∙ ap (λ (z : Reply). v.refused || is_refusal z) e.0 ∙ sym y.noted) e.1)
