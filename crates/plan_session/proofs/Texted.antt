-- What is printed for the lines of a text.
use Rattle.std.proofs.Common.{◌≡◌, inl, inr, ℕ, ◌+◌, ◌<◌, ◌≤◌, true, List, [], ◌∷◌, ◌++◌, length, take, slice_index_or, Some, None, Option, Ok, Err, sym, refl, ap, ◌∙◌}
use Rattle.std.proofs.lemmas.List.{append_assoc, append-nil, take_all, take_at, take_more}
use Rattle.leg.specs.declared.leg.Leg.{Leg}
use Rattle.turn.specs.Calls.{Call, lay, strike, seal}
use Rattle.plan_text.specs.Forms.{PlanForm}
use Rattle.plan_text.specs.Forms.PlanForm.{turn as turn_form, span as span_form, strike as strike_form, seal as seal_form}
use Rattle.plan_text.specs.Printing.{leg_line}
use Rattle.plan_text.specs.declared.form.At.{At}
use Rattle.plan_text.specs.declared.refusal.TextRefusal.{TextRefusal}
use Rattle.turn.specs.declared.refusal.Refusal.{Refusal}
use Rattle.plan_session.specs.Listing.{NoSuchLeg, ShowsLeg, legs_in, sealed_state}
use Rattle.plan_session.specs.Makings.{Answers, Calls, Made}
use Rattle.plan_session.specs.Sessions.{BeginsFor, FirstHears, Hears, SaysAndHears, State, waiting, flow_turn, box_turn, flow_at, box_at}
use Rattle.plan_session.specs.Replies.{reply_text}
use Rattle.plan_session.specs.Texts.{Adds, leg_lines, legs_before, legs_text}
use Rattle.plan_session.specs.Views.{Heard, View, next_number}
use Rattle.plan_session.specs.declared.reply.Reply.{Reply}
use Rattle.plan_session.specs.declared.reply.Reply.TheVariants.{Silent, Refused, Sealed}

-- ---- legs, printed one by one
module _ {P : Type 0} (at : P → At) where
  lines_push : (ls : List (Leg P)) (l : Leg P) → leg_lines at (ls ++ (l ∷ [])) ≡ leg_lines at ls ++ leg_line at l
  lines_push [] l = append-nil (leg_line at l)
  lines_push (x ∷ ls) l = ap (λ (us : List ℕ). leg_line at x ++ us) (lines_push ls l) ∙ sym (append_assoc (leg_line at x) (leg_lines at ls) (leg_line at l))

  lines_more : (ls : List (Leg P)) (i : ℕ) (l : Leg P) → i < length ls → l ≡ slice_index_or ls i l → leg_lines at (take (i + 1) ls) ≡ leg_lines at (take i ls) ++ leg_line at l
  lines_more ls i l h e = ap (leg_lines at) (take_more ls i l h ∙ ap (λ (x : Leg P). take i ls ++ (x ∷ [])) (sym e)) ∙ lines_push (take i ls) l

-- The first i legs, printed.
abbrev pub first_legs : State → ℕ → List ℕ
first_legs waiting i = []
first_legs (flow_turn m) i = leg_lines flow_at (take i m.contents.legs)
first_legs (box_turn m) i = leg_lines box_at (take i m.contents.legs)

pub first_all : (s : State) (i : ℕ) → legs_in s ≤ i → first_legs s i ≡ legs_text s
first_all waiting i h = refl
first_all (flow_turn m) i h = ap (leg_lines flow_at) (take_all i m.contents.legs h)
first_all (box_turn m) i h = ap (leg_lines box_at) (take_all i m.contents.legs h)

taken : (line rest new : List ℕ) (n : ℕ) → n ≡ length line → new ≡ line ++ rest → take n new ≡ line
taken line rest new n l e = ap (take n) e ∙ take_at line rest n (sym l)

pub first_more : (s : State) (i : ℕ) (old new : List ℕ) (n : ℕ) → ShowsLeg s i old (Ok (Some n)) new → first_legs s (i + 1) ≡ first_legs s i ++ take n new
first_more waiting i old new n x = absurd x
first_more (flow_turn m) i old new n x =
    let l = x.2.0 in
    lines_more flow_at m.contents.legs i l x.1 x.2.1 ∙ ap (λ (us : List ℕ). first_legs (flow_turn m) i ++ us) (sym (taken (leg_line flow_at l) _ new n x.2.2.1 x.2.2.2.1))
first_more (box_turn m) i old new n x =
    let l = x.2.0 in
    lines_more box_at m.contents.legs i l x.1 x.2.1 ∙ ap (λ (us : List ℕ). first_legs (box_turn m) i ++ us) (sym (taken (leg_line box_at l) _ new n x.2.2.1 x.2.2.2.1))

pub leg_refused : (s : State) (i : ℕ) (old new : List ℕ) (f : TextRefusal) → ShowsLeg s i old (Err f) new → length old < 160
leg_refused waiting i old new f x = x.1
leg_refused (flow_turn m) i old new f x = x.1
leg_refused (box_turn m) i old new f x = x.1

pub all_legs : (s : State) (i : ℕ) → sealed_state s ≡ true → NoSuchLeg s i None → legs_in s ≤ i
all_legs s i sealed (inl unsealed) = absurd cc
all_legs s i sealed (inr all) = all

-- No legs are printed but where a turn is sealed.
pub no_legs : (r : Reply) (s : State) → ((legs ticks : ℕ) → r ≡ Sealed legs ticks → ⊥) → legs_before r s ≡ []
no_legs Silent s n = refl
no_legs (Refused f) s n = refl
no_legs (Sealed legs ticks) s n = absurd (n legs ticks refl)

pub adds : (line : List ℕ) (v v' : View) (number : ℕ) (r : Reply) (before mid out : List ℕ) → number ≡ next_number v.heard → Heard v line r v' → mid ≡ before ++ legs_before r v'.state → out ≡ mid ++ reply_text number r → Adds line v before v' out
adds line v v' number r before mid out n h m o =
    record {
      reply = r;
      heard = h;
      more =
          o ∙ ap (λ (us : List ℕ). us ++ reply_text number r) m ∙ append_assoc before (legs_before r v'.state) (reply_text number r)
          ∙ ap (λ (k : ℕ). before ++ (legs_before r v'.state ++ reply_text k r)) n;
    }

-- ---- a turn is sealed by the reply that says so
module _ {P : Type 0} (legs ticks : ℕ) where
  call_seals : (m m' : Made P) (call : Call P) → Calls m call (Sealed legs ticks) m' → m'.sealed ≡ true
  call_seals m m' (lay ps l work) (Ok u, c, e) = absurd cc
  call_seals m m' (lay ps l work) (Err f, c, e) = absurd cc
  call_seals m m' strike (Ok u, c, e) = absurd cc
  call_seals m m' strike (Err f, c, e) = absurd cc
  call_seals m m' seal (Ok u, c, e) = c.sealed
  call_seals m m' seal (Err f, c, e) = absurd cc

  form_seals : (at : P → At) (m m' : Made P) (f : PlanForm) → Answers at m f (Sealed legs ticks) m' → m'.sealed ≡ true
  form_seals at m m' f (inl x) = absurd (let e = x.1.0 in cc)
  form_seals at m m' (turn_form t) (inr x) = absurd (let e = x.1.0 in cc)
  form_seals at m m' (span_form l ats) (inr (o, inl x)) = absurd (let e = x.1.0 in cc)
  form_seals at m m' (span_form l ats) (inr (o, inr x)) = call_seals m m' (lay x.0 l 99) x.2
  form_seals at m m' strike_form (inr x) = call_seals m m' strike x.1
  form_seals at m m' seal_form (inr x) = call_seals m m' seal x.1

module _ (legs ticks : ℕ) where
  begun_unsealed : (t : _) (f : Option Refusal) (s : State) → BeginsFor f t (Sealed legs ticks) s → ⊥
  begun_unsealed t None s x = let e = x.0 in cc
  begun_unsealed t (Some f) s x = let e = x.0 in cc

  first_unsealed : (f : PlanForm) (s : State) → FirstHears f (Sealed legs ticks) s → ⊥
  first_unsealed (turn_form t) s x = begun_unsealed t x.0 s x.2
  first_unsealed (span_form l ats) s x = let e = x.0 in cc
  first_unsealed strike_form s x = let e = x.0 in cc
  first_unsealed seal_form s x = let e = x.0 in cc

  heard_seals : (s s' : State) (o : Option PlanForm) → Hears s o (Sealed legs ticks) s' → sealed_state s' ≡ true
  heard_seals s s' None x = absurd (let e = x.0 in cc)
  heard_seals waiting s' (Some f) x = absurd (first_unsealed f s' x)
  heard_seals (flow_turn m) s' (Some f) x = ap sealed_state x.2 ∙ form_seals legs ticks flow_at m x.0 f x.1
  heard_seals (box_turn m) s' (Some f) x = ap sealed_state x.2 ∙ form_seals legs ticks box_at m x.0 f x.1

  pub line_seals : (s s' : State) (line : List ℕ) → SaysAndHears s line (Sealed legs ticks) s' → sealed_state s' ≡ true
  line_seals s s' line x = heard_seals s s' x.0 x.2
