-- A list of calls under way: what each call that is made leaves.
use Rattle.std.specs.Prelude.{◌≡◌, ℕ, ◌≤◌, List, [], ◌∷◌, ◌++◌, length, Err, Ok, Some}
use Rattle.std.proofs.Common.{◌∙◌, ap, subst, sym}
use Rattle.std.specs.List.{slice_get}
use Rattle.ordinate.specs.Kinds.{Kind}
use Rattle.distance.specs.Measures.{Measure}
use Rattle.bezier.specs.Reductions.{Rule}
use Rattle.outlet.specs.Outlets.{Contents}
use Rattle.turn.specs.Calls.{Answer, Call, History}
use Rattle.turn.specs.Outcomes.{Outcome}
use Rattle.turn.specs.Runs.{Performed, recorded}
use Rattle.turn.specs.Settings.{Setting}
use Rattle.turn.proofs.Runs.{Underway, performed_sealed, recorded_next, underway_next}
use Rattle.planner.specs.Drafts.{progress, sealed_progress, setting}
use Rattle.planner.specs.Runs.{TurnAfter, TurnIs, TurnKeeps, lent, turn_progress}
use Rattle.planner.specs.declared.draft.Draft.{Draft}
use Rattle.planner.specs.declared.run.Turn.{Turn}
use Rattle.planner.specs.declared.run.Turn.TheVariants.{Draft as StillDraft, Sealed as NowSealed}
use Rattle.planner.specs.declared.sealed.Sealed.{Sealed}
use Rattle.planner.proofs.Agreed.{same_setting}
use Rattle.planner.proofs.Worked.{lent_alike}

module _ {P R : Type 0} (K : Kind P) (M : Measure) (T : Rule P) (first : Draft P R) (calls : List (Call P)) (c₀ : Contents P) where
  -- So many calls are made, and this draft is left.
  pub record Going (answers : List Answer) (d : Draft P R) (c : Contents P) : Type 0 where
    pub underway : Underway (setting K M T first) calls (progress first) c₀ answers (progress d) c
    pub accuracy : d.accuracy ≡ first.accuracy
    pub end : d.end ≡ first.end
    pub still : TurnAfter (recorded [] calls answers) (StillDraft d)

  -- one call more is made
  module _ (answers next : List Answer) (d : Draft P R) (c c' : Contents P) (v : Going answers d c) (n : ℕ) (many : 99 ≤ n) (call : Call P) (here : slice_get calls (length answers) ≡ Some call)
      (a : Answer) (more : next ≡ answers ++ (a ∷ [])) (t : Turn P R) (o : Outcome (setting K M T d) (lent n call) (progress d) c a (turn_progress t) c') (is : TurnIs call a t) where
    after : TurnAfter (recorded [] calls next) t
    after = subst (λ (xs : List Answer). TurnAfter (recorded [] calls xs) t) (sym more) (subst (λ (h : History P). TurnAfter h t) (sym (recorded_next [] calls answers call a here)) is)

    agreed : Outcome (setting K M T first) call (progress d) c a (turn_progress t) c'
    agreed =
        subst (λ (A : Setting P). Outcome A call (progress d) c a (turn_progress t) c') (same_setting K M T d first v.accuracy v.end)
        (lent_alike (setting K M T d) d.accuracy.shallow n many call (progress d) (turn_progress t) c c' a o)

    pub going_on : TurnKeeps d a t → (e : Draft P R) → t ≡ StillDraft e → Going next e c'
    going_on k e q =
        let o' = subst (λ (u : Turn P R). Outcome (setting K M T first) call (progress d) c a (turn_progress u) c') q agreed in
        let is' = subst (TurnIs call a) q is in
        let kept = keeps a (subst (TurnKeeps d a) q k) in
        record {
          underway = subst (λ (xs : List Answer). Underway (setting K M T first) calls (progress first) c₀ xs (progress e) c') (sym more)
              (underway_next (setting K M T first) calls (progress first) c₀ answers call a (progress d) (progress e) c c' v.underway here o' is');
          accuracy = kept.0 ∙ v.accuracy;
          end = kept.1 ∙ v.end;
          still = subst (TurnAfter (recorded [] calls next)) q after;
        }
      where
        keeps : (b : Answer) → TurnKeeps d b (StillDraft e) → (e.accuracy ≡ d.accuracy) × (e.end ≡ d.end)
        keeps (Ok tt) h = h
        keeps (Err f) h = let i : e ≡ d = cc in (ap (λ (x : Draft P R). x.accuracy) i, ap (λ (x : Draft P R). x.end) i)

    pub all_made : (s : Sealed P R) → t ≡ NowSealed s
        → Performed (setting K M T first) calls next (progress first) c₀ (sealed_progress s) c' × TurnAfter (recorded [] calls next) (NowSealed s)
    all_made s q =
        let o' = subst (λ (u : Turn P R). Outcome (setting K M T first) call (progress d) c a (turn_progress u) c') q agreed in
        let is' = subst (TurnIs call a) q is in (
          subst (λ (xs : List Answer). Performed (setting K M T first) calls xs (progress first) c₀ (sealed_progress s) c') (sym more)
              (performed_sealed (setting K M T first) calls (progress first) c₀ answers call a (progress d) (sealed_progress s) c c' v.underway here o' is'),
          subst (TurnAfter (recorded [] calls next)) q after,
        )
