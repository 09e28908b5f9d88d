-- Calls that were made on a turn in the making.
use Rattle.std.proofs.Common.{◌≡◌, inr, ℕ, length, ℤ, pos, Ok, Err, sym, refl, ap, subst, ◌∙◌}
use Rattle.ordinate.specs.Kinds.{Kind}
use Rattle.distance.specs.Measures.{Measure}
use Rattle.bezier.specs.Reductions.{Rule}
use Rattle.curve.specs.declared.accuracy.Accuracy.{Accuracy}
use Rattle.outlet.specs.Outlets.{Contents}
use Rattle.turn.specs.Calls.{Answer, Call, Progress, lay, strike, seal}
use Rattle.turn.specs.Outcomes.{Outcome}
use Rattle.turn.specs.Settings.{Setting}
use Rattle.planner.specs.Drafts.{progress, setting}
use Rattle.planner.specs.Runs.{TurnIs, TurnKeeps, agreed, agreed_number, lent, turn_progress}
use Rattle.planner.specs.declared.begin.Terms.{Terms}
use Rattle.planner.specs.declared.draft.Draft.{Draft}
use Rattle.planner.specs.declared.run.Turn.{Turn}
use Rattle.planner.specs.declared.run.Turn.TheVariants.{Draft as StillDraft, Sealed as NowSealed}
use Rattle.planner.proofs.Agreed.{by_terms}
use Rattle.plan_session.specs.Agreed.{Agrees}
use Rattle.plan_session.specs.Makings.{AnswersOpen, Made, is_sealed, reply_to, seals}
use Rattle.plan_session.specs.declared.reply.Reply.{Reply}

abbrev BySaid : {P R : Type 0} → Terms → Draft P R → Type 0
BySaid terms d = (pos d.accuracy.tolerance ≡ terms.tolerance) × (pos d.accuracy.depth ≡ terms.depth) × (pos d.end ≡ terms.end)

abbrev draft_of : {P R : Type 0} → Draft P R → Turn P R → Draft P R
draft_of d (StillDraft e) = e
draft_of d (NowSealed s) = d

-- What is agreed stays so through a call.
pub agrees_kept : {P R : Type 0} (terms : Terms) (d : Draft P R) (a : Answer) (t : Turn P R) → BySaid terms d → TurnKeeps d a t → Agrees terms t
agrees_kept {P} {R} terms d (Ok u) (StillDraft e) h k =
    λ x q. subst (λ (y : Draft P R). BySaid terms y) (ap (draft_of e) q)
    (ap (λ (y : Accuracy). pos y.tolerance) k.0 ∙ h.0, ap (λ (y : Accuracy). pos y.depth) k.0 ∙ h.1, ap (λ (y : ℕ). pos y) k.1 ∙ h.2)
agrees_kept terms d (Ok u) (NowSealed s) h k = λ x q. absurd cc
agrees_kept {P} {R} terms d (Err f) t h k = λ x q. subst (λ (y : Draft P R). BySaid terms y) (ap (draft_of d) (sym k ∙ q)) h

-- A turn is sealed by an accepted seal alone.
sealed_by : {P R : Type 0} (n : ℕ) (call : Call P) (a : Answer) (t : Turn P R) → TurnIs call a t → is_sealed t ≡ seals (lent n call) a
sealed_by n (lay ps l work) a (StillDraft d) h = refl
sealed_by n strike a (StillDraft d) h = refl
sealed_by n seal (Ok u) (StillDraft d) h = absurd (h tt)
sealed_by n seal (Err f) (StillDraft d) h = refl
sealed_by n (lay ps l work) a (NowSealed s) h = absurd h
sealed_by n strike a (NowSealed s) h = absurd h
sealed_by n seal (Ok u) (NowSealed s) h = refl
sealed_by n seal (Err f) (NowSealed s) h = absurd h

-- A seal leaves the legs, so that they may be counted after it.
same_reply : {P : Type 0} (A : Setting P) (n end : ℕ) (call : Call P) (a : Answer) (g g' : Progress P) (c c' : Contents P) → Outcome A (lent n call) g c a g' c'
    → reply_to (length c'.legs) end call a ≡ reply_to (length c.legs) end (lent n call) a
same_reply A n end (lay ps l work) (Ok u) g g' c c' o = refl
same_reply A n end (lay ps l work) (Err f) g g' c c' o = refl
same_reply A n end strike (Ok u) g g' c c' o = refl
same_reply A n end strike (Err f) g g' c c' o = refl
same_reply {P} A n end seal (Ok u) g g' c c' o = let s : Call P = seal in ap (λ (x : Contents P). reply_to (length x.legs) end s (Ok u)) o.effect.1
same_reply A n end seal (Err f) g g' c c' o = refl

module _ {P R : Type 0} (K : Kind P) (M : Measure) (T : Rule P) (terms : Terms) where
  abbrev of : Turn P R → Contents P → Made P
  of t c = record { setting = agreed K M T terms; progress = turn_progress t; contents = c; sealed = is_sealed t }

  -- The call was made with n work points, the legs were counted after it, and the line is answered so.
  pub called : (t t' : Turn P R) (d : Draft P R) (c c₁ c₂ : Contents P) (n m legs end : ℕ) (call : Call P) (a : Answer) (r : Reply)
      → t ≡ StillDraft d → BySaid terms d → pos end ≡ terms.end → n ≡ m → Outcome (setting K M T d) (lent n call) (progress d) c a (turn_progress t') c₁ → TurnIs call a t'
      → legs ≡ length c₁.legs → c₂ ≡ c₁ → r ≡ reply_to legs end call a → AnswersOpen (of t c) (lent m call) r (of t' c₂)
  called t t' d c c₁ c₂ n m legs end call a r e h q nm o ti el same er =
      subst (λ (x : Contents P). AnswersOpen (of t c) (lent m call) r (of t' x)) (sym same)
      (subst (λ (x : ℕ). AnswersOpen (of t c) (lent x call) r (of t' c₁)) nm (inr (ap is_sealed e, (a, record { outcome = o₂; setting = refl; sealed = sealed_by n call a t' ti }, answered))))
    where
      o₁ : Outcome (agreed K M T terms) (lent n call) (progress d) c a (turn_progress t') c₁
      o₁ = subst (λ (S : Setting P). Outcome S (lent n call) (progress d) c a (turn_progress t') c₁) (by_terms K M T d terms h.0 h.1 h.2) o

      o₂ : Outcome (agreed K M T terms) (lent n call) (turn_progress t) c a (turn_progress t') c₁
      o₂ = subst (λ (x : Turn P R). Outcome (agreed K M T terms) (lent n call) (turn_progress x) c a (turn_progress t') c₁) (sym e) o₁

      answered : r ≡ reply_to (length c.legs) (agreed_number terms.end) (lent n call) a
      answered =
          er ∙ ap (λ (x : ℕ). reply_to x end call a) el ∙ same_reply _ n end call a _ _ c c₁ o
          ∙ ap (λ (x : ℤ). reply_to (length c.legs) (agreed_number x) (lent n call) a) q
