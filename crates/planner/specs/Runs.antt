-- What becomes of a draft by a list of calls.
use Rattle.std.specs.Prelude.{◌≡◌, ℕ, min, List, [], ◌∷◌, ◌++◌, codes, ℤ, pos, negsuc, Some, None, Option, Ok, Err, Result}
use Rattle.ordinate.specs.Kinds.{Kind}
use Rattle.distance.specs.Measures.{Measure}
use Rattle.bezier.specs.Reductions.{Rule}
use Rattle.curve.specs.Refusals.{work_wanted}
use Rattle.turn.specs.Calls.{Answer, Call, History, Progress, Seals, lay, strike, seal}
use Rattle.turn.specs.Settings.{Setting}
use Rattle.turn.specs.Refusals.{printed}
use Rattle.turn.specs.declared.refusal.Refusal.{Refusal}
use Rattle.planner.specs.Drafts.{progress, sealed_progress, work_left}
use Rattle.planner.specs.declared.begin.Terms.{Terms}
use Rattle.planner.specs.declared.draft.Draft.{Draft}
use Rattle.planner.specs.declared.draft.Refused.{Refused}
use Rattle.planner.specs.declared.run.Course.{Course}
use Rattle.planner.specs.declared.run.RunError.{RunError}
use Rattle.planner.specs.declared.run.RunError.TheVariants.{NoMemory}
use Rattle.planner.specs.declared.run.RunError.TheVariants.{Refused as TermsRefused}
use Rattle.planner.specs.declared.run.Turn.{Turn}
use Rattle.planner.specs.declared.run.Turn.TheVariants.{Draft as StillDraft, Sealed as NowSealed}

-- A number of the terms; those that are agreed are from 0 on.
abbrev pub agreed_number : ℤ → ℕ
agreed_number (pos n) = n
agreed_number (negsuc n) = 0

-- What is agreed by these terms.
abbrev pub agreed : {P : Type 0} → Kind P → Measure → Rule P → Terms → Setting P
agreed K M R terms = record { kind = K; measure = M; rule = R; tolerance = agreed_number terms.tolerance; depth = agreed_number terms.depth; end = agreed_number terms.end }

module _ {P R : Type 0} where
  abbrev pub turn_progress : Turn P R → Progress P
  turn_progress (StillDraft d) = progress d
  turn_progress (NowSealed s) = sealed_progress s

  -- The turn is sealed exactly where this call was a seal, and accepted.
  abbrev pub TurnIs : Call P → Answer → Turn P R → Type 0
  TurnIs call a (StillDraft d) = Seals call a → ⊥
  TurnIs call a (NowSealed s) = Seals call a

  -- So it is after a list of calls: sealed exactly where the last of them was an accepted seal.
  abbrev pub TurnAfter : History P → Turn P R → Type 0
  TurnAfter [] (StillDraft d) = Unit {0}
  TurnAfter [] (NowSealed s) = ⊥
  TurnAfter (x ∷ h) t = TurnIs x.0 x.1 t

  -- Why the terms were refused, if they were.
  abbrev pub first_refusal : Result (Course P R) RunError → Option Refusal
  first_refusal (Ok r) = None
  first_refusal (Err (TermsRefused f)) = Some f
  first_refusal (Err NoMemory) = None

  -- ---- one call, made from its data

  -- What a call hands back, as a turn.
  abbrev pub as_turn : {A : Type 0} → (A → Turn P R) → Result A (Refused P R) → Result (Turn P R) (Refused P R)
  as_turn f (Ok x) = Ok (f x)
  as_turn f (Err r) = Err r

  -- What a call that hands a turn back leaves.
  abbrev pub turn_left : Result (Turn P R) (Refused P R) → Turn P R
  turn_left (Ok t) = t
  turn_left (Err r) = StillDraft r.draft

  -- What is agreed never changes, and a refused call hands the draft back as it stood.
  abbrev pub TurnKeeps : Draft P R → Answer → Turn P R → Type 0
  TurnKeeps d (Ok _) (StillDraft e) = (e.accuracy ≡ d.accuracy) × (e.end ≡ d.end)
  TurnKeeps d (Ok _) (NowSealed s) = s.end ≡ d.end
  TurnKeeps d (Err f) t = t ≡ StillDraft d

-- The call, where so many work points are lent: a lay uses no more of them than it may.
abbrev pub lent : {P : Type 0} → ℕ → Call P → Call P
lent n (lay ps l work) = lay ps l (min n work)
lent n strike = strike
lent n seal = seal

-- What is left of the lent work points: only a lay uses any.
abbrev pub work_after : {P : Type 0} → Kind P → Measure → Rule P → ℕ → Call P → Answer → List P → List P
work_after K M R D (lay ps l work) a points = work_left K a (work_wanted K M R D ps) points
work_after K M R D strike a points = points
work_after K M R D seal a points = points

-- ---- printing

-- How it is printed why no call was made.
abbrev pub printed_error : RunError → List ℕ
printed_error (TermsRefused f) = codes "begin " ++ printed f
printed_error NoMemory = codes "out of memory"
