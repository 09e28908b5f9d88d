-- What a draft and a sealed turn stand for.
use Rattle.std.specs.Prelude.{◌≡◌, ℕ, pos, ◌<ℤ◌, ◌⊎◌, Bool, true, false, cond, List, [], ◌∷◌, ◌++◌, drop, replicate, Ok, Err, Result}
use Rattle.ordinate.specs.Kinds.{Kind}
use Rattle.distance.specs.Measures.{Measure, blank}
use Rattle.bezier.specs.Reductions.{Rule}
use Rattle.leg.specs.Reasons.{Reason, because}
use Rattle.leg.specs.declared.leg.Leg.{Leg}
use Rattle.turn.specs.Calls.{Answer, Progress}
use Rattle.turn.specs.Settings.{Setting}
use Rattle.turn.specs.declared.refusal.Refusal.{Refusal}
use Rattle.curve.specs.declared.refusal.CurveRefusal.TheVariants.{Tolerance, Depth, TooBent, TooManyLegs}
use Rattle.turn.specs.declared.refusal.Refusal.TheVariants.{Curve, End}
use Rattle.planner.specs.declared.begin.Terms.{Terms}
use Rattle.planner.specs.declared.draft.Draft.{Draft}
use Rattle.planner.specs.declared.draft.Refused.{Refused}
use Rattle.planner.specs.declared.sealed.Sealed.{Sealed}

-- Why a draft is not begun: the tolerance is agreed from 1 to the limit, the depth from 0 to 10, the last tick from 1 to 65,536.
abbrev pub begin_reasons : Measure → Terms → List (Reason Refusal)
begin_reasons M terms =
    because ((terms.tolerance <ℤ pos 1) ⊎ (pos M.limit <ℤ terms.tolerance)) (Curve Tolerance)
    ∷ because ((terms.depth <ℤ pos 0) ⊎ (pos 10 <ℤ terms.depth)) (Curve Depth)
    ∷ because ((terms.end <ℤ pos 1) ⊎ (pos 65536 <ℤ terms.end)) End
    ∷ []

module _ {P R : Type 0} where
  abbrev pub progress : Draft P R → Progress P
  progress d = record { count = d.count; laid = d.laid; end_value = d.last }

  abbrev pub sealed_progress : Sealed P R → Progress P
  sealed_progress s = record { count = s.count; laid = s.laid; end_value = s.last }

  -- What is agreed for the turn.
  abbrev pub setting : Kind P → Measure → Rule P → Draft P R → Setting P
  setting K M R d = record { kind = K; measure = M; rule = R; tolerance = d.accuracy.tolerance; depth = d.accuracy.depth; end = d.end }

  -- What a call answered, whatever it hands back.
  abbrev pub answer : {A : Type 0} → Result A (Refused P R) → Answer
  answer (Ok _) = Ok tt
  answer (Err r) = Err r.refusal

  -- What a lay or a strike hands back.
  abbrev pub left : Result (Draft P R) (Refused P R) → Draft P R
  left (Ok d) = d
  left (Err r) = r.draft

  -- What is agreed never changes, and a refused call hands the draft back as it stood.
  abbrev pub HandsBack : Draft P R → Result (Draft P R) (Refused P R) → Type 0
  HandsBack d (Ok e) = (e.accuracy ≡ d.accuracy) × (e.end ≡ d.end)
  HandsBack d (Err r) = r.draft ≡ d

  -- The same of a seal.
  abbrev pub seal_left : Result (Sealed P R) (Refused P R) → Progress P
  seal_left (Ok s) = sealed_progress s
  seal_left (Err r) = progress r.draft

  abbrev pub SealKeeps : Draft P R → Result (Sealed P R) (Refused P R) → Type 0
  SealKeeps d (Ok s) = s.end ≡ d.end
  SealKeeps d (Err r) = r.draft ≡ d

abbrev pub StartsAt : {P : Type 0} → ℕ → Leg P → Type 0
StartsAt S l = l.stretch.from ≡ S

-- ---- laying

-- The halving of the curve was begun: nothing refused the lay, or only what the halving came to.
abbrev pub halving_begun : Answer → Bool
halving_begun (Ok _) = true
halving_begun (Err (Curve TooBent)) = true
halving_begun (Err (Curve TooManyLegs)) = true
halving_begun (Err f) = false

-- What is left of the work points: once the halving is begun the first W of them end at zero; the others, and all of them where it is not begun, stay.
abbrev pub work_left : {P : Type 0} → Kind P → Answer → ℕ → List P → List P
work_left K a W work = cond (halving_begun a) (replicate W (blank K) ++ drop W work) work
