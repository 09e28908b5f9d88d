-- The terms of a turn that is being made.
use Rattle.std.specs.Prelude.{◌≡◌, pos}
use Rattle.planner.specs.declared.begin.Terms.{Terms}
use Rattle.planner.specs.declared.draft.Draft.{Draft}
use Rattle.planner.specs.declared.run.Turn.{Turn}
use Rattle.planner.specs.declared.run.Turn.TheVariants.{Draft as StillDraft}

-- What is agreed for a draft is what its terms say.
abbrev pub Agrees : {P R : Type 0} → Terms → Turn P R → Type 0
Agrees {P} {R} terms turn =
    (d : Draft P R) → turn ≡ StillDraft d → (pos d.accuracy.tolerance ≡ terms.tolerance) × (pos d.accuracy.depth ≡ terms.depth) × (pos d.end ≡ terms.end)
