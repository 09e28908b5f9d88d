use Rattle.std.proofs.Common.{◌≡◌, List, length, None}
use Rattle.std.specs.List.{FoldsTo}
use Rattle.leg.specs.Chains.{last_or}
use Rattle.leg.specs.declared.leg.Leg.{Leg}
use Rattle.card.specs.Cards.{Reads}
use Rattle.card.proofs.walk.fold_records.Given as goal

abbrev pub invariant-loop-i : goal.invariant-loop-i
invariant-loop-i g l =
    (ls : List (Leg g.row.P.Denot)) × Reads g.P.Ordinate.kind l.card 0 None ls × (length ls ≡ l.i) × (l.chain.last ≡ last_or None ls)
    × FoldsTo (λ a x b. goal.F-post g l.step a x b) l.initial.folded ls l.folded
