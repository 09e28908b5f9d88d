-- Legs kept one after another: where none came, what was kept before.
use Rattle.std.specs.Prelude.{◌≡◌, Bool, false, List, [], ◌++◌}
use Rattle.std.proofs.Common.{sym}
use Rattle.std.proofs.lemmas.List.{append-nil}

-- What was kept of items that came one after another: all of them, unless memory ran short.
abbrev pub CollectedFrom : {A : Type 0} → List A → Bool → List A → List A → Bool → Type 0
CollectedFrom before short came after short' = short ≡ false → short' ≡ false → after ≡ before ++ came

pub collected_none : {A : Type 0} (xs : List A) (short : Bool) → CollectedFrom xs short [] xs short
collected_none xs short before after = sym (append-nil xs)
