-- The legs that are kept while a card is read.
use Rattle.std.proofs.Common.{◌≡◌, List, [], ◌∷◌, ◌++◌, Ok, Err, Result, vec_items, sym, ap, ◌∙◌, append_assoc, append-nil}
use Rattle.std.specs.Global.{Vec}
use Rattle.std.specs.List.{FoldsTo}
use Rattle.std.proofs.lemmas.Fn.{chained_keeps}
use Rattle.leg.specs.declared.leg.Leg.{Leg}
use Rattle.card.specs.Answers.{Kept}

module _ {P E : Type 0} (start : Vec (Leg P)) where
  abbrev Holds : List (Leg P) → Result (Vec (Leg P)) E → Type 0
  Holds ls (Ok legs) = vec_items legs ≡ vec_items start ++ ls
  Holds ls (Err short) = Unit {0}

  holds_more : (ls : List (Leg P)) (before : Result (Vec (Leg P)) E) (l : Leg P) (after : Result (Vec (Leg P)) E) → Holds ls before → Kept before l after → Holds (ls ++ (l ∷ [])) after
  holds_more ls (Ok before) l (Ok after) h k = k ∙ ap (λ (ms : List (Leg P)). ms ++ (l ∷ [])) h ∙ append_assoc (vec_items start) ls (l ∷ [])
  holds_more ls (Err short) l (Ok after) h k = absurd k
  holds_more ls (Ok before) l (Err short) h k = tt
  holds_more ls (Err before) l (Err short) h k = tt

  pub kept_all : (R : Result (Vec (Leg P)) E → Leg P → Result (Vec (Leg P)) E → Type 0) → ((before : Result (Vec (Leg P)) E) (l : Leg P) (after : Result (Vec (Leg P)) E) → R before l after → Kept before l after)
      → (ls : List (Leg P)) (kept : Result (Vec (Leg P)) E) → FoldsTo R (Ok start) ls kept → (legs : Vec (Leg P)) → kept ≡ Ok legs → vec_items legs ≡ vec_items start ++ ls
  kept_all R keeps ls kept f legs e =
      let all = chained_keeps R Holds (λ ls before l after h r. holds_more ls before l after h (keeps before l after r)) ls (Ok start) kept (sym (append-nil (vec_items start))) f in
      rw e at all
