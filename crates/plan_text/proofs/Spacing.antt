-- The numbers of an item, one behind another.
use Rattle.std.proofs.Common.{◌≡◌, ℕ, ◌+◌, ◌<◌, ◌≤◌, List, [], ◌∷◌, ◌++◌, map, length, get_or, take, drop, sym, refl, ap, ◌∙◌, append_assoc, append-nil, arith, length-append, take-append-drop}
use Rattle.std.proofs.lemmas.List.{take_all, take_more, drop_more, map-append}
use Rattle.plan_text.specs.Texts.{spaced}

pub spaced_append : (xs ys : List (List ℕ)) → spaced (xs ++ ys) ≡ spaced xs ++ spaced ys
spaced_append [] ys = refl
spaced_append (x ∷ xs) ys = ap (λ t. 32 ∷ (x ++ t)) (spaced_append xs ys) ∙ ap (λ t. 32 ∷ t) (sym (append_assoc x (spaced xs) (spaced ys)))

module _ {X : Type 0} (text : X → List ℕ) (xs : List X) (i : ℕ) (x : X) (here : i < length xs) (is : x ≡ get_or xs i x) where
  pub one_more : spaced (map text (take (i + 1) xs)) ≡ (spaced (map text (take i xs)) ++ (32 ∷ [])) ++ text x
  one_more =
      ap (λ ys. spaced (map text ys)) (take_more xs i x here ∙ ap (λ y. take i xs ++ (y ∷ [])) (sym is))
      ∙ ap spaced (map-append text (take i xs) (x ∷ []))
      ∙ spaced_append (map text (take i xs)) (text x ∷ [])
      ∙ ap (λ t. spaced (map text (take i xs)) ++ (32 ∷ t)) (append-nil (text x))
      ∙ sym (append_assoc (spaced (map text (take i xs))) (32 ∷ []) (text x))

  split : spaced (map text xs) ≡ spaced (map text (take i xs)) ++ (32 ∷ (text x ++ spaced (map text (drop (i + 1) xs))))
  split =
      ap (λ ys. spaced (map text ys)) (sym (take-append-drop i xs) ∙ ap (λ ys. take i xs ++ ys) (drop_more xs i x here ∙ ap (λ y. y ∷ drop (i + 1) xs) (sym is)))
      ∙ ap spaced (map-append text (take i xs) (x ∷ drop (i + 1) xs))
      ∙ spaced_append (map text (take i xs)) (text x ∷ map text (drop (i + 1) xs))

  pub room : length (spaced (map text (take i xs))) + 1 + length (text x) ≤ length (spaced (map text xs))
  room =
      omega (
        arith,
        ap length split,
        length-append (spaced (map text (take i xs))) (32 ∷ (text x ++ spaced (map text (drop (i + 1) xs)))),
        length-append (text x) (spaced (map text (drop (i + 1) xs))),
      )

pub all_spaced : {X : Type 0} (text : X → List ℕ) (xs : List X) (i : ℕ) → length xs ≤ i → spaced (map text (take i xs)) ≡ spaced (map text xs)
all_spaced text xs i h = ap (λ ys. spaced (map text ys)) (take_all i xs h)
