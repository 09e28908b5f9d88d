-- The first line of a text.
use Rattle.std.proofs.Common.{◌≡◌, ◌≢◌, ℕ, suc, ◌+◌, ◌-◌, ◌<◌, cond, List, [], ◌∷◌, ◌++◌, length, get_or, take, drop, sym, refl, ap, ◌∙◌, inl, inr, suc-le-suc, arith, take-append-drop}
use Rattle.std.specs.List.{All}
use Rattle.std.proofs.lemmas.Bool.{ne_eqb}
use Rattle.std.proofs.lemmas.List.{get_or-take, get_or_default, length-take-le, drop_more, length-drop, take_rest, drop_all}
use Rattle.plan_text.specs.Lines.{with_front, lines_of, IsFirstLine}

abbrev IsBare : List ℕ → Type 0
IsBare line = All (λ b. b ≢ 10) line

bare_tail : (b : ℕ) (bs : List ℕ) → IsBare (b ∷ bs) → IsBare bs
bare_tail b bs h k d l = h (suc k) d (suc-le-suc l)

one_octet_more : (b : ℕ) (bs : List ℕ) → b ≢ 10 → lines_of (b ∷ bs) ≡ with_front b (lines_of bs)
one_octet_more b bs n = ap (λ t. cond t ([] ∷ lines_of bs) (with_front b (lines_of bs))) (ne_eqb b 10 n)

ended_line : (line rest : List ℕ) → IsBare line → lines_of (line ++ (10 ∷ rest)) ≡ line ∷ lines_of rest
ended_line [] rest h = refl
ended_line (b ∷ bs) rest h = one_octet_more b (bs ++ (10 ∷ rest)) (h 0 0 (omega arith)) ∙ ap (with_front b) (ended_line bs rest (bare_tail b bs h))

last_line : (b : ℕ) (bs : List ℕ) → IsBare (b ∷ bs) → lines_of (b ∷ bs) ≡ (b ∷ bs) ∷ []
last_line b [] h = one_octet_more b [] (h 0 0 (omega arith))
last_line b (c ∷ cs) h = one_octet_more b (c ∷ cs) (h 0 0 (omega arith)) ∙ ap (with_front b) (last_line c cs (bare_tail b (c ∷ cs) h))

pub first_line : (text : List ℕ) (i : ℕ) → i < length text → get_or text i 0 ≡ 10 → ((k : ℕ) → k < i → get_or text k 0 ≢ 10) → IsFirstLine text (take i text) (take (length text - (i + 1)) (drop (i + 1) text))
first_line text i here feed before =
    let rest : take (length text - (i + 1)) (drop (i + 1) text) ≡ drop (i + 1) text = take_rest text (i + 1) in
    let whole : text ≡ take i text ++ (10 ∷ drop (i + 1) text) = sym (take-append-drop i text) ∙ ap (λ l. take i text ++ l) (drop_more text i 0 here ∙ ap (λ b. b ∷ drop (i + 1) text) feed) in
    let lines : lines_of text ≡ take i text ∷ lines_of (drop (i + 1) text) = ap lines_of whole ∙ ended_line (take i text) (drop (i + 1) text) bare in
    rw rest (record { bare = bare; whole = inl whole; lines = lines; shorter = omega (arith, length-drop (i + 1) text) })
  where
    bare : IsBare (take i text)
    bare k d l =
        let small : k < i = omega (arith, length-take-le i text (omega arith)) in
        rw (get_or-take i text k d small, get_or_default text k d 0 (omega arith)) (before k small)

pub only_line : (text : List ℕ) → (length text ≡ 0 → ⊥) → ((k : ℕ) → k < length text → get_or text k 0 ≢ 10) → IsFirstLine text text (take (length text - length text) (drop (length text) text))
only_line [] some none = absurd (some refl)
only_line (b ∷ bs) some none =
    let rest : take (length (b ∷ bs) - length (b ∷ bs)) (drop (length (b ∷ bs)) (b ∷ bs)) ≡ [] = take_rest (b ∷ bs) (length (b ∷ bs)) ∙ drop_all (length (b ∷ bs)) (b ∷ bs) (omega arith) in
    rw rest (record { bare = bare; whole = inr (refl, refl); lines = last_line b bs bare; shorter = omega arith })
  where
    bare : IsBare (b ∷ bs)
    bare k d l = rw (get_or_default (b ∷ bs) k d 0 l) (none k l)
