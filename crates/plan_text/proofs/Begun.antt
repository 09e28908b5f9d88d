-- A line written item by item.
use Rattle.std.proofs.Common.{◌≡◌, ℕ, ◌+◌, List, [], ◌∷◌, ◌++◌, length, drop, sym, ap, ◌∙◌, subst, append_assoc, append-nil, zero-add, arith}
use Rattle.decimal.specs.Places.{over}
use Rattle.plan_text.specs.declared.form.At.{At}
use Rattle.plan_text.specs.Texts.{spaced, listed}
use Rattle.plan_text.specs.Forms.{at_text}
use Rattle.plan_text.proofs.Over.{Wrote, wrote_more}
use Rattle.plan_text.proofs.Spacing.{spaced_append}

-- The start of the line was written: its name and these items.
abbrev pub Begun : List ℕ → List ℕ → List (List ℕ) → List ℕ → ℕ → Type 0
Begun before name items buffer end = Wrote before 0 ((40 ∷ name) ++ spaced items) buffer end

pub begin : (before name : List ℕ) (b : List ℕ) (n : ℕ) → b ≡ over before 0 (40 ∷ name) → n ≡ 0 + length (40 ∷ name) → Begun before name [] b n
begin before name b n e f = record { written = e ∙ ap (over before 0) same; end_is = f ∙ ap (λ t. 0 + length t) same }
  where
    same : 40 ∷ name ≡ (40 ∷ name) ++ []
    same = ap (λ t. 40 ∷ t) (sym (append-nil name))

pub begin_item : (before name : List ℕ) (items : List (List ℕ)) (item : List ℕ) (b c : List ℕ) (m n : ℕ)
    → Begun before name items b m → c ≡ over b m (spaced (item ∷ [])) → n ≡ m + length (spaced (item ∷ [])) → Begun before name (items ++ (item ∷ [])) c n
begin_item before name items item b c m n s e f =
    subst (λ t. Wrote before 0 t c n) (append_assoc (40 ∷ name) (spaced items) (spaced (item ∷ [])) ∙ ap (λ t. (40 ∷ name) ++ t) (sym (spaced_append items (item ∷ []))))
    (wrote_more before 0 ((40 ∷ name) ++ spaced items) (spaced (item ∷ [])) b c m n (omega arith) s e f)

-- the same for an `at` that was written under another name
pub begin_at : (before name : List ℕ) (items : List (List ℕ)) (at told : At) (b c : List ℕ) (m n : ℕ)
    → Begun before name items b m → told ≡ at → c ≡ over b m (spaced (at_text told ∷ [])) → n ≡ m + length (spaced (at_text told ∷ [])) → Begun before name (items ++ (at_text at ∷ [])) c n
begin_at before name items at told b c m n s same e f =
    subst (λ a. Begun before name (items ++ (at_text a ∷ [])) c n) same (begin_item before name items (at_text told) b c m n s e f)

-- The bracket and the line feed end it.
pub record Done (before line buffer : List ℕ) (length_is : ℕ) : Type 0 where
  pub size : length_is ≡ length line
  pub whole : buffer ≡ line ++ drop (length line) before

pub finish : (before name : List ℕ) (items : List (List ℕ)) (b c : List ℕ) (m n : ℕ)
    → Begun before name items b m → c ≡ over b m (41 ∷ 10 ∷ []) → n ≡ m + 2 → Done before (listed name items ++ (10 ∷ [])) c n
finish before name items b c m n s e f =
    let text : List ℕ = listed name items ++ (10 ∷ []) in
    let w = subst (λ t. Wrote before 0 t c n) (line name (spaced items)) (wrote_more before 0 ((40 ∷ name) ++ spaced items) (41 ∷ 10 ∷ []) b c m n (omega arith) s e f) in
    record { size = w.end_is ∙ zero-add (length text); whole = w.written ∙ ap (λ k. text ++ drop k before) (zero-add (length text)) }
  where
    line : (name items : List ℕ) → ((40 ∷ name) ++ items) ++ (41 ∷ 10 ∷ []) ≡ 40 ∷ ((name ++ (items ++ (41 ∷ []))) ++ (10 ∷ []))
    line name items = simp append_assoc
