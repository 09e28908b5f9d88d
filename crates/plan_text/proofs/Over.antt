-- Texts written over a buffer, one behind another.
use Rattle.std.proofs.Common.{◌≡◌, ℕ, ◌+◌, ◌≤◌, List, [], ◌++◌, length, take, drop, sym, ap, ◌∙◌, ap₂, append_assoc, add_assoc, add-zero, length-append, take-append-drop}
use Rattle.std.proofs.lemmas.List.{take_at, drop_at, drop-drop, length-take-le}
use Rattle.decimal.specs.Places.{over}

-- From the place on, the text was written over what was there before, and it ends at the end.
pub record Wrote (before : List ℕ) (place : ℕ) (text : List ℕ) (buffer : List ℕ) (end : ℕ) : Type 0 where
  pub written : buffer ≡ over before place text
  pub end_is : end ≡ place + length text

pub wrote_nothing : (before : List ℕ) (place : ℕ) → Wrote before place [] before place
wrote_nothing before place =
    record {
      written = sym (take-append-drop place before) ∙ ap (λ k. take place before ++ drop k before) (sym (add-zero place));
      end_is = sym (add-zero place);
    }

over_over : (out : List ℕ) (at : ℕ) (s t : List ℕ) → at ≤ length out → over (over out at s) (at + length s) t ≡ over out at (s ++ t)
over_over out at s t h =
    let p : List ℕ = take at out ++ s in
    let q : List ℕ = drop (at + length s) out in
    let n : ℕ = at + length s in
    let long : length p ≡ n = length-append (take at out) s ∙ ap (λ k. k + length s) (length-take-le at out h) in
    let split : over out at s ≡ p ++ q = sym (append_assoc (take at out) s q) in
    let front : take n (over out at s) ≡ p = ap (take n) split ∙ take_at p q n long in
    let back : drop (n + length t) (over out at s) ≡ drop (at + length (s ++ t)) out =
    sym (drop-drop (length t) n (over out at s)) ∙ ap (drop (length t)) (ap (drop n) split ∙ drop_at p q n long) ∙ drop-drop (length t) n out ∙ ap (λ k. drop k out) (add_assoc at (length s) (length t) ∙ ap (λ k. at + k) (sym (length-append s t))) in
    ap₂ (λ a b. a ++ (t ++ b)) front back ∙ append_assoc (take at out) s _ ∙ ap (λ l. take at out ++ l) (sym (append_assoc s t _))

-- one text more
pub wrote_more : (before : List ℕ) (place : ℕ) (s t : List ℕ) (b c : List ℕ) (m n : ℕ) → place ≤ length before
    → Wrote before place s b m → c ≡ over b m t → n ≡ m + length t → Wrote before place (s ++ t) c n
wrote_more before place s t b c m n within w e f =
    record {
      written = e ∙ ap₂ (λ o i. over o i t) w.written w.end_is ∙ over_over before place s t within;
      end_is = f ∙ ap (λ k. k + length t) w.end_is ∙ add_assoc place (length s) (length t) ∙ ap (λ k. place + k) (sym (length-append s t));
    }
