-- From one mark taken to marks read.
use Rattle.std.proofs.Common.{◌≡◌, ℕ, ◌<◌, Bool, true, false, MatchOption, List, [], ◌∷◌, ◌++◌, length, ℤ, sym, refl, ap, ◌∙◌, subst, arith, length-append}
use Rattle.std.specs.Bool.{Decides, then_some}
use Rattle.std.specs.Borrow.{Bor}
use Rattle.std.proofs.lemmas.Bool.{false≢true}
use Rattle.plan_text.specs.declared.lexer.Lexer.{Lexer}
use Rattle.plan_text.specs.declared.token.Token.{Token}
use Rattle.plan_text.specs.declared.token.Token.TheVariants.{Open, Close, Word, Number}
use Rattle.plan_text.specs.Tokens.{Mark, opening, closing, word, number, gap, octets_of, spelled, opens, mark_of}
use Rattle.plan_text.specs.Lexing.{IsStopped, IsMark, Ends, Steps, Misses, left}
use Rattle.plan_text.specs.Reading.{Spells}
use Rattle.plan_text.proofs.Taken.{same_mark, head_same, some_signed}
use Rattle.decimal.proofs.Signs.{tail_same}

stops_spelled : (ms : List Mark) → IsStopped (spelled false ms)
stops_spelled [] = tt
stops_spelled (opening ∷ ms) = refl
stops_spelled (closing ∷ ms) = refl
stops_spelled (word w ∷ ms) = refl
stops_spelled (number z ∷ ms) = refl

pub ends_spelled : (u : Mark) (ms : List Mark) → Ends u (spelled (opens u) ms)
ends_spelled opening ms = tt
ends_spelled closing ms = tt
ends_spelled (word w) ms = stops_spelled ms
ends_spelled (number z) ms = stops_spelled ms

-- the gap before a mark tells nothing that the mark does not
pub same_gapped : (first : Bool) (m u : Mark) (x y : List ℕ) → IsMark m → IsMark u → Ends m x → Ends u y → gap first m ++ (octets_of m ++ x) ≡ gap first u ++ (octets_of u ++ y) → (m ≡ u) × (x ≡ y)
same_gapped true m u x y g h s t e = same_mark m u x y g h s t e
same_gapped false opening opening x y g h s t e = same_mark opening opening x y g h s t (tail_same 32 32 _ _ e)
same_gapped false opening closing x y g h s t e = absurd (omega (arith, head_same 32 41 _ _ e))
same_gapped false opening (word v) x y g h s t e = same_mark opening (word v) x y g h s t (tail_same 32 32 _ _ e)
same_gapped false opening (number v) x y g h s t e = same_mark opening (number v) x y g h s t (tail_same 32 32 _ _ e)
same_gapped false closing opening x y g h s t e = absurd (omega (arith, head_same 41 32 _ _ e))
same_gapped false closing closing x y g h s t e = same_mark closing closing x y g h s t e
same_gapped false closing (word v) x y g h s t e = absurd (omega (arith, head_same 41 32 _ _ e))
same_gapped false closing (number v) x y g h s t e = absurd (omega (arith, head_same 41 32 _ _ e))
same_gapped false (word w) opening x y g h s t e = same_mark (word w) opening x y g h s t (tail_same 32 32 _ _ e)
same_gapped false (word w) closing x y g h s t e = absurd (omega (arith, head_same 32 41 _ _ e))
same_gapped false (word w) (word v) x y g h s t e = same_mark (word w) (word v) x y g h s t (tail_same 32 32 _ _ e)
same_gapped false (word w) (number v) x y g h s t e = same_mark (word w) (number v) x y g h s t (tail_same 32 32 _ _ e)
same_gapped false (number z) opening x y g h s t e = same_mark (number z) opening x y g h s t (tail_same 32 32 _ _ e)
same_gapped false (number z) closing x y g h s t e = absurd (omega (arith, head_same 32 41 _ _ e))
same_gapped false (number z) (word v) x y g h s t e = same_mark (number z) (word v) x y g h s t (tail_same 32 32 _ _ e)
same_gapped false (number z) (number v) x y g h s t e = same_mark (number z) (number v) x y g h s t (tail_same 32 32 _ _ e)

pub step_over : (l l' : Lexer) (m n : Mark) → Steps l m l' → m ≡ n → Steps l n l'
step_over l l' m n s same = subst (λ u. Steps l u l') same s

pub only : (l l' : Lexer) (m : Mark) → Steps l m l' → (u : Mark) (ms : List Mark) → IsMark u → Spells l (u ∷ ms) → (u ≡ m) × Spells l' ms
only l l' m s u ms g e =
    let r = same_gapped l.first u m (spelled (opens u) ms) (left l') g s.takes.mark (ends_spelled u ms) s.takes.ends (sym e ∙ s.takes.whole) in
    (r.0, sym r.1 ∙ ap (λ f. spelled f ms) (ap opens r.0 ∙ sym s.first))

pub back : (l l' : Lexer) (m : Mark) → Steps l m l' → (ms : List Mark) → Spells l' ms → Spells l (m ∷ ms)
back l l' m s ms e = s.takes.whole ∙ ap (λ r. gap l.first m ++ (octets_of m ++ r)) (e ∙ ap (λ f. spelled f ms) s.first)

pub missed : (l : Lexer) (u : Mark) → Misses l u → (ms : List Mark) → IsMark u → Spells l (u ∷ ms) → ⊥
missed l u n ms g e = n (spelled (opens u) ms) (record { mark = g; ends = ends_spelled u ms; whole = e })

some_octets : (m : Mark) → IsMark m → 0 < length (octets_of m)
some_octets opening g = omega arith
some_octets closing g = omega arith
some_octets (word w) g = g.0
some_octets (number z) g = some_signed z g

pub shorter : (l l' : Lexer) (m : Mark) → Steps l m l' → length (left l') < length (left l)
shorter l l' m s = omega (arith, some_octets m s.takes.mark, ap length s.takes.whole, length-append (gap l.first m) (octets_of m ++ left l'), length-append (octets_of m) (left l'))

-- another mark stands here
pub other : (l l' : Lexer) (m u : Mark) → Steps l m l' → (u ≡ m → ⊥) → Misses l u
other l l' m u s n rest t = n (same_gapped l.first u m rest (left l') t.mark s.takes.mark t.ends s.takes.ends (sym t.whole ∙ s.takes.whole)).0

-- the mark that stands here is the wanted one, or not
pub passed : (l k : Lexer) (m u : Mark) (b : Bool) → Steps l m k → Decides b (m ≡ u) → MatchOption (then_some b k) (Misses l u) (λ rest. Steps l u rest)
passed l k m u true s d = step_over l k m u s (d.0 refl)
passed l k m u false s d = other l k m u s (λ e. false≢true (d.1 (sym e)))

-- ---- tokens that are not the mark

pub no_word : (t : Token) → ((w : Bor (List ℕ)) → t ≡ Word w → ⊥) → (v : List ℕ) → word v ≡ mark_of t → ⊥
no_word Open n v e = cc
no_word Close n v e = cc
no_word (Word w) n v e = n w refl
no_word (Number z) n v e = cc

pub no_number : (t : Token) → ((z : ℤ) → t ≡ Number z → ⊥) → (y : ℤ) → number y ≡ mark_of t → ⊥
no_number Open n y e = cc
no_number Close n y e = cc
no_number (Word w) n y e = cc
no_number (Number z) n y e = n z refl
