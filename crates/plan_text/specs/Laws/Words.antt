-- Each kind, reduction and form has a word of its own.
use Rattle.std.proofs.Common.{◌≡◌, ℕ, ◌<◌, List, [], ◌∷◌, Contains, length, get_or, ℤ, pos, negsuc, sym, refl, ap, subst, arith}
use Rattle.std.specs.Str.Parse.{AllDigits}
use Rattle.std.proofs.lemmas.Str.Parse.{digit_from_value}
use Rattle.std.proofs.lemmas.Fmt.{decimal_is_IsNumeral}
use Rattle.decimal.specs.Numbers.{text_of, HasFewDigits}
use Rattle.plan_text.specs.declared.form.Kind.{Kind}
use Rattle.plan_text.specs.declared.form.Kind.TheVariants.{Flow, Box}
use Rattle.plan_text.specs.declared.form.Legs.{Legs}
use Rattle.plan_text.specs.declared.form.Legs.TheVariants.{Chord, Matching}
use Rattle.plan_text.specs.declared.head.Head.{Head}
use Rattle.plan_text.specs.declared.head.Head.TheVariants.{Turn, Span, Strike, Seal}
use Rattle.plan_text.specs.Lexing.{ArePlain, IsWord}
use Rattle.plan_text.specs.Forms.{kind_word, legs_word}
use Rattle.plan_text.specs.Reading.{head_word}

-- a word whose first octet is past the digits is no number
pub name_word : (b : ℕ) (bs : List ℕ) → 57 < b → ArePlain (b ∷ bs) → IsWord (b ∷ bs)
name_word b bs h p = (omega arith, p, no_number)
  where
    no_number : (z : ℤ) → HasFewDigits z → b ∷ bs ≡ text_of z → ⊥
    no_number (pos n) s e = let d = subst (AllDigits 10) (sym e) (decimal_is_IsNumeral n (omega arith)).0.1 in omega (arith, (digit_from_value b d.0).1)
    no_number (negsuc n) s e = (let d : b ≡ 45 = cc in omega arith)

abbrev pub kinds : List Kind
kinds = Flow ∷ Box ∷ []

abbrev pub ways : List Legs
ways = Chord ∷ Matching ∷ []

abbrev pub heads : List Head
heads = Turn ∷ Span ∷ Strike ∷ Seal ∷ []

pub every_kind : (k : Kind) → Contains kinds k
every_kind Flow = (0, omega arith, refl)
every_kind Box = (1, omega arith, refl)

pub every_way : (g : Legs) → Contains ways g
every_way Chord = (0, omega arith, refl)
every_way Matching = (1, omega arith, refl)

pub every_head : (h : Head) → Contains heads h
every_head Turn = (0, omega arith, refl)
every_head Span = (1, omega arith, refl)
every_head Strike = (2, omega arith, refl)
every_head Seal = (3, omega arith, refl)

pub kinds_are_words : (k : Kind) → IsWord (kind_word k)
kinds_are_words Flow = name_word 102 (108 ∷ 111 ∷ 119 ∷ []) (omega arith) (refl, (refl, (refl, (refl, tt))))
kinds_are_words Box = name_word 98 (111 ∷ 120 ∷ []) (omega arith) (refl, (refl, (refl, tt)))

pub legs_are_words : (g : Legs) → IsWord (legs_word g)
legs_are_words Chord = name_word 99 (104 ∷ 111 ∷ 114 ∷ 100 ∷ []) (omega arith) (refl, (refl, (refl, (refl, (refl, tt)))))
legs_are_words Matching = name_word 109 (97 ∷ 116 ∷ 99 ∷ 104 ∷ 105 ∷ 110 ∷ 103 ∷ []) (omega arith) (refl, (refl, (refl, (refl, (refl, (refl, (refl, (refl, tt))))))))

pub kinds_apart : (j k : Kind) → kind_word j ≡ kind_word k → j ≡ k
kinds_apart Flow Flow e = refl
kinds_apart Flow Box e = absurd (omega (arith, ap length e))
kinds_apart Box Flow e = absurd (omega (arith, ap length e))
kinds_apart Box Box e = refl

pub legs_apart : (f g : Legs) → legs_word f ≡ legs_word g → f ≡ g
legs_apart Chord Chord e = refl
legs_apart Chord Matching e = absurd (omega (arith, ap length e))
legs_apart Matching Chord e = absurd (omega (arith, ap length e))
legs_apart Matching Matching e = refl

pub heads_are_words : (h : Head) → IsWord (head_word h)
heads_are_words Turn = name_word 116 (117 ∷ 114 ∷ 110 ∷ []) (omega arith) (refl, (refl, (refl, (refl, tt))))
heads_are_words Span = name_word 115 (112 ∷ 97 ∷ 110 ∷ []) (omega arith) (refl, (refl, (refl, (refl, tt))))
heads_are_words Strike = name_word 115 (116 ∷ 114 ∷ 105 ∷ 107 ∷ 101 ∷ []) (omega arith) (refl, (refl, (refl, (refl, (refl, (refl, tt))))))
heads_are_words Seal = name_word 115 (101 ∷ 97 ∷ 108 ∷ []) (omega arith) (refl, (refl, (refl, (refl, tt))))

-- the octet k of a word
abbrev letter : ℕ → List ℕ → ℕ
letter k w = get_or w k 0

pub heads_apart : (g h : Head) → head_word g ≡ head_word h → g ≡ h
heads_apart Turn Turn e = refl
heads_apart Turn Span e = absurd (omega (arith, ap (letter 0) e))
heads_apart Turn Strike e = absurd (omega (arith, ap (letter 0) e))
heads_apart Turn Seal e = absurd (omega (arith, ap (letter 0) e))
heads_apart Span Turn e = absurd (omega (arith, ap (letter 0) e))
heads_apart Span Span e = refl
heads_apart Span Strike e = absurd (omega (arith, ap (letter 1) e))
heads_apart Span Seal e = absurd (omega (arith, ap (letter 1) e))
heads_apart Strike Turn e = absurd (omega (arith, ap (letter 0) e))
heads_apart Strike Span e = absurd (omega (arith, ap (letter 1) e))
heads_apart Strike Strike e = refl
heads_apart Strike Seal e = absurd (omega (arith, ap (letter 1) e))
heads_apart Seal Turn e = absurd (omega (arith, ap (letter 0) e))
heads_apart Seal Span e = absurd (omega (arith, ap (letter 1) e))
heads_apart Seal Strike e = absurd (omega (arith, ap (letter 1) e))
heads_apart Seal Seal e = refl
