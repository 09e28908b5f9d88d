-- A line is the text of at most one form.
use Rattle.std.proofs.Common.{◌≡◌, ℕ, Bool, true, false, List, [], ◌∷◌, ◌++◌, length, get_or, ℤ, pos, Some, None, Option, sym, refl, ap, ◌∙◌, ap₂, arith}
use Rattle.std.proofs.lemmas.List.{append_cancel_right}
use Rattle.plan_text.specs.declared.form.At.{At}
use Rattle.plan_text.specs.declared.form.At.TheVariants.{One, Two}
use Rattle.plan_text.specs.declared.form.TurnForm.{TurnForm}
use Rattle.plan_text.specs.Tokens.{Mark, opening, closing, word, number, spelled, opens, octets_of}
use Rattle.plan_text.specs.Lexing.{IsMark}
use Rattle.plan_text.specs.Forms.{PlanForm, turn, span, strike, seal, text_of, IsTypedAt, AreTyped, IsTyped, Says}
use Rattle.plan_text.specs.Reading.{turn_marks, at_marks, ats_marks, span_marks}
use Rattle.plan_text.proofs.Taken.{not_nil}
use Rattle.plan_text.proofs.Steps.{same_gapped, ends_spelled}
use Rattle.plan_text.specs.Laws.Words.{kinds_are_words, legs_are_words, kinds_apart, legs_apart, heads_are_words, heads_apart}
use Rattle.plan_text.proofs.Names.{kind_is_word, legs_is_word, within_word, depth_word, ticks_word, at_word}
use Rattle.plan_text.proofs.Grammars.{head_of, body_of, marks_of, form_spelled}

abbrev AreMarks : List Mark → Type 0
AreMarks [] = Unit {0}
AreMarks (m ∷ ms) = IsMark m × AreMarks ms

-- ---- octets are spelled by one list of marks

not_empty : (first : Bool) (m : Mark) (ms : List Mark) → IsMark m → spelled first (m ∷ ms) ≡ [] → ⊥
not_empty true m ms g e = not_nil m (spelled (opens m) ms) g e
not_empty false opening ms g e = omega (arith, ap length e)
not_empty false closing ms g e = omega (arith, ap length e)
not_empty false (word w) ms g e = omega (arith, ap length e)
not_empty false (number z) ms g e = omega (arith, ap length e)

same_marks : (first : Bool) (ms ns : List Mark) → AreMarks ms → AreMarks ns → spelled first ms ≡ spelled first ns → ms ≡ ns
same_marks first [] [] g h e = refl
same_marks first [] (n ∷ ns) g h e = absurd (not_empty first n ns h.0 (sym e))
same_marks first (m ∷ ms) [] g h e = absurd (not_empty first m ms g.0 e)
same_marks first (m ∷ ms) (n ∷ ns) g h e =
    let r = same_gapped first m n (spelled (opens m) ms) (spelled (opens n) ns) g.0 h.0 (ends_spelled m ms) (ends_spelled n ns) e in
    ap₂ ◌∷◌ r.0 (same_marks (opens m) ms ns g.1 h.1 (r.1 ∙ ap (λ k. spelled (opens k) ns) (sym r.0)))

-- ---- a form's marks are marks

are_append : (ms ns : List Mark) → AreMarks ms → AreMarks ns → AreMarks (ms ++ ns)
are_append [] ns g h = h
are_append (m ∷ ms) ns g h = (g.0, are_append ms ns g.1 h)

at_are : (p : At) → IsTypedAt p → AreMarks (at_marks p)
at_are (One a) g = (tt, (at_word, (g, (tt, tt))))
at_are (Two a b) g = (tt, (at_word, (g.0, (g.1, (tt, tt)))))

ats_are : (ps : List At) → AreTyped ps → AreMarks (ats_marks ps)
ats_are [] g = tt
ats_are (p ∷ ps) g = are_append (at_marks p) (ats_marks ps) (at_are p g.0) (ats_are ps g.1)

body_are : (f : PlanForm) → IsTyped f → AreMarks (body_of f)
body_are (turn t) g = (
  tt,
  (
    kind_is_word,
    (
      kinds_are_words t.kind,
      (
        tt,
        (
          tt,
          (
            legs_is_word,
            (
              legs_are_words t.legs,
              (
                tt,
                (tt, (within_word, (g.0, (tt, (tt, (depth_word, (g.1, (tt, (tt, (ticks_word, (g.2, (tt, tt)))))))))))),
              ),
            ),
          ),
        ),
      ),
    ),
  ),
)
body_are (span n ps) g = (tt, (ticks_word, (g.0, (tt, ats_are ps g.1))))
body_are strike g = tt
body_are seal g = tt

marks_are : (f : PlanForm) → IsTyped f → AreMarks (marks_of f)
marks_are f g = (tt, (heads_are_words (head_of f), are_append (body_of f) (closing ∷ []) (body_are f g) (tt, tt)))

-- ---- and tell the form

one_list : (f g : PlanForm) → IsTyped f → IsTyped g → text_of f ≡ text_of g → marks_of f ≡ marks_of g
one_list f g h k e = same_marks true (marks_of f) (marks_of g) (marks_are f h) (marks_are g k) (form_spelled f ∙ e ∙ sym (form_spelled g))

one_head : (f g : PlanForm) → marks_of f ≡ marks_of g → head_of f ≡ head_of g
one_head f g e = heads_apart (head_of f) (head_of g) (ap (λ ms. octets_of (get_or ms 1 opening)) e)

one_body : (f g : PlanForm) → marks_of f ≡ marks_of g → body_of f ≡ body_of g
one_body f g e = append_cancel_right (body_of f) (body_of g) (closing ∷ []) (tails _ _ _ _ (tails _ _ _ _ e))
  where
    tails : (m n : Mark) (ms ns : List Mark) → m ∷ ms ≡ n ∷ ns → ms ≡ ns
    tails m n ms ns e = cc

ats_same : (ps qs : List At) → ats_marks ps ≡ ats_marks qs → ps ≡ qs
ats_same [] [] e = refl
ats_same [] (One a ∷ qs) e = absurd (omega (arith, ap length e))
ats_same [] (Two a b ∷ qs) e = absurd (omega (arith, ap length e))
ats_same (One a ∷ ps) [] e = absurd (omega (arith, ap length e))
ats_same (Two a b ∷ ps) [] e = absurd (omega (arith, ap length e))
ats_same (One a ∷ ps) (One b ∷ qs) e = let rest : ats_marks ps ≡ ats_marks qs = cc in let same : a ≡ b = cc in ap₂ (λ x xs. One x ∷ xs) same (ats_same ps qs rest)
ats_same (One a ∷ ps) (Two b c ∷ qs) e = cc
ats_same (Two a b ∷ ps) (One c ∷ qs) e = cc
ats_same (Two a b ∷ ps) (Two c d ∷ qs) e =
    let rest : ats_marks ps ≡ ats_marks qs = cc in
    let s : a ≡ c = cc in
    let t : b ≡ d = cc in
    ap₂ ◌∷◌ (ap₂ Two s t) (ats_same ps qs rest)

abbrev number_in : Mark → ℤ
number_in opening = pos 0
number_in closing = pos 0
number_in (word w) = pos 0
number_in (number z) = z

abbrev number_at : ℕ → List Mark → ℤ
number_at i ms = number_in (get_or ms i opening)

abbrev word_at : ℕ → List Mark → List ℕ
word_at i ms = octets_of (get_or ms i opening)

turn_same : (t u : TurnForm) → t.kind ≡ u.kind → t.legs ≡ u.legs → t.within ≡ u.within → t.depth ≡ u.depth → t.ticks ≡ u.ticks → t ≡ u
turn_same t u a b c d e = λ j. record { kind = a j; legs = b j; within = c j; depth = d j; ticks = e j }

turns_same : (t u : TurnForm) → turn_marks t ≡ turn_marks u → t ≡ u
turns_same t u e =
    turn_same t u (kinds_apart t.kind u.kind (ap (word_at 2) e)) (legs_apart t.legs u.legs (ap (word_at 6) e)) (ap (number_at 10) e) (ap (number_at 14) e) (ap (number_at 18) e)

spans_same : (n m : ℤ) (ps qs : List At) → span_marks (n, ps) ≡ span_marks (m, qs) → span n ps ≡ span m qs
spans_same n m ps qs e = let rest : ats_marks ps ≡ ats_marks qs = cc in ap₂ span (ap (number_at 2) e) (ats_same ps qs rest)

same_form : (f g : PlanForm) → head_of f ≡ head_of g → body_of f ≡ body_of g → f ≡ g
same_form (turn t) (turn u) h b = ap turn (turns_same t u b)
same_form (turn t) (span m qs) h b = cc
same_form (turn t) strike h b = cc
same_form (turn t) seal h b = cc
same_form (span n ps) (turn u) h b = cc
same_form (span n ps) (span m qs) h b = spans_same n m ps qs b
same_form (span n ps) strike h b = cc
same_form (span n ps) seal h b = cc
same_form strike (turn u) h b = cc
same_form strike (span m qs) h b = cc
same_form strike strike h b = refl
same_form strike seal h b = cc
same_form seal (turn u) h b = cc
same_form seal (span m qs) h b = cc
same_form seal strike h b = cc
same_form seal seal h b = refl

pub one_form : (f g : PlanForm) → IsTyped f → IsTyped g → text_of f ≡ text_of g → f ≡ g
one_form f g h k e = let m = one_list f g h k e in same_form f g (one_head f g m) (one_body f g m)

-- what a line says is the form whose text it is
pub said_form : (line : List ℕ) (o : Option PlanForm) → Says line o → (f : PlanForm) → IsTyped f → line ≡ text_of f → o ≡ Some f
said_form line (Some g) s f h e = ap Some (one_form g f s.0 h (sym s.1 ∙ e))
said_form line None s f h e = absurd (s f h e)
