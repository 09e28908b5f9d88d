-- Points read one after another.
use Rattle.std.proofs.Common.{◌≡◌, Option, Some, None, Vec, Global, List, [], ◌∷◌, ◌++◌, ℤ, codes, sym, refl, ap, ◌∙◌, append_assoc, append-nil}
use Rattle.std.specs.Option.{option_map}
use Rattle.decimal.specs.Numbers.{HasFewDigits}
use Rattle.plan_text.specs.declared.lexer.Lexer.{Lexer}
use Rattle.plan_text.specs.declared.form.At.{At}
use Rattle.plan_text.specs.Tokens.{Mark, closing}
use Rattle.plan_text.specs.Forms.{IsTypedAt, AreTyped}
use Rattle.plan_text.specs.Reading.{Spells, Completes, span_of, ReadsOne, ReadsNone, at_marks, ats_marks, number_marks, span_marks, IsTypedSpan}
use Rattle.plan_text.proofs.Parts.{along, none_take}

-- From l up to k these points were read, and points that stand at l begin with them.
pub record PointsSoFar (l k : Lexer) (points : List At) : Type 0 where
  pub typed : AreTyped points
  pub back : (ms : List Mark) → Spells k ms → Spells l (ats_marks points ++ ms)
  pub only : (ps : List At) → AreTyped ps → Spells l (ats_marks ps ++ (closing ∷ [])) → (rs : List At) × (ps ≡ points ++ rs) × AreTyped rs × Spells k (ats_marks rs ++ (closing ∷ []))

ats_push : (ps : List At) (p : At) (ms : List Mark) → ats_marks (ps ++ (p ∷ [])) ++ ms ≡ ats_marks ps ++ (at_marks p ++ ms)
ats_push [] p ms = ap (λ xs. xs ++ ms) (append-nil (at_marks p))
ats_push (q ∷ ps) p ms =
    append_assoc (at_marks q) (ats_marks (ps ++ (p ∷ []))) ms ∙ ap (λ xs. at_marks q ++ xs) (ats_push ps p ms) ∙ sym (append_assoc (at_marks q) (ats_marks ps) (at_marks p ++ ms))

typed_push : (ps : List At) (p : At) → AreTyped ps → IsTypedAt p → AreTyped (ps ++ (p ∷ []))
typed_push [] p h g = (g, tt)
typed_push (q ∷ ps) p h g = (h.0, typed_push ps p h.1 g)

first_point : (k : Lexer) (p : At) (rs : List At) → Spells k (ats_marks (p ∷ rs) ++ (closing ∷ [])) → Spells k (at_marks p ++ (ats_marks rs ++ (closing ∷ [])))
first_point k p rs s = along k (ats_marks (p ∷ rs) ++ (closing ∷ [])) _ (append_assoc (at_marks p) (ats_marks rs) (closing ∷ [])) s

module _ (l k : Lexer) (points : List At) (sofar : PointsSoFar l k points) where
  module _ (unclosed : Spells k (closing ∷ []) → ⊥) where
    pub one_point_more : (k' : Lexer) (p : At) → ReadsOne at_marks IsTypedAt k p k' → PointsSoFar l k' (points ++ (p ∷ []))
    one_point_more k' p r =
        record {
          typed = typed_push points p sofar.typed r.good;
          back = λ ms s. along l (ats_marks points ++ (at_marks p ++ ms)) _ (sym (ats_push points p ms)) (sofar.back (at_marks p ++ ms) (r.back ms s));
          only = λ ps g s. let o = sofar.only ps g s in more o.0 ps o.1 o.2 o.3;
        }
      where
        more : (rs ps : List At) → ps ≡ points ++ rs → AreTyped rs → Spells k (ats_marks rs ++ (closing ∷ [])) → (qs : List At) × (ps ≡ (points ++ (p ∷ [])) ++ qs) × AreTyped qs × Spells k' (ats_marks qs ++ (closing ∷ []))
        more [] ps e g s = absurd (unclosed s)
        more (q ∷ rs) ps e g s =
            let o = r.only q (ats_marks rs ++ (closing ∷ [])) g.0 (first_point k q rs s) in
            (rs, e ∙ ap (λ x. points ++ (x ∷ rs)) o.0 ∙ sym (append_assoc points (p ∷ []) rs), g.1, o.1)

    pub no_points : ReadsNone at_marks IsTypedAt k → (ps : List At) → AreTyped ps → Spells l (ats_marks ps ++ (closing ∷ [])) → ⊥
    no_points n ps g s = let o = sofar.only ps g s in neither o.0 o.2 o.3
      where
        neither : (rs : List At) → AreTyped rs → Spells k (ats_marks rs ++ (closing ∷ [])) → ⊥
        neither [] g s = unclosed s
        neither (q ∷ rs) g s = n q (ats_marks rs ++ (closing ∷ [])) g.0 (first_point k q rs s)

-- ---- the ticks and the points

pub no_span_ticks : (l : Lexer) → ReadsNone (number_marks (codes "ticks")) HasFewDigits l → (s : ℤ × List At) → IsTypedSpan s → Spells l (span_marks s ++ (closing ∷ [])) → ⊥
no_span_ticks l n s g e = none_take span_marks IsTypedSpan l (number_marks (codes "ticks")) HasFewDigits (λ s. s.0) (λ s. ats_marks s.1) (λ s. refl) (λ s g. g.0) n s (closing ∷ []) g e

module _ (l k : Lexer) (ticks : ℤ) (r : ReadsOne (number_marks (codes "ticks")) HasFewDigits l ticks k) where
  pub no_span_points : ((ps : List At) → AreTyped ps → Spells k (ats_marks ps ++ (closing ∷ [])) → ⊥) → (s : ℤ × List At) → IsTypedSpan s → Spells l (span_marks s ++ (closing ∷ [])) → ⊥
  no_span_points n s g e = n s.1 g.1 (r.only s.0 (ats_marks s.1 ++ (closing ∷ [])) g.0 e).1

  pub span_read : (ps : List At) → AreTyped ps → Spells k (ats_marks ps ++ (closing ∷ [])) → IsTypedSpan (ticks, ps) × Spells l (span_marks (ticks, ps) ++ (closing ∷ []))
  span_read ps g s = ((r.good, g), r.back (ats_marks ps ++ (closing ∷ [])) s)

  pub span_told : (points : Option (Vec At Global)) → Completes ats_marks AreTyped k (option_map (λ v. v.items) points)
      → Completes span_marks IsTypedSpan l (option_map span_of (option_map (λ v. record { ticks = ticks; points = v }) points))
  span_told None n = no_span_points n
  span_told (Some v) s = span_read v.items s.0 s.1
