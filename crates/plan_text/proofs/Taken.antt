-- What stands at the front of a text.
use Rattle.std.proofs.Common.{◌≡◌, ℕ, suc, ◌+◌, ◌-◌, ◌^◌, ◌<◌, ◌≤◌, Bool, true, false, List, [], ◌∷◌, ◌++◌, length, get_or, take, drop, ℤ, pos, negsuc, decimal, sym, refl, ap, ◌∙◌, subst, ap₂, ⊎_elim, suc-le-suc, arith, length-append, take-append-drop}
use lib.Signed.{mag}
use Rattle.std.specs.Str.Parse.{AllDigits}
use Rattle.decimal.specs.Numbers.{text_of, HasFewDigits}
use Rattle.decimal.proofs.Signs.{tail_same}
use Rattle.std.proofs.lemmas.Str.Parse.{digit_from_value}
use Rattle.std.proofs.lemmas.Fmt.{decimal_is_IsNumeral, decimal_nonempty, signed_decimal_injective}
use Rattle.std.proofs.lemmas.List.{drop_more, drop_all, drop-drop, get_or-take, get_or-drop, length-take-le, length-drop}
use Rattle.std.proofs.str.Laws.{order}
use Rattle.std.proofs.lemmas.Bool.Decides.{nat_tests}
use Rattle.plan_text.specs.Tokens.{Mark, opening, closing, word, number, octets_of}
use Rattle.plan_text.specs.Lexing.{is_plain_octet, ArePlain, IsStopped, IsMark, Ends, BeginsWithNone, Starts, TakesNone}

plain_above : (b : ℕ) → 41 < b → is_plain_octet b ≡ true
plain_above b h = grind (arith, nat_tests)

plain_digits : (ds : List ℕ) → AllDigits 10 ds → ArePlain ds
plain_digits [] d = tt
plain_digits (c ∷ cs) d = (plain_above c (omega (arith, (digit_from_value c d.0).0)), plain_digits cs d.1)

plain_decimal : (n : ℕ) → n < 10 ^ 10 → ArePlain (decimal n)
plain_decimal n h = plain_digits (decimal n) (decimal_is_IsNumeral n (omega arith)).0.1

pub plain_signed : (z : ℤ) → HasFewDigits z → ArePlain (text_of z)
plain_signed (pos n) h = plain_decimal n h
plain_signed (negsuc n) h = (refl, plain_decimal (suc n) h)

pub some_signed : (z : ℤ) → HasFewDigits z → 0 < length (text_of z)
some_signed (pos n) h = decimal_nonempty n (omega arith)
some_signed (negsuc n) h = omega arith

not_both : (b : Bool) → b ≡ true → b ≡ false → ⊥
not_both b p q = let z : ◌≡◌ {A = ℕ} 0 1 = cc in omega arith

pub head_same : (b c : ℕ) (x y : List ℕ) → b ∷ x ≡ c ∷ y → b ≡ c
head_same b c x y e = cc

-- an octet that is not plain begins no run
pub clash : (b : ℕ) (x w y : List ℕ) → is_plain_octet b ≡ false → 0 < length w → ArePlain w → b ∷ x ≡ w ++ y → ⊥
clash b x [] y n h p e = omega arith
clash b x (c ∷ w) y n h p e = not_both (is_plain_octet c) p.0 (ap is_plain_octet (sym (head_same b c x (w ++ y) e)) ∙ n)

stops_no : (x : List ℕ) (c : ℕ) (r : List ℕ) → IsStopped x → is_plain_octet c ≡ true → x ≡ c ∷ r → ⊥
stops_no [] c r s p e = omega (arith, ap length e)
stops_no (b ∷ x) c r s p e = not_both (is_plain_octet c) p (ap is_plain_octet (sym (head_same b c x r e)) ∙ s)

-- a run goes as far as plain octets_of go
runs_agree : (w v x y : List ℕ) → ArePlain w → ArePlain v → IsStopped x → IsStopped y → w ++ x ≡ v ++ y → (w ≡ v) × (x ≡ y)
runs_agree [] [] x y p q s t e = (refl, e)
runs_agree [] (c ∷ v) x y p q s t e = absurd (stops_no x c (v ++ y) s q.0 e)
runs_agree (b ∷ w) [] x y p q s t e = absurd (stops_no y b (w ++ x) t p.0 (sym e))
runs_agree (b ∷ w) (c ∷ v) x y p q s t e =
    let r = runs_agree w v x y p.1 q.1 s t (tail_same b c (w ++ x) (v ++ y) e) in
    (ap₂ ◌∷◌ (head_same b c (w ++ x) (v ++ y) e) r.0, r.1)

small : (z : ℤ) → HasFewDigits z → mag z < 2 ^ 63
small (pos n) h = omega arith
small (negsuc n) h = omega arith

-- two marks at the front of one text are the same
pub same_mark : (m u : Mark) (x y : List ℕ) → IsMark m → IsMark u → Ends m x → Ends u y → octets_of m ++ x ≡ octets_of u ++ y → (m ≡ u) × (x ≡ y)
same_mark opening opening x y g h s t e = (refl, tail_same 40 40 x y e)
same_mark opening closing x y g h s t e = absurd (omega (arith, head_same 40 41 x y e))
same_mark opening (word v) x y g h s t e = absurd (clash 40 x v y refl h.0 h.1 e)
same_mark opening (number z) x y g h s t e = absurd (clash 40 x (text_of z) y refl (some_signed z h) (plain_signed z h) e)
same_mark closing opening x y g h s t e = absurd (omega (arith, head_same 41 40 x y e))
same_mark closing closing x y g h s t e = (refl, tail_same 41 41 x y e)
same_mark closing (word v) x y g h s t e = absurd (clash 41 x v y refl h.0 h.1 e)
same_mark closing (number z) x y g h s t e = absurd (clash 41 x (text_of z) y refl (some_signed z h) (plain_signed z h) e)
same_mark (word w) opening x y g h s t e = absurd (clash 40 y w x refl g.0 g.1 (sym e))
same_mark (word w) closing x y g h s t e = absurd (clash 41 y w x refl g.0 g.1 (sym e))
same_mark (word w) (word v) x y g h s t e = let r = runs_agree w v x y g.1 h.1 s t e in (ap word r.0, r.1)
same_mark (word w) (number z) x y g h s t e = let r = runs_agree w (text_of z) x y g.1 (plain_signed z h) s t e in absurd (g.2 z h r.0)
same_mark (number z) opening x y g h s t e = absurd (clash 40 y (text_of z) x refl (some_signed z g) (plain_signed z g) (sym e))
same_mark (number z) closing x y g h s t e = absurd (clash 41 y (text_of z) x refl (some_signed z g) (plain_signed z g) (sym e))
same_mark (number z) (word v) x y g h s t e = let r = runs_agree (text_of z) v x y (plain_signed z g) h.1 s t e in absurd (h.2 z g (sym r.0))
same_mark (number z) (number v) x y g h s t e =
    let r = runs_agree (text_of z) (text_of v) x y (plain_signed z g) (plain_signed v h) s t e in
    (ap number (signed_decimal_injective z v (small z g) (small v h) r.0), r.1)

-- a mark begins with an octet other than a space
pub no_space : (m : Mark) (x y : List ℕ) → IsMark m → octets_of m ++ x ≡ 32 ∷ y → ⊥
no_space opening x y g e = omega (arith, head_same 40 32 x y e)
no_space closing x y g e = omega (arith, head_same 41 32 x y e)
no_space (word w) x y g e = clash 32 y w x refl g.0 g.1 (sym e)
no_space (number z) x y g e = clash 32 y (text_of z) x refl (some_signed z g) (plain_signed z g) (sym e)

pub not_nil : (m : Mark) (x : List ℕ) → IsMark m → octets_of m ++ x ≡ [] → ⊥
not_nil opening x g e = omega (arith, ap length e)
not_nil closing x g e = omega (arith, ap length e)
not_nil (word w) x g e = omega (arith, ap length e, length-append w x, g.0)
not_nil (number z) x g e = omega (arith, ap length e, length-append (text_of z) x, some_signed z g)

pub none_past : (text : List ℕ) (at : ℕ) → length text ≤ at → BeginsWithNone (drop at text)
none_past text at h m rest t = not_nil m rest t.mark (sym t.whole ∙ drop_all at text h)

pub none_space : (text : List ℕ) (at : ℕ) → at < length text → get_or text at 0 ≡ 32 → BeginsWithNone (drop at text)
none_space text at h e m rest t = no_space m rest (drop (at + 1) text) t.mark (sym t.whole ∙ drop_more text at 0 h ∙ ap (λ b. b ∷ drop (at + 1) text) e)

pub one_octet : (text : List ℕ) (at b : ℕ) → at < length text → get_or text at 0 ≡ b → drop at text ≡ b ∷ drop (at + 1) text
one_octet text at b h e = drop_more text at 0 h ∙ ap (λ c. c ∷ drop (at + 1) text) e

plain_by_index : (w : List ℕ) → ((k : ℕ) → k < length w → is_plain_octet (get_or w k 0) ≡ true) → ArePlain w
plain_by_index [] h = tt
plain_by_index (b ∷ w) h = (h 0 (omega arith), plain_by_index w (λ k l. h (suc k) (suc-le-suc l)))

-- what `run_end` finds
pub record Run (text : List ℕ) (at end : ℕ) : Type 0 where
  pub starts : at < length text
  pub opening : is_plain_octet (get_or text at 0) ≡ true
  pub within : (at ≤ end) × (end ≤ length text)
  pub all : (k : ℕ) → at ≤ k → k < end → is_plain_octet (get_or text k 0) ≡ true
  pub stops : end < length text → is_plain_octet (get_or text end 0) ≡ false

plain_octet : (b : ℕ) → (b ≡ 40 → ⊥) → (b ≡ 41 → ⊥) → (b ≡ 32 → ⊥) → is_plain_octet b ≡ true
plain_octet b p q r = grind (arith, nat_tests)

pub run_at : (text : List ℕ) (at end : ℕ) → at < length text → (get_or text at 0 ≡ 40 → ⊥) → (get_or text at 0 ≡ 41 → ⊥) → (get_or text at 0 ≡ 32 → ⊥) → (at ≤ end) × (end ≤ length text)
    → ((k : ℕ) → at ≤ k → k < end → is_plain_octet (get_or text k 0) ≡ true) → (end < length text → is_plain_octet (get_or text end 0) ≡ false) → Run text at end
run_at text at end h p q r within all stops = record { starts = h; opening = plain_octet (get_or text at 0) p q r; within = within; all = all; stops = stops }

module _ {text : List ℕ} {at end : ℕ} (run : Run text at end) where
  more : at < end
  more = ⊎_elim (λ h. h) (λ h. let same : end ≡ at = omega (arith, run.within.0) in absurd (not_both (is_plain_octet (get_or text at 0)) run.opening (ap (λ i. is_plain_octet (get_or text i 0)) (sym same) ∙ run.stops (omega (arith, run.starts))))) (order at end)

  long : length (take (end - at) (drop at text)) ≡ end - at
  long = length-take-le (end - at) (drop at text) (simp length-drop (omega (arith, run.within.0, run.within.1)))

  pub some : 0 < length (take (end - at) (drop at text))
  some = omega (arith, long, more)

  pub plain : ArePlain (take (end - at) (drop at text))
  plain = plain_by_index _ (λ k l. let small : k < end - at = omega (arith, long) in ap is_plain_octet (get_or-take (end - at) (drop at text) k 0 small ∙ get_or-drop at text k 0) ∙ run.all (at + k) (omega arith) (omega (arith, run.within.0)))

  pub split : drop at text ≡ take (end - at) (drop at text) ++ drop end text
  split = sym (take-append-drop (end - at) (drop at text)) ∙ ap (λ l. take (end - at) (drop at text) ++ l) (drop-drop (end - at) at text ∙ ap (λ k. drop k text) (omega (arith, run.within.0)))

  pub stops_there : IsStopped (drop end text)
  stops_there = ⊎_elim
      (λ h. subst IsStopped (sym (drop_more text end 0 h)) (run.stops h))
      (λ h. subst IsStopped (sym (drop_all end text h)) tt)
      (order end (length text))

-- inside a list, after its first item

pub inner_space_close : (t r : List ℕ) → t ≡ 32 ∷ 41 ∷ r → TakesNone false t
inner_space_close t r e opening rest k = omega (arith, head_same 41 40 _ _ (tail_same 32 32 _ _ (sym e ∙ k.whole)))
inner_space_close t r e closing rest k = omega (arith, head_same 32 41 _ _ (sym e ∙ k.whole))
inner_space_close t r e (word w) rest k = clash 41 r w rest refl k.mark.0 k.mark.1 (tail_same 32 32 _ _ (sym e ∙ k.whole))
inner_space_close t r e (number z) rest k = clash 41 r (text_of z) rest refl (some_signed z k.mark) (plain_signed z k.mark) (tail_same 32 32 _ _ (sym e ∙ k.whole))

pub inner_close : (t r : List ℕ) → t ≡ 41 ∷ r → Starts false t t
inner_close t r e opening rest g = (λ k. absurd (omega (arith, head_same 41 40 _ _ (sym e ∙ k))), λ k. absurd (omega (arith, head_same 41 32 _ _ (sym e ∙ k))))
inner_close t r e closing rest g = (λ k. k, λ k. k)
inner_close t r e (word w) rest g = (λ k. absurd (clash 41 r w rest refl g.0 g.1 (sym e ∙ k)), λ k. absurd (omega (arith, head_same 41 32 _ _ (sym e ∙ k))))
inner_close t r e (number z) rest g = (λ k. absurd (clash 41 r (text_of z) rest refl (some_signed z g) (plain_signed z g) (sym e ∙ k)), λ k. absurd (omega (arith, head_same 41 32 _ _ (sym e ∙ k))))
