-- Reading the records one after another, and the first reason that holds.
use Rattle.std.proofs.Common.{◌≡◌, ℕ, suc, ◌+◌, ◌*◌, ◌<◌, ◌≤◌, ◌⊎◌, List, [], ◌∷◌, ◌++◌, length, get_or, Some, None, Option, sym, refl, ap, ◌∙◌, subst, ap₂, inl, inr, arith}
use Rattle.std.proofs.lemmas.Bool.{cases_lt}
use Rattle.ordinate.specs.Kinds.{Kind, Lawful}
use Rattle.leg.specs.Legs.{IsLeg}
use Rattle.leg.specs.Chains.{Follows, Standing, ClosedAfter, last_or}
use Rattle.leg.specs.declared.leg.Leg.{Leg}
use Rattle.leg.specs.Reasons.{First}
use Rattle.card.specs.Records.{record_octets, record_length}
use Rattle.card.specs.Cards.{capacity, count_of, record_at, Reads, Unread, Unchained, Stops, Open, Counts, header_reasons, record_reasons, reasons}
use Rattle.card.specs.declared.refusal.Refusal.{Refusal}
use Rattle.card.specs.declared.refusal.Refusal.TheVariants.{NoLeg, BrokenChain, TrailingOctet}
use Rattle.leg.proofs.Reasoned.{AllSingle, because_single, first_later, one_answer}
use Rattle.card.proofs.Codec.{record_told}

module _ {P : Type 0} (K : Kind P) (xs : List ℕ) where
  -- ---- the records
  pub reads_standing : (i : ℕ) (o : Option (Leg P)) (ls : List (Leg P)) → Reads K xs i o ls → Standing o → Standing (last_or o ls)
  reads_standing i o [] r s = s
  reads_standing i o (l ∷ ls) r s = reads_standing (suc i) (Some l) ls r.3 r.0.place

  pub reads_push : (i : ℕ) (o : Option (Leg P)) (ls : List (Leg P)) (l : Leg P) → Reads K xs i o ls → IsLeg K l → record_octets K l ≡ record_at K xs (i + length ls) → Follows (last_or o ls) l
      → Reads K xs i o (ls ++ (l ∷ []))
  reads_push i o [] l r il e f = let z : i + 0 ≡ i = omega arith in (il, e ∙ ap (record_at K xs) z, f, tt)
  reads_push i o (m ∷ ls) l r il e f =
      let z : i + suc (length ls) ≡ suc i + length ls = omega arith in
      (r.0, r.1, r.2, reads_push (suc i) (Some m) ls l r.3 il (e ∙ ap (record_at K xs) z) f)

  pub last_push : (o : Option (Leg P)) (ls : List (Leg P)) (l : Leg P) → last_or o (ls ++ (l ∷ [])) ≡ Some l
  last_push o [] l = refl
  last_push o (m ∷ ls) l = last_push (Some m) ls l

  -- The legs that are read are the only ones.
  pub reads_same : Lawful K → (i : ℕ) (o : Option (Leg P)) (ls ms : List (Leg P)) → length ls ≡ length ms → Reads K xs i o ls → Reads K xs i o ms → ls ≡ ms
  reads_same law i o [] [] n r s = refl
  reads_same law i o [] (m ∷ ms) n r s = absurd (omega arith)
  reads_same law i o (l ∷ ls) [] n r s = absurd (omega arith)
  reads_same law i o (l ∷ ls) (m ∷ ms) n r s =
      let e = record_told K law l m r.0 s.0 (r.1 ∙ sym s.1) in
      let s' = subst (λ (x : Leg P). Reads K xs (suc i) (Some x) ms) (sym e) s.3 in
      ap₂ (λ (x : Leg P) (ys : List (Leg P)). x ∷ ys) e (reads_same law (suc i) (Some l) ls ms (omega arith) r.3 s')

  abbrev Bad : ℕ → Option (Leg P) → Type 0
  Bad i before = Unread K xs i ⊎ Unchained K xs i before

  -- Where more legs are read, no record among theirs stops the reading.
  no_bad : Lawful K → (i : ℕ) (o : Option (Leg P)) (ls ms : List (Leg P)) → Reads K xs i o ls → Reads K xs i o ms → length ms < length ls → Bad (i + length ms) (last_or o ms) → ⊥
  no_bad law i o [] ms r s n b = omega arith
  no_bad law i o (l ∷ ls) [] r s n (inl b) = let z : i ≡ i + 0 = omega arith in b l r.0 (r.1 ∙ ap (record_at K xs) z)
  no_bad law i o (l ∷ ls) [] r s n (inr b) =
      let z : i + 0 ≡ i = omega arith in
      let e = record_told K law l b.0 r.0 b.1 (r.1 ∙ sym (b.2 ∙ ap (record_at K xs) z)) in
      b.3 (subst (λ (x : Leg P). Follows o x) e r.2)
  no_bad law i o (l ∷ ls) (m ∷ ms) r s n b =
      let e = record_told K law l m r.0 s.0 (r.1 ∙ sym s.1) in
      let s' = subst (λ (x : Leg P). Reads K xs (suc i) (Some x) ms) (sym e) s.3 in
      let z : i + suc (length ms) ≡ suc i + length ms = omega arith in
      let b' = subst (λ (k : ℕ). Bad k (last_or (Some m) ms)) z b in
      no_bad law (suc i) (Some l) ls ms r.3 s' (omega arith) (subst (λ (x : Leg P). Bad (suc i + length ms) (last_or (Some x) ms)) (sym e) b')

  stop_bad : (n : ℕ) (f : Refusal) (s : Stops K xs n f) → Bad (0 + length s.0) (last_or None s.0)
  stop_bad n f s =
      let z : length s.0 ≡ 0 + length s.0 = omega arith in
      subst (λ (k : ℕ). Bad k (last_or None s.0)) z (elim s.3 [ inl h ↦ inl h.0 | inr h ↦ inr h.0 ])

  pub no_stop : Lawful K → (n : ℕ) (ls : List (Leg P)) → Reads K xs 0 None ls → length ls ≡ n → (f : Refusal) → Stops K xs n f → ⊥
  no_stop law n ls r e f s = no_bad law 0 None ls s.0 r s.1 (let h = s.2 in omega arith) (stop_bad n f s)

  pub no_open : Lawful K → (n : ℕ) (ls : List (Leg P)) → Reads K xs 0 None ls → length ls ≡ n → ClosedAfter (last_or None ls) → Open K xs n → ⊥
  no_open law n ls r e c o =
      let same = reads_same law 0 None ls o.0 (e ∙ sym o.2) r o.1 in
      o.3 (subst (λ (x : List (Leg P)). ClosedAfter (last_or None x)) same c)

  -- ---- the answer of reading
  pub counted : (n : ℕ) → Counts K xs n → First (header_reasons K xs) None
  counted n h =
      let long = h.long in
      let fits : count_of K xs ≤ capacity K (length xs) = subst (λ (k : ℕ). k ≤ capacity K (length xs)) h.count h.fits in
      inr (λ f x. let y = x.0 in omega arith, inr (λ f x. x.0 h.fronted, inr (λ f x. let y = x.0 in omega arith, refl)))

  past_header : (n : ℕ) (a : Option Refusal) → Counts K xs n → First (record_reasons K xs) a → First (reasons K xs) a
  past_header n a h f = first_later (header_reasons K xs) (record_reasons K xs) a (counted n h) f

  pub answer_stops : (n : ℕ) → Counts K xs n → (f : Refusal) → Stops K xs n f → First (reasons K xs) (Some f)
  answer_stops n h f s = past_header n (Some f) h (inl (f, subst (λ (m : ℕ). Stops K xs m f) h.count s, refl))

  module _ (law : Lawful K) (n : ℕ) (h : Counts K xs n) (ls : List (Leg P)) (r : Reads K xs 0 None ls) (l : length ls ≡ n) where
    unstopped : (f : Refusal) → Stops K xs (count_of K xs) f → ⊥
    unstopped f s = no_stop law (count_of K xs) ls r (l ∙ h.count) f s

    pub answer_open : (ClosedAfter (last_or None ls) → ⊥) → First (reasons K xs) (Some (BrokenChain n))
    answer_open o = past_header n _ h (inr (unstopped, inl (BrokenChain (count_of K xs), ((ls, r, l ∙ h.count, o), refl), ap (λ (k : ℕ). Some (BrokenChain k)) h.count)))

    module _ (c : ClosedAfter (last_or None ls)) where
      unopened : (f : Refusal) → Open K xs (count_of K xs) × (f ≡ BrokenChain (count_of K xs)) → ⊥
      unopened f x = no_open law (count_of K xs) ls r (l ∙ h.count) c x.0

      pub answer_tail : (k : ℕ) → 8 + record_length K * n ≤ k → (get_or xs k 0 ≡ 0 → ⊥) → First (reasons K xs) (Some TrailingOctet)
      answer_tail k lo z =
          past_header n _ h (inr (unstopped, inr (unopened, inl (TrailingOctet, ((k, subst (λ (m : ℕ). 8 + record_length K * m ≤ k) h.count lo, z), refl), refl))))

      pub answer_none : ((k : ℕ) → 8 + record_length K * n ≤ k → get_or xs k 0 ≡ 0) → First (reasons K xs) None
      answer_none z =
          past_header n _ h
          (inr (unstopped, inr (unopened, inr (λ f x. x.0.2 (z x.0.0 (subst (λ (m : ℕ). 8 + record_length K * m ≤ x.0.0) (sym h.count) x.0.1)), refl))))

  -- ---- one answer
  same_stop : (m n : ℕ) (o p : Option (Leg P)) (f g : Refusal) → m ≡ n
      → (Unread K xs m × (f ≡ NoLeg m)) ⊎ (Unchained K xs m o × (f ≡ BrokenChain m)) → (Unread K xs n × (g ≡ NoLeg n)) ⊎ (Unchained K xs n p × (g ≡ BrokenChain n)) → f ≡ g
  same_stop m n o p f g e (inl x) (inl y) = x.1 ∙ ap NoLeg e ∙ sym y.1
  same_stop m n o p f g e (inl x) (inr y) = absurd (x.0 y.0.0 y.0.1 (y.0.2 ∙ ap (record_at K xs) (sym e)))
  same_stop m n o p f g e (inr x) (inl y) = absurd (y.0 x.0.0 x.0.1 (x.0.2 ∙ ap (record_at K xs) e))
  same_stop m n o p f g e (inr x) (inr y) = x.1 ∙ ap BrokenChain e ∙ sym y.1

  stops_one : Lawful K → (n : ℕ) (f g : Refusal) → Stops K xs n f → Stops K xs n g → f ≡ g
  stops_one law n f g s t =
      elim (cases_lt (length s.0) (length t.0)) [
        | inl lt ↦ absurd (no_bad law 0 None t.0 s.0 t.1 s.1 lt (stop_bad n f s))
        | inr ge ↦ elim (cases_lt (length t.0) (length s.0)) [
          | inl lt ↦ absurd (no_bad law 0 None s.0 t.0 s.1 t.1 lt (stop_bad n g t))
          | inr le ↦ let e : length s.0 ≡ length t.0 = omega arith in same_stop (length s.0) (length t.0) (last_or None s.0) (last_or None t.0) f g e s.3 t.3
        ]
      ]

  reasons_single : Lawful K → AllSingle (reasons K xs)
  reasons_single law =
      let one = because_single in
      (one _ _, (one _ _, (one _ _, (stops_one law (count_of K xs), (one _ _, (one _ _, tt))))))

  pub reasons_one : Lawful K → (f g : Option Refusal) → First (reasons K xs) f → First (reasons K xs) g → f ≡ g
  reasons_one law = one_answer (reasons K xs) (reasons_single law)
