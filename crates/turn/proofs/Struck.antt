-- The last legs that share a start tick: there is one way alone to take them off.
use Rattle.std.proofs.Common.{◌≡◌, ℕ, zero, suc, ◌-◌, ◌<◌, ◌≤◌, List, [], ◌∷◌, ◌++◌, length, take, drop, get_or, Some, None, Option, ◌+◌, ◌⊎◌, inl, inr, sym, refl, ap, ◌∙◌, subst, ap₂, arith}
use Rattle.std.proofs.lemmas.List.{length-drop, length-take-le, take-append-drop, take_all}
use Rattle.std.proofs.lemmas.Option.{same_Some}
use Rattle.leg.specs.Chains.{Each, Last, last_or}
use Rattle.leg.specs.Reasons.{First}
use Rattle.leg.specs.declared.leg.Leg.{Leg}
use Rattle.outlet.specs.Outlets.{Contents, kept}
use Rattle.turn.specs.Calls.{Progress, end_of, last_leg, strike}
use Rattle.turn.specs.Reasons.{facing, reasons}
use Rattle.turn.specs.declared.refusal.Refusal.TheVariants.{Torn}
use Rattle.turn.specs.Outcomes.{Struck}
use Rattle.turn.specs.Settings.{Setting}

module _ {P : Type 0} where
  abbrev pub From : ℕ → Leg P → Type 0
  From S l = l.stretch.from ≡ S

  each_front : (Q : Leg P → Type 0) (xs ys : List (Leg P)) → Each Q (xs ++ ys) → Each Q xs
  each_front Q [] ys h = tt
  each_front Q (x ∷ xs) ys h = (h.0, each_front Q xs ys h.1)

  each_back : (Q : Leg P → Type 0) (xs ys : List (Leg P)) → Each Q (xs ++ ys) → Each Q ys
  each_back Q [] ys h = h
  each_back Q (x ∷ xs) ys h = each_back Q xs ys h.1

  last_in : (Q : Leg P → Type 0) (x : Leg P) (xs : List (Leg P)) → Q x → Each Q xs → (l : Leg P) × (last_or (Some x) xs ≡ Some l) × Q l
  last_in Q x [] q h = (x, refl, q)
  last_in Q x (y ∷ xs) q h = last_in Q y xs h.0 h.1

  agree : (S T : ℕ) (xs : List (Leg P)) → 1 ≤ length xs → Each (From S) xs → Each (From T) xs → S ≡ T
  agree S T [] n h k = absurd (omega arith)
  agree S T (x ∷ xs) n h k = sym h.0 ∙ k.0

  tail_same : (x y : Leg P) (xs ys : List (Leg P)) → x ∷ xs ≡ y ∷ ys → xs ≡ ys
  tail_same x y xs ys h = cc

  head_same : (x y : Leg P) (xs ys : List (Leg P)) → x ∷ xs ≡ y ∷ ys → x ≡ y
  head_same x y xs ys h = cc

  -- Legs that share S are off from behind k, and k does not end in another of them: so are legs that share T from behind k', and it is the same cut.
  pub one_cut : (S T : ℕ) (o : Option (Leg P)) (k off k' off' : List (Leg P)) → k ++ off ≡ k' ++ off'
      → Each (From S) off → 1 ≤ length off → ((l : Leg P) → last_or o k ≡ Some l → ¬ (From S l))
      → Each (From T) off' → 1 ≤ length off' → ((l : Leg P) → last_or o k' ≡ Some l → ¬ (From T l))
      → (k ≡ k') × (S ≡ T)
  one_cut S T o [] off [] off' e f m h f' m' h' = (refl, agree S T off m f (subst (Each (From T)) (sym e) f'))
  one_cut S T o [] off (x ∷ k') off' e f m h f' m' h' =
      let w = subst (Each (From S)) e f in
      let st = agree S T off' m' (each_back (From S) (x ∷ k') off' w) f' in
      let r = last_in (From S) x k' w.0 (each_front (From S) k' off' w.1) in
      absurd (h' r.0 r.1 (r.2 ∙ st))
  one_cut S T o (x ∷ k) off [] off' e f m h f' m' h' =
      let w = subst (Each (From T)) (sym e) f' in
      let st = agree S T off m f (each_back (From T) (x ∷ k) off w) in
      let r = last_in (From T) x k w.0 (each_front (From T) k off w.1) in
      absurd (h r.0 r.1 (r.2 ∙ sym st))
  one_cut S T o (x ∷ k) off (y ∷ k') off' e f m h f' m' h' =
      let q = head_same x y (k ++ off) (k' ++ off') e in
      let r = one_cut S T (Some x) k off k' off' (tail_same x y (k ++ off) (k' ++ off') e) f m h f' m'
      (subst (λ (z : Leg P). (l : Leg P) → last_or (Some z) k' ≡ Some l → ¬ (From T l)) (sym q) h') in
      (ap₂ (λ (l : Leg P) ls. l ∷ ls) q r.0, r.1)

-- ---- a strike that is found by looking at one leg after another, from the last one back

module _ {P : Type 0} where
  last_at : (o : Option (Leg P)) (ls : List (Leg P)) (i : ℕ) (d : Leg P) → i < length ls → last_or o (take (suc i) ls) ≡ Some (get_or ls i d)
  last_at o [] i d h = absurd (omega arith)
  last_at o (l ∷ ls) zero d h = refl
  last_at o (l ∷ ls) (suc i) d h = last_at (Some l) ls i d (omega arith)

  -- the last of the first n legs, and the last of all
  pub last_kept : (ls : List (Leg P)) (n : ℕ) (l : Leg P) → 1 ≤ n → n ≤ length ls → l ≡ get_or ls (n - 1) l → last_leg (take n ls) ≡ Some l
  last_kept ls n l some within e =
      let q : suc (n - 1) ≡ n = omega arith in
      ap (λ (i : ℕ). last_leg (take i ls)) (sym q) ∙ last_at None ls (n - 1) l (omega arith) ∙ ap Some (sym e)

  pub last_of : (ls : List (Leg P)) (n : ℕ) (l : Leg P) → n ≡ length ls → 1 ≤ n → l ≡ get_or ls (n - 1) l → last_leg ls ≡ Some l
  last_of ls n l q some e = ap last_leg (sym (take_all n ls (omega arith))) ∙ last_kept ls n l some (omega arith) e

module _ {P : Type 0} (A : Setting P) (c : Contents P) (S i : ℕ) where
  -- The first i legs are kept: all behind share S, and leg i - 1, if there is one, does not.
  pub struck : (g' : Progress P) (c' : Contents P) → c' ≡ kept i c → i < length c.legs → Each (From S) (drop i c.legs) → ((l : Leg P) → last_leg (take i c.legs) ≡ Some l → ¬ (From S l))
      → g'.count ≡ i → g'.laid ≡ S → g'.end_value ≡ end_of (last_leg (take i c.legs)) → Struck A c g' c'
  struck g' c' e h f n count laid end =
      let legs : c'.legs ≡ take i c.legs = ap (λ d. d.legs) e in
      let d = length-drop i c.legs in
      record {
        start = S;
        off = drop i c.legs;
        some = omega arith;
        shared = f;
        all = λ l q. n l (ap last_leg (sym legs) ∙ q);
        left = sym (ap (λ ks. ks ++ drop i c.legs) legs ∙ take-append-drop i c.legs);
        capacity = ap (λ d. d.capacity) e;
        count = count ∙ sym (ap length legs ∙ length-take-le i c.legs (omega arith));
        laid = laid;
        end_value = end ∙ ap (λ ks. end_of (last_leg ks)) (sym legs);
      }

-- ---- the answer of a strike, as its checks find it

module _ {P : Type 0} (A : Setting P) (g : Progress P) (c : Contents P) (ours : length c.legs ≡ g.count) (some : ¬ (g.count ≡ 0)) (l : Leg P) (last : last_leg c.legs ≡ Some l) where
  pub strike_torn : (¬ (l.stretch.from + l.stretch.ticks ≡ g.laid)) ⊎ (¬ (Last l.stretch)) → First (reasons A (facing A g c) strike) (Some Torn)
  strike_torn x = inr (λ e y. y.0 ours, inr (λ e y. some y.0, inl (Torn, ((l, last, x), refl), refl)))

  pub strike_taken : l.stretch.from + l.stretch.ticks ≡ g.laid → Last l.stretch → First (reasons A (facing A g c) strike) None
  strike_taken x y = inr (λ e z. z.0 ours, inr (λ e z. some z.0, inr (λ e z. go z.0.0 z.0.1 z.0.2, refl)))
    where
      go : (k : Leg P) → last_leg c.legs ≡ Some k → (¬ (k.stretch.from + k.stretch.ticks ≡ g.laid)) ⊎ (¬ (Last k.stretch)) → ⊥
      go k q (inl n) = n (subst (λ (m : Leg P). m.stretch.from + m.stretch.ticks ≡ g.laid) (same_Some l k (sym last ∙ q)) x)
      go k q (inr n) = n (subst (λ (m : Leg P). Last m.stretch) (same_Some l k (sym last ∙ q)) y)
