-- The records of a table after putting and keeping.
use Rattle.std.proofs.Common.{◌≡◌, ℕ, ◌+◌, ◌-◌, ◌<◌, ◌≤◌, List, ◌++◌, length, take, drop, set, replicate, sym, ap, ◌∙◌, arith}
use Rattle.std.proofs.lemmas.List.{drop_at, take_at, drop-drop, take_more_set, drop-set-lt, replicate_more, replicate-append-replicate, drop-replicate, length-append, length-set, length-take, length-drop, length-replicate}
use Rattle.std.proofs.lemmas.Grind.{common_steps}
use borrow.Rule.Slice.PartMut.{put_mid}
use Rattle.outlet.specs.Outlets.{BlankFrom}
use Rattle.leg.specs.declared.leg.Leg.{Leg}

module _ {X : Type 0} where
  -- ---- overwriting a run of elements, one after another
  abbrev pub Overwritten : List X → ℕ → X → ℕ → List X → Type 0
  Overwritten xs from x i ys = (take i ys ≡ take from xs ++ replicate (i - from) x) × (drop i ys ≡ drop i xs) × (length ys ≡ length xs)

  pub overwritten_more : (xs : List X) (from : ℕ) (x : X) (i : ℕ) (ys : List X) → from ≤ i → i < length xs → Overwritten xs from x i ys → Overwritten xs from x (i + 1) (set ys i x)
  overwritten_more xs from x i ys f h o =
      let l = o.2 in
      let z : i - from + 1 ≡ i + 1 - from = omega arith in
      let e = replicate_more (i - from) x in (
        grind (arith, common_steps, take_more_set),
        grind (arith, common_steps, drop-set-lt, drop-drop),
        grind (arith, common_steps),
      )

  -- ---- the records past the legs
  pub blank_after_put : (n : ℕ) (xs : List X) (l b : X) → n < length xs → drop n xs ≡ replicate (length xs - n) b → drop (n + 1) (set xs n l) ≡ replicate (length (set xs n l) - (n + 1)) b
  blank_after_put n xs l b h f =
      let past = drop-set-lt (n + 1) xs n l (omega arith) in
      let rest : drop (n + 1) xs ≡ drop 1 (drop n xs) = sym (drop-drop 1 n xs) in
      let blanks = drop-replicate 1 (length xs - n) b in
      let left : length xs - n - 1 ≡ length (set xs n l) - (n + 1) = omega (arith, length-set xs n l) in
      cc

  pub blank_after_keep : (k : ℕ) (ys : List X) (n : ℕ) (xs : List X) (b : X) → k < n → n ≤ length xs → drop n xs ≡ replicate (length xs - n) b → ys ≡ take k xs ++ (replicate (n - k) b ++ drop n xs) → drop k ys ≡ replicate (length ys - k) b
  blank_after_keep k ys n xs b h m f e =
      grind (arith, common_steps, drop_at, replicate-append-replicate, length-append, length-take, length-drop, length-replicate)

module _ {P : Type 0} where
  -- A leg is the one of which it is a clone, where that is so of its points.
  pub leg_cloned : (is_clone : P → P → Type 0) → ((p q : P) → is_clone p q → q ≡ p) → (l m : Leg P)
      → (m.stretch ≡ l.stretch) × ((m.degree ≡ l.degree) × (is_clone l.start m.start × (is_clone l.middle m.middle × is_clone l.end m.end))) → m ≡ l
  leg_cloned is_clone same l m h =
      let s = same l.start m.start h.1.1.0 in
      let q = same l.middle m.middle h.1.1.1.0 in
      let e = same l.end m.end h.1.1.1.1 in
      let fields : ◌≡◌ {A = Leg P} (record { stretch = m.stretch; degree = m.degree; start = m.start; middle = m.middle; end = m.end }) (record { stretch = l.stretch; degree = l.degree; start = l.start; middle = l.middle; end = l.end }) = cc in
      fields

  pub all_blank : (xs : List (Leg P)) (n : ℕ) (b : Leg P) → xs ≡ replicate n b → BlankFrom 0 xs b
  all_blank xs n b e =
      let size : n ≡ length xs - 0 = omega (arith, ap length e, length-replicate n b) in
      (omega arith, e ∙ ap (λ m. replicate m b) size)

  pub blank_from_put : (n : ℕ) (xs : List (Leg P)) (l b : Leg P) → n < length xs → drop n xs ≡ replicate (length xs - n) b → BlankFrom (n + 1) (set xs n l) b
  blank_from_put n xs l b h f = (omega (arith, length-set xs n l), blank_after_put n xs l b h f)

  pub blank_from_keep : (n count len : ℕ) (xs now given : List (Leg P)) (b : Leg P) → n < count → BlankFrom count xs b → len ≡ length xs → now ≡ xs → given ≡ replicate (count - n) b
      → BlankFrom n (take len (put_mid n (count - n) now given ++ drop (length (put_mid n (count - n) now given)) xs)) b
  blank_from_keep n count len xs now given b h f l e r =
      let k = count - n in
      let ys = take n xs ++ (replicate k b ++ drop k (drop n xs)) in
      let at : n + k ≡ count = omega arith in
      let past : drop k (drop n xs) ≡ replicate (length xs - count) b = drop-drop k n xs ∙ rw (at) f.1 in
      let size : length ys ≡ length xs = grind (arith, common_steps, length-append, length-take, length-drop, length-replicate) in
      let over : drop n ys ≡ replicate (length xs - n) b = drop_at (take n xs) (replicate k b ++ drop k (drop n xs)) n (omega (arith, length-take n xs)) ∙ grind (arith, common_steps, replicate-append-replicate) in
      rw (l, e, r, take_at ys (drop (length ys) xs) (length xs) size) (omega arith, rw (size) over)
