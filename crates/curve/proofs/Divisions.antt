-- The halving finds a division with the fewest cells, since a division of a cell that fails comes apart at its middle.
use Rattle.std.proofs.Common.{◌≡◌, ℕ, zero, suc, ◌+◌, ◌*◌, ◌^◌, ◌<◌, ◌≤◌, Bool, true, false, List, [], ◌∷◌, ◌++◌, length, Some, None, Option, sym, refl, ap, ◌∙◌, subst, ap₂, inl, inr, add-one, arith, lit<}
use Rattle.std.proofs.lemmas.List.{length-append}
use Rattle.std.proofs.lemmas.Bool.{both_ways, cases_lt}
use Rattle.leg.specs.Chains.{Each}
use Rattle.leg.specs.declared.leg.Cell.{Cell}
use Rattle.curve.specs.Cells.{Allowed, Covers, Division, alone_or, begin, both, end, halve, halving, left, right, whole}
use Rattle.curve.specs.Fewest.{Fewest, HalvingIsFewest}
use Rattle.curve.proofs.Moments.{begin_left, begin<end, deeper, end_right, no_straddle, same, units}
use Rattle.curve.proofs.Pieces.{each_append, found}

-- ---- lists that cover

pub covers_le : (D a : ℕ) (cs : List Cell) (b : ℕ) → Covers D a cs b → a ≤ b
covers_le D a [] b h = omega arith
covers_le D a (c ∷ cs) b h = let r : end D c ≤ b = covers_le D (end D c) cs b h.1 in let p = begin<end D c in omega arith

covers_append : (D a m b : ℕ) (xs ys : List Cell) → Covers D a xs m → Covers D m ys b → Covers D a (xs ++ ys) b
covers_append D a m b [] ys h k = rw h k
covers_append D a m b (x ∷ xs) ys h k = (h.0, covers_append D (end D x) m b xs ys h.1 k)

-- ---- divisions of one cell

module _ (D : ℕ) (passes : Cell → Bool) (c : Cell) where
  some_cell : (ds : List Cell) → Division D passes c ds → 1 ≤ length ds
  some_cell [] v = let p = begin<end D c in let q : begin D c ≡ end D c = v.covers in absurd (omega arith)
  some_cell (x ∷ ds) v = omega arith

  not_failing : passes c ≡ false → (x : Cell) → Allowed D passes x → x ≡ c → ⊥
  not_failing f x w q = both_ways (passes c) f (subst (λ (y : Cell). passes y ≡ true) q w.passed)

  -- The parts of a list before and behind the moment m.
  record Parts (a m b : ℕ) (ds : List Cell) : Type 0 where
    xs : List Cell
    ys : List Cell
    joined : ds ≡ xs ++ ys
    first : Covers D a xs m
    second : Covers D m ys b
    first_allowed : Each (Allowed D passes) xs
    second_allowed : Each (Allowed D passes) ys

  parts : c.depth < D → passes c ≡ false → (a : ℕ) (ds : List Cell) → begin D c ≤ a → a ≤ begin D (right c) → Covers D a ds (end D c)
      → Each (Allowed D passes) ds → Parts a (begin D (right c)) (end D c) ds
  parts hD f a [] h k v w = let e = end_right D c hD in let p = begin<end D (right c) in absurd (omega arith)
  parts hD f a (x ∷ ds) h k v w =
      elim (cases_lt a (begin D (right c))) [
        | inl l ↦
            let e : end D x ≤ end D c = covers_le D (end D x) ds (end D c) v.1 in
            let d : c.depth < x.depth = deeper D c x (omega arith) (not_failing f x w.0) (omega arith) e in
            let m : end D x ≤ begin D (right c) = no_straddle D c x d w.0.shallow (omega arith) in
            let p = begin<end D x in
            let s = parts hD f (end D x) ds (omega arith) m v.1 w.1 in
            record {
              xs = x ∷ s.xs;
              ys = s.ys;
              joined = λ i. x ∷ s.joined i;
              first = (v.0, s.first);
              second = s.second;
              first_allowed = (w.0, s.first_allowed);
              second_allowed = s.second_allowed;
            }
        | inr g ↦
            record {
              xs = [];
              ys = x ∷ ds;
              joined = refl;
              first = omega arith;
              second = (omega arith, v.1);
              first_allowed = tt;
              second_allowed = w;
            }
      ]

  abbrev Halved : List Cell → Type 0
  Halved ds = (xs : List Cell) × (ys : List Cell) × (ds ≡ xs ++ ys) × Division D passes (left c) xs × Division D passes (right c) ys

  apart : c.depth < D → (ds : List Cell) → Parts (begin D c) (begin D (right c)) (end D c) ds → Halved ds
  apart hD ds s = (
    s.xs,
    s.ys,
    s.joined,
    record { allowed = s.first_allowed; covers = rw (begin_left D c hD) s.first },
    record { allowed = s.second_allowed; covers = rw (end_right D c hD) s.second },
  )

  halved : c.depth < D → passes c ≡ false → (ds : List Cell) → Division D passes c ds → Halved ds
  halved hD f ds v =
      let e = begin_left D c hD in
      let p = begin<end D (left c) in
      apart hD ds (parts hD f (begin D c) ds (omega arith) (omega arith) v.covers v.allowed)

  joined : c.depth < D → (xs ys : List Cell) → Division D passes (left c) xs → Division D passes (right c) ys → Division D passes c (xs ++ ys)
  joined hD xs ys l r =
      record {
        allowed = each_append (Allowed D passes) xs ys l.allowed r.allowed;
        covers = covers_append D (begin D c) (begin D (right c)) (end D c) xs ys
            (rw (begin_left D c hD) at l.covers) (rw (end_right D c hD) at r.covers);
      }

-- ---- the halving of one cell

-- What the halving is to give: a division with the fewest cells, or nothing where there is none.
abbrev Answer : ℕ → (Cell → Bool) → Cell → Option (List Cell) → Type 0
Answer D passes c None = (ds : List Cell) → Division D passes c ds → ⊥
Answer D passes c (Some cs) = Division D passes c cs × ((ds : List Cell) → Division D passes c ds → length cs ≤ length ds)

module _ (D : ℕ) (passes : Cell → Bool) (c : Cell) (inside : c.index < 2 ^ c.depth) where
  passing : c.depth ≤ D → passes c ≡ true → Answer D passes c (Some (c ∷ []))
  passing hD t = (
    record { allowed = (record { inside = inside; shallow = hD; passed = t }, tt); covers = (refl, refl) },
    some_cell D passes c,
  )

  failing_last : c.depth ≡ D → passes c ≡ false → (ds : List Cell) → Division D passes c ds → ⊥
  failing_last e f [] v = let l : 1 ≤ 0 = some_cell D passes c [] v in omega arith
  failing_last e f (x ∷ ds) v =
      let w : Allowed D passes x = v.allowed.0 in
      let h : end D x ≤ end D c = covers_le D (end D x) ds (end D c) v.covers.1 in
      let q : begin D x ≡ begin D c = v.covers.0 in
      let d : c.depth < x.depth = deeper D c x (omega arith) (not_failing D passes c f x w) (omega arith) h in
      omega arith

  last : c.depth ≡ D → (b : Bool) → passes c ≡ b → Answer D passes c (alone_or b c None)
  last e true t = passing (omega arith) t
  last e false f = failing_last e f

  failing : c.depth < D → passes c ≡ false → (l r : Option (List Cell)) → Answer D passes (left c) l → Answer D passes (right c) r
      → Answer D passes c (both l r)
  failing hD f None r al ar = λ ds v. let h = halved D passes c hD f ds v in al h.0 h.3
  failing hD f (Some xs) None al ar = λ ds v. let h = halved D passes c hD f ds v in ar h.1 h.4
  failing hD f (Some xs) (Some ys) al ar = (joined D passes c hD xs ys al.0 ar.0, fewest)
    where
      fewest : (ds : List Cell) → Division D passes c ds → length (xs ++ ys) ≤ length ds
      fewest ds v =
          let h = halved D passes c hD f ds v in
          let l = al.1 h.0 h.3 in
          let r = ar.1 h.1 h.4 in
          rw h.2 (simp length-append (omega arith))

  either : c.depth < D → (b : Bool) → passes c ≡ b → (l r : Option (List Cell)) → Answer D passes (left c) l → Answer D passes (right c) r
      → Answer D passes c (alone_or b c (both l r))
  either hD true t l r al ar = passing (omega arith) t
  either hD false f l r al ar = failing hD f l r al ar

-- over plain numbers, since omega does not compute a cell's depth in a power
pub inside_half : (d k n : ℕ) → k < 2 ^ d → n ≤ 2 * k + 1 → n < 2 ^ (d + 1)
inside_half d k n h l = rw add-one (omega arith)

answer : (D : ℕ) (passes : Cell → Bool) (m : ℕ) (c : Cell) → c.depth + m ≡ D → c.index < 2 ^ c.depth
    → Answer D passes c (halve passes left right m c)
answer D passes zero c e i = last D passes c i (omega arith) (passes c) refl
answer D passes (suc m) c e i =
    either D passes c i (omega arith) (passes c) refl _ _
    (answer D passes m (left c) (omega arith) (inside_half c.depth c.index (2 * c.index) i (omega arith)))
    (answer D passes m (right c) (omega arith) (inside_half c.depth c.index (2 * c.index + 1) i (omega arith)))

-- ---- the halving of the curve

missing : (D : ℕ) (passes : Cell → Bool) (c : Cell) (o : Option (List Cell)) → Answer D passes c o
    → ((cs : List Cell) → Division D passes c cs → ⊥) → o ≡ None
missing D passes c None a n = refl
missing D passes c (Some cs) a n = absurd (n cs a.0)

pub halving_is_fewest : HalvingIsFewest
halving_is_fewest =
    record {
      nothing = λ D passes. (
        λ e t. subst (Answer D passes whole) e (at_whole D passes) t.0 t.1,
        λ n. missing D passes whole (halve passes left right D whole) (at_whole D passes) (λ cs v. n (cs, v)),
      );
      found = λ D passes cs e.
          let a = subst (Answer D passes whole) e (at_whole D passes) in
          record { division = a.0; fewest = a.1 };
      tries = λ D passes cs e. (found passes left right D whole cs e).tries;
      units = units;
    }
  where
    at_whole : (D : ℕ) (passes : Cell → Bool) → Answer D passes whole (halve passes left right D whole)
    at_whole D passes = answer D passes D whole (omega arith) (lit< tt)

-- ---- only one division has the fewest cells

-- Whatever divides the cell into no more cells than the halving finds is what it finds.
abbrev Only : ℕ → (Cell → Bool) → Cell → Option (List Cell) → Type 0
Only D passes c None = Unit {0}
Only D passes c (Some cs) = (ds : List Cell) → Division D passes c ds → length ds ≤ length cs → ds ≡ cs

same_place : (D : ℕ) (c x : Cell) → c.depth ≤ D → x.depth ≤ D → begin D x ≡ begin D c → end D x ≡ end D c → x ≡ c
same_place D c x h k b e =
    elim (cases_lt c.depth x.depth) [
      | inl l ↦ sym (same D x c k (omega arith) (omega arith) (omega arith))
      | inr g ↦ same D c x h g (omega arith) (omega arith)
    ]

module _ (D : ℕ) (passes : Cell → Bool) (c : Cell) where
  only_alone : c.depth ≤ D → (ds : List Cell) → Division D passes c ds → length ds ≤ 1 → ds ≡ c ∷ []
  only_alone h [] v l = let a : 1 ≤ 0 = some_cell D passes c [] v in absurd (omega arith)
  only_alone h (x ∷ []) v l = ap (λ (y : Cell). y ∷ []) (same_place D c x h v.allowed.0.shallow v.covers.0 v.covers.1)
  only_alone h (x ∷ y ∷ ds) v l = absurd (omega arith)

  only_both : c.depth < D → passes c ≡ false → (l r : Option (List Cell)) → Answer D passes (left c) l → Answer D passes (right c) r
      → Only D passes (left c) l → Only D passes (right c) r → Only D passes c (both l r)
  only_both hD f None r al ar ol or = tt
  only_both hD f (Some xs) None al ar ol or = tt
  only_both hD f (Some xs) (Some ys) al ar ol or = λ ds v h.
      let p = halved D passes c hD f ds v in
      let a = al.1 p.0 p.3 in
      let b = ar.1 p.1 p.4 in
      let e : length ds ≡ length p.0 + length p.1 = ap length p.2 ∙ length-append p.0 p.1 in
      let g : length (xs ++ ys) ≡ length xs + length ys = length-append xs ys in
      p.2 ∙ ap₂ (λ (zs ws : List Cell). zs ++ ws) (ol p.0 p.3 (omega arith)) (or p.1 p.4 (omega arith))

  only_or : c.depth ≤ D → (b : Bool) (o : Option (List Cell)) → passes c ≡ b → (passes c ≡ false → Only D passes c o) → Only D passes c (alone_or b c o)
  only_or h true o e f = λ ds v l. only_alone h ds v l
  only_or h false o e f = f e

only : (D : ℕ) (passes : Cell → Bool) (m : ℕ) (c : Cell) → c.depth + m ≡ D → c.index < 2 ^ c.depth → Only D passes c (halve passes left right m c)
only D passes zero c e i = only_or D passes c (omega arith) (passes c) None refl (λ f. tt)
only D passes (suc m) c e i =
    let il = inside_half c.depth c.index (2 * c.index) i (omega arith) in
    let ir = inside_half c.depth c.index (2 * c.index + 1) i (omega arith) in
    only_or D passes c (omega arith) (passes c) _ refl
    (λ f. only_both D passes c (omega arith) f _ _
    (answer D passes m (left c) (omega arith) il) (answer D passes m (right c) (omega arith) ir)
    (only D passes m (left c) (omega arith) il) (only D passes m (right c) (omega arith) ir))

-- The division with the fewest cells is the halving's.
pub fewest_is_found : (D : ℕ) (passes : Cell → Bool) (cs : List Cell) → Fewest D passes cs → halving D passes ≡ Some cs
fewest_is_found D passes cs f = go (halving D passes) refl (only D passes D whole (omega arith) (lit< tt))
  where
    go : (o : Option (List Cell)) → halving D passes ≡ o → Only D passes whole o → halving D passes ≡ Some cs
    go None e h = absurd ((halving_is_fewest.nothing D passes).0 e (cs, f.division))
    go (Some ds) e h =
        let v = halving_is_fewest.found D passes ds e in
        e ∙ ap Some (sym (h cs f.division (f.fewest ds v.division)))
