-- The halving over anything that is tested and has halves: how many pieces it finds and tests, and that a map which agrees with tests and halves agrees with it.
use Rattle.std.proofs.Common.{◌≡◌, ℕ, zero, suc, ◌+◌, ◌*◌, ◌^◌, ◌≤◌, Bool, true, false, cond, List, [], ◌∷◌, ◌++◌, map, length, Some, None, Option, refl, subst, arith, lit≤, pow_pos}
use Rattle.std.proofs.lemmas.List.{length-append, map-append}
use Rattle.leg.specs.Chains.{Each}
use Rattle.curve.specs.Cells.{both, alone_or, halve, tested}

pub each_append : {X : Type 0} (Q : X → Type 0) (xs ys : List X) → Each Q xs → Each Q ys → Each Q (xs ++ ys)
each_append Q [] ys h k = k
each_append Q (x ∷ xs) ys h k = (h.0, each_append Q xs ys h.1 k)

-- ---- how many

module _ {X : Type 0} where
  -- What holds of a list that is found with at most m halvings one inside the other, n pieces being tested.
  pub record Found (m n : ℕ) (xs : List X) : Type 0 where
    pub some : 1 ≤ length xs
    pub few : length xs ≤ 2 ^ m
    pub tries : n + 1 ≡ 2 * length xs

  abbrev IfFound : ℕ → ℕ → Option (List X) → Type 0
  IfFound m n None = Unit {0}
  IfFound m n (Some xs) = Found m n xs

  found_alone : (m : ℕ) (x : X) → Found m 1 (x ∷ [])
  found_alone m x = record { some = lit≤ tt; few = pow_pos m; tries = refl }

  found_last : (b : Bool) (x : X) → IfFound 0 1 (alone_or b x None)
  found_last true x = found_alone 0 x
  found_last false x = tt

  found_both : (m n k : ℕ) (o p : Option (List X)) → IfFound m n o → IfFound m k p → IfFound (suc m) (1 + n + k) (both o p)
  found_both m n k None p f g = tt
  found_both m n k (Some xs) None f g = tt
  found_both m n k (Some xs) (Some ys) f g =
      record {
        some = simp length-append (omega arith);
        few = simp length-append (omega arith);
        tries = simp length-append (omega arith);
      }

  found_either : (m n k : ℕ) (b : Bool) (x : X) (o p : Option (List X)) → IfFound m n o → IfFound m k p
      → IfFound (suc m) (cond b 1 (1 + n + k)) (alone_or b x (both o p))
  found_either m n k true x o p f g = found_alone (suc m) x
  found_either m n k false x o p f g = found_both m n k o p f g

module _ {X : Type 0} (passes : X → Bool) (left_of right_of : X → X) where
  if_found : (m : ℕ) (x : X) → IfFound m (tested passes left_of right_of m x) (halve passes left_of right_of m x)
  if_found zero x = found_last (passes x) x
  if_found (suc m) x = found_either m _ _ (passes x) x _ _ (if_found m (left_of x)) (if_found m (right_of x))

  pub found : (m : ℕ) (x : X) (xs : List X) → halve passes left_of right_of m x ≡ Some xs → Found m (tested passes left_of right_of m x) xs
  found m x xs e = subst (IfFound m (tested passes left_of right_of m x)) e (if_found m x)

-- ---- maps

abbrev pub over : {X Y : Type 0} → (X → Y) → Option (List X) → Option (List Y)
over f None = None
over f (Some xs) = Some (map f xs)

module _ {X Y : Type 0} (f : X → Y) where
  alone_over : (b : Bool) (x : X) (o : Option (List X)) → alone_or b (f x) (over f o) ≡ over f (alone_or b x o)
  alone_over true x o = refl
  alone_over false x o = refl

  both_over : (o p : Option (List X)) → both (over f o) (over f p) ≡ over f (both o p)
  both_over None p = refl
  both_over (Some xs) None = refl
  both_over (Some xs) (Some ys) = rw map-append

-- A map that agrees with tests and halves.
module _
    {X Y : Type 0} (f : X → Y)
    (passes : X → Bool) (left_of right_of : X → X)
    (passes' : Y → Bool) (left_of' right_of' : Y → Y)
    (same_test : (x : X) → passes' (f x) ≡ passes x)
    (same_left : (x : X) → left_of' (f x) ≡ f (left_of x))
    (same_right : (x : X) → right_of' (f x) ≡ f (right_of x)) where
  pub halve_over : (m : ℕ) (x : X) → halve passes' left_of' right_of' m (f x) ≡ over f (halve passes left_of right_of m x)
  halve_over zero x = rw same_test (alone_over f (passes x) x None)
  halve_over (suc m) x = simp (same_test, same_left, same_right, halve_over m, both_over) (alone_over f (passes x) x _)

  pub tested_over : (m : ℕ) (x : X) → tested passes' left_of' right_of' m (f x) ≡ tested passes left_of right_of m x
  tested_over zero x = refl
  tested_over (suc m) x = simp (same_test, same_left, same_right, tested_over m)
