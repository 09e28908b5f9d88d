-- Putting the legs of a cell: what a cell that passes puts, and that the legs of a cell that is halved are those of its left half and then those of its right half.
use Rattle.std.specs.Prelude.{◌≡◌, ℕ, zero, suc, ◌+◌, ◌-◌, ◌<◌, ◌≤◌, true, false, List, [], ◌∷◌, ◌++◌, map, Some, None, Option, Ok, Err, Result}
use Rattle.std.proofs.Common.{sym, ap, ap₂, subst, ◌∙◌, arith, length-append, append_assoc}
use Rattle.std.proofs.lemmas.List.{length-map, map-append}
use Rattle.ordinate.specs.Kinds.{Kind}
use Rattle.distance.specs.Measures.{Measure}
use Rattle.bezier.specs.Reductions.{Rule}
use Rattle.bezier.specs.Rounds.{left_half, right_half}
use Rattle.leg.specs.Chains.{Each}
use Rattle.leg.specs.Legs.{IsLeg}
use Rattle.leg.specs.declared.leg.Cell.{Cell}
use Rattle.leg.specs.declared.leg.Leg.{Leg}
use Rattle.outlet.specs.Outlets.{Contents, Put, room, with_legs}
use Rattle.outlet.specs.declared.put_refusal.PutRefusal.{PutRefusal}
use Rattle.outlet.specs.declared.put_refusal.PutRefusal.TheVariants.{NoLeg, Full}
use Rattle.curve.specs.Cells.{both, left, right}
use Rattle.curve.specs.Pieces.{Piece, Ready, handed, piece, piece_passes, pieces}

each_left : {X : Type 0} (Q : X → Type 0) (xs ys : List X) → Each Q (xs ++ ys) → Each Q xs
each_left Q [] ys h = tt
each_left Q (x ∷ xs) ys h = (h.0, each_left Q xs ys h.1)

each_right : {X : Type 0} (Q : X → Type 0) (xs ys : List X) → Each Q (xs ++ ys) → Each Q ys
each_right Q [] ys h = h
each_right Q (x ∷ xs) ys h = each_right Q xs ys h.1

module _ {P X : Type 0} (K : Kind P) (leg : X → Leg P) where
  ready_left : (a b : Option (List X)) (c : Contents P) → Ready K leg (both a b) c → Ready K leg a c
  ready_left None b c h = h
  ready_left (Some xs) None c h = absurd h
  ready_left (Some xs) (Some ys) c h = (omega (arith, h.0, length-append xs ys), each_left (λ x. IsLeg K (leg x)) xs ys h.1)

  ready_right : (a b : Option (List X)) (c : Contents P) → Ready K leg (both a b) c → Ready K leg b (handed leg a c)
  ready_right None b c h = absurd h
  ready_right (Some xs) None c h = h
  ready_right (Some xs) (Some ys) c h =
      let n = length-append c.legs (map leg xs) in
      let m = length-map xs leg in
      let k = length-append xs ys in
      (omega (arith, h.0), each_right (λ x. IsLeg K (leg x)) xs ys h.1)

  handed_both : (a b : Option (List X)) (c : Contents P) → Ready K leg (both a b) c → handed leg (both a b) c ≡ handed leg b (handed leg a c)
  handed_both None b c h = absurd h
  handed_both (Some xs) None c h = absurd h
  handed_both (Some xs) (Some ys) c h =
      let e : c.legs ++ map leg (xs ++ ys) ≡ (c.legs ++ map leg xs) ++ map leg ys = rw map-append (sym (append_assoc c.legs (map leg xs) (map leg ys))) in
      ap (λ (ls : List (Leg P)). record { legs = ls; capacity = c.capacity }) e

pub put_taken : {P : Type 0} (K : Kind P) (c c' : Contents P) (l m : Leg P) (r : Result (Unit {0}) PutRefusal) → l ≡ m → IsLeg K m → 1 ≤ room c → Put K c l r c' → c' ≡ with_legs c (m ∷ [])
put_taken {P = P} K c c' l m (Ok u) e i n p = p.2 ∙ ap (λ (x : Leg P). with_legs c (x ∷ [])) e
put_taken {P = P} K c c' l m (Err NoLeg) e i n p = absurd (p.0 (subst (IsLeg K) (sym e) i))
put_taken {P = P} K c c' l m (Err Full) e i n p = absurd (omega (arith, p.1))

module _ {P : Type 0} (K : Kind P) (M : Measure) (R : Rule P) (t : ℕ) (leg : Piece P → Leg P) where
  abbrev pub may : ℕ → Piece P → Contents P → Type 0
  may more x c = Ready K leg (pieces K M R t more x) c

  abbrev pub put : ℕ → Piece P → Contents P → Contents P
  put more x c = handed leg (pieces K M R t more x) c

  pub passing_alone : (more : ℕ) (x : Piece P) → piece_passes K M R t x ≡ true → pieces K M R t more x ≡ Some (x ∷ [])
  passing_alone zero x e = rw e
  passing_alone (suc more) x e = rw e

  pub put_passing : (more : ℕ) (x : Piece P) (c c' : Contents P) (l : Leg P) (r : Result (Unit {0}) PutRefusal) → piece_passes K M R t x ≡ true → may more x c → l ≡ leg x → Put K c l r c' → c' ≡ put more x c
  put_passing more x c c' l r f h e p =
      let one = passing_alone more x f in
      let h' = subst (λ (o : Option (List (Piece P))). Ready K leg o c) one h in
      put_taken K c c' l (leg x) r e h'.1.0 h'.0 p ∙ sym (ap (λ (o : Option (List (Piece P))). handed leg o c) one)

  halved : (less : ℕ) (x : Piece P) → piece_passes K M R t x ≡ false
      → pieces K M R t (suc less) x ≡ both (pieces K M R t less (piece (left x.cell) (left_half K x.points))) (pieces K M R t less (piece (right x.cell) (right_half K x.points)))
  halved less x e = rw e

  -- The cell c fails, and is not of the depth D. Its halves l and r have the points ls and rs, and the legs are for the outlet o.
  module _
      (D : ℕ) (c l r : Cell) (ps ls rs : List P) (o : Contents P)
      (shallow : c.depth < D) (fails : piece_passes K M R t (piece c ps) ≡ false)
      (is_left : l ≡ left c) (is_right : r ≡ right c) (left_row : ls ≡ left_half K ps) (right_row : rs ≡ right_half K ps)
      (ready : may (D - c.depth) (piece c ps) o) where
    abbrev left_pieces : Option (List (Piece P))
    left_pieces = pieces K M R t (D - l.depth) (piece l ls)

    abbrev right_pieces : Option (List (Piece P))
    right_pieces = pieces K M R t (D - r.depth) (piece r rs)

    apart : pieces K M R t (D - c.depth) (piece c ps) ≡ both left_pieces right_pieces
    apart =
        let less : D - c.depth ≡ suc (D - (c.depth + 1)) = omega arith in
        let of_half : Cell → List P → Option (List (Piece P)) = λ x xs. pieces K M R t (D - x.depth) (piece x xs) in
        ap (λ (n : ℕ). pieces K M R t n (piece c ps)) less ∙ halved (D - (c.depth + 1)) (piece c ps) fails
        ∙ sym (ap₂ both (ap₂ of_half is_left left_row) (ap₂ of_half is_right right_row))

    ready_apart : Ready K leg (both left_pieces right_pieces) o
    ready_apart = subst (λ (p : Option (List (Piece P))). Ready K leg p o) apart ready

    pub may_left : may (D - l.depth) (piece l ls) o
    may_left = ready_left K leg left_pieces right_pieces o ready_apart

    pub may_right : (o' : Contents P) → o' ≡ put (D - l.depth) (piece l ls) o → may (D - r.depth) (piece r rs) o'
    may_right o' q = subst (λ (x : Contents P). Ready K leg right_pieces x) (sym q) (ready_right K leg left_pieces right_pieces o ready_apart)

    pub put_both : (o' : Contents P) → o' ≡ put (D - l.depth) (piece l ls) o → put (D - r.depth) (piece r rs) o' ≡ put (D - c.depth) (piece c ps) o
    put_both o' q =
        ap (λ (x : Contents P). handed leg right_pieces x) q ∙ sym (handed_both K leg left_pieces right_pieces o ready_apart)
        ∙ sym (ap (λ (p : Option (List (Piece P))). handed leg p o) apart)
