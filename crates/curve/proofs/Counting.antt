-- Counting the pieces of a cell: what a cell that passes, one that fails at the last depth, and one that is halved come to; and how large the counts may be.
use Rattle.std.specs.Prelude.{◌≡◌, ℕ, zero, suc, ◌+◌, ◌-◌, ◌*◌, ◌^◌, ◌<◌, ◌≤◌, true, false, List, length, Some, None, Option, refl}
use Rattle.std.proofs.Common.{sym, ap, ap₂, ◌∙◌, arith, length-append, pow_mono}
use Rattle.ordinate.specs.Kinds.{Kind}
use Rattle.distance.specs.Measures.{Measure}
use Rattle.bezier.specs.Reductions.{Rule}
use Rattle.bezier.specs.Rounds.{left_half, right_half}
use Rattle.leg.specs.declared.leg.Cell.{Cell}
use Rattle.curve.specs.Cells.{both, left, right}
use Rattle.curve.specs.Pieces.{Piece, left_piece, piece, piece_passes, pieces, pieces_tested, right_piece, tally}
use Rattle.curve.specs.declared.tally.Tally.{Tally}
use Rattle.curve.proofs.Pieces.{found}

-- The tally of a cell from those of its halves.
abbrev pub added : Option Tally → Option Tally → Option Tally
added None o = None
added (Some a) None = None
added (Some a) (Some b) = Some (record { legs = a.legs + b.legs; cells = 1 + a.cells + b.cells })

tally_both : {X : Type 0} (o p : Option (List X)) (n k : ℕ) → tally (both o p) (1 + n + k) ≡ added (tally o n) (tally p k)
tally_both None p n k = refl
tally_both (Some xs) None n k = refl
tally_both (Some xs) (Some ys) n k = rw (length-append xs ys)

module _ {P : Type 0} (K : Kind P) (M : Measure) (R : Rule P) (t : ℕ) where
  abbrev pub counted : ℕ → Piece P → Option Tally
  counted more x = tally (pieces K M R t more x) (pieces_tested K M R t more x)

  pub counted_passing : (more : ℕ) (x : Piece P) → piece_passes K M R t x ≡ true → counted more x ≡ Some (record { legs = 1; cells = 1 })
  counted_passing zero x e = rw e
  counted_passing (suc more) x e = rw e

  pub counted_last : (more : ℕ) (x : Piece P) → more ≡ 0 → piece_passes K M R t x ≡ false → counted more x ≡ None
  counted_last zero x z e = rw e
  counted_last (suc more) x z e = absurd (omega arith)

  halved : (more : ℕ) (x : Piece P) → piece_passes K M R t x ≡ false → counted (suc more) x ≡ added (counted more (left_piece K M R t x)) (counted more (right_piece K M R t x))
  halved more x e = rw e (tally_both (pieces K M R t more (left_piece K M R t x)) (pieces K M R t more (right_piece K M R t x)) _ _)

  -- The cell c fails, and is not of the depth D. Its halves l and r have the points ls and rs.
  pub counted_halved : (D : ℕ) (c l r : Cell) (ps ls rs : List P) (a b : Option Tally) → c.depth < D → piece_passes K M R t (piece c ps) ≡ false
      → l ≡ left c → r ≡ right c → ls ≡ left_half K ps → rs ≡ right_half K ps
      → a ≡ counted (D - l.depth) (piece l ls) → b ≡ counted (D - r.depth) (piece r rs) → counted (D - c.depth) (piece c ps) ≡ added a b
  counted_halved D c l r ps ls rs a b shallow f el er hl hr p q =
      let less : D - c.depth ≡ suc (D - (c.depth + 1)) = omega arith in
      ap (λ (n : ℕ). counted n (piece c ps)) less ∙ halved (D - (c.depth + 1)) (piece c ps) f
      ∙ sym (ap₂ added (p ∙ ap₂ (λ (x : Cell) (xs : List P). counted (D - x.depth) (piece x xs)) el hl) (q ∙ ap₂ (λ (x : Cell) (xs : List P). counted (D - x.depth) (piece x xs)) er hr))

  few : (m n : ℕ) (o : Option (List (Piece P))) (y : Tally) → ((xs : List (Piece P)) → o ≡ Some xs → (length xs ≤ 2 ^ m) × (n + 1 ≡ 2 * length xs)) → Some y ≡ tally o n → (y.legs ≤ 2 ^ m) × (y.cells + 1 ≡ 2 * y.legs)
  few m n None y h e = absurd (cc)
  few m n (Some xs) y h e = let f = h xs refl in let l : y.legs ≡ length xs = cc in let k : y.cells ≡ n = cc in (omega arith, omega arith)

  -- There are no more legs than halvings allow, and fewer than twice as many cells.
  pub counted_few : (more : ℕ) (x : Piece P) (y : Tally) → Some y ≡ counted more x → more ≤ 10 → (y.legs ≤ 1024) × (y.cells + 1 ≡ 2 * y.legs)
  counted_few more x y e h =
      let b : 2 ^ more ≤ 2 ^ 10 = pow_mono h in
      let f = few more (pieces_tested K M R t more x) (pieces K M R t more x) y
      (λ xs p. let w = found (piece_passes K M R t) (left_piece K M R t) (right_piece K M R t) more x xs p in (w.few, w.tries)) e in
      (omega arith, f.1)
