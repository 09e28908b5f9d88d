-- Rows of work points: there are enough of them for the halves of a cell, and the halves' points are where they are looked for.
use Rattle.std.specs.Prelude.{◌≡◌, ℕ, suc, ◌+◌, ◌-◌, ◌*◌, ◌<◌, ◌≤◌, List, length, take, drop}
use Rattle.std.proofs.Common.{sym, subst, arith, length-take, length-drop}
use Rattle.std.proofs.lemmas.Slice.{take-put_mid_below}
use borrow.Rule.Slice.PartMut.{put_mid}
use Rattle.std.proofs.lemmas.List.{take_all}
use Rattle.ordinate.specs.Kinds.{Kind, Lawful}
use Rattle.distance.specs.Measures.{Measure}
use Rattle.bezier.specs.Reductions.{Rule}
use Rattle.bezier.specs.Rounds.{left_half, right_half}
use Rattle.bezier.proofs.Parts.{inside_left, inside_right, length_left, length_right}
use Rattle.curve.specs.Refusals.{Drawable}

module _ {P : Type 0} (K : Kind P) (M : Measure) (R : Rule P) (law : Lawful K) where
  pub drawn_left : (ps ls : List P) → ls ≡ left_half K ps → Drawable K M R ps → Drawable K M R ls
  drawn_left ps ls e d =
      let l = length_left K ps in
      let n = d.enough in
      let m = d.few in
      subst (Drawable K M R) (sym e) (record { enough = omega arith; few = omega arith; inside = inside_left K law M.limit ps d.inside })

  pub drawn_right : (ps rs : List P) → rs ≡ right_half K ps → Drawable K M R ps → Drawable K M R rs
  drawn_right ps rs e d =
      let l = length_right K ps in
      let n = d.enough in
      let m = d.few in
      subst (Drawable K M R) (sym e) (record { enough = omega arith; few = omega arith; inside = inside_right K law M.limit ps d.inside })

-- ---- how many rows there are: D - d more halvings of a cell of depth d want D - d + 1

pub one_row : (more row n : ℕ) → (more + 1) * row ≤ n → row ≤ n
one_row more row n h = omega arith

pub row_length : {P : Type 0} (more row : ℕ) (work : List P) → (more + 1) * row ≤ length work → length (take row work) ≡ row
row_length more row work h = let o = one_row more row (length work) h in omega (arith, length-take row work)

-- one row more than its halves, of depth e, want
less : (D d e row n : ℕ) → d < D → e ≡ d + 1 → (D - d + 1) * row ≤ n → row + (D - e + 1) * row ≤ n
less D d e row n l q h =
    let s : D - d ≡ suc (D - e) = omega arith in
    let k : (suc (D - e) + 1) * row ≤ n = subst (λ (m : ℕ). (m + 1) * row ≤ n) s h in
    omega arith

pub two_rows : (D d row n : ℕ) → d < D → (D - d + 1) * row ≤ n → 2 * row ≤ n
two_rows D d row n l h = let r = less D d (d + 1) row n l (omega arith) h in let o = one_row (D - (d + 1)) row (n - row) (omega arith) in omega arith

pub rows_kept : (D d e row n : ℕ) → d < D → e ≡ d + 1 → (D - d + 1) * row ≤ n → (D - e + 1) * row ≤ n
rows_kept D d e row n l q h = let r = less D d e row n l q h in omega arith

-- ---- the left half is lent all rows but the first

pub rows_lent : {P : Type 0} (D d e row : ℕ) (work : List P) → d < D → e ≡ d + 1 → (D - d + 1) * row ≤ length work → (D - e + 1) * row ≤ length (take (length work - row) (drop row work))
rows_lent D d e row work l q h =
    let r = less D d e row (length work) l q h in
    let n : length (take (length work - row) (drop row work)) ≡ length work - row = omega (arith, length-take (length work - row) (drop row work), length-drop row work) in
    omega arith

-- The first row of what is lent is the row after the first.
pub next_row : {P : Type 0} (row : ℕ) (work : List P) → take row (take (length work - row) (drop row work)) ≡ take row (drop row work)
next_row row work = let e = take_all (length work - row) (drop row work) (omega (arith, length-drop row work)) in rw e

-- Whatever is written into it, the first row stays.
pub first_row : {P : Type 0} (row : ℕ) (work part : List P) → row ≤ length work → take row (put_mid row (length work - row) work part) ≡ take row work
first_row row work part h = take-put_mid_below row (length work - row) work part row (omega arith) h
