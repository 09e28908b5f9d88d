-- A record's octets tell its leg, and the data in a record its octets.
use Rattle.std.proofs.Common.{◌≡◌, ℕ, zero, suc, ◌+◌, ◌-◌, ◌*◌, ◌^◌, ◌<◌, ◌≤◌, List, [], ◌∷◌, ◌++◌, length, get_or, take, drop, ℤ, sym, ap, ◌∙◌, subst, ap₂, inl, inr, add-one, arith, length-append, length-drop, length-take, take-add}
use Rattle.std.proofs.Math.Nat.{pow-le-pow_right}
use Rattle.std.proofs.Math.Seq.{take-append-le, drop-append-le}
use Rattle.std.specs.Int.Digits.{number_from_digits}
use Rattle.std.specs.Simd.{first_chunks}
use Rattle.std.proofs.lemmas.Bool.{cases_lt}
use Rattle.std.proofs.lemmas.List.{get_or_past, take_at, drop_at, append_assoc, drop-drop, drop-take, take-take, drop_all, take-append-drop, get_or-take, get_or-drop}
use Rattle.ordinate.specs.Octets.{be, coordinate_of}
use Rattle.ordinate.specs.Kinds.{Kind, Lawful, InRange, coordinates, point_octets}
use Rattle.ordinate.specs.Laws.Octets.{length_be, be_number, number_be, octets_written, coordinate_written}
use Rattle.ordinate.specs.Laws.Points.{admitted_fits, coordinates_none, coordinates_more, coordinates_same, coordinates_at, length_coordinates}
use Rattle.leg.specs.Legs.{IsLeg}
use Rattle.leg.specs.declared.leg.Leg.{Leg}
use Rattle.card.specs.Records.{parts, field, point_at, leg_of, record_octets, record_length}

abbrev pub Octets : List ℕ → Type 0
Octets xs = (i : ℕ) → get_or xs i 0 < 256

-- ---- parts of octets
part_octets : (xs : List ℕ) → Octets xs → (at n : ℕ) → Octets (take n (drop at xs))
part_octets xs h at n i =
    elim (cases_lt i n) [
      | inl l ↦ subst (λ (v : ℕ). v < 256) (sym (get_or-take n (drop at xs) i 0 l ∙ get_or-drop at xs i 0)) (h (at + i))
      | inr g ↦ subst (λ (v : ℕ). v < 256) (sym (get_or_past (take n (drop at xs)) i 0 (omega (arith, length-take n (drop at xs))))) (omega arith)
    ]

part_length : (xs : List ℕ) (at n : ℕ) → at + n ≤ length xs → length (take n (drop at xs)) ≡ n
part_length xs at n h = omega (arith, length-take n (drop at xs), length-drop at xs)

pub part_off : (xs : List ℕ) (at n : ℕ) → drop at xs ≡ take n (drop at xs) ++ drop (at + n) xs
part_off xs at n = sym (take-append-drop n (drop at xs)) ∙ ap (λ (ys : List ℕ). take n (drop at xs) ++ ys) (drop-drop n at xs)

-- a part of the front of some octets is that part of them all
pub part_of_front : (at n m : ℕ) (xs : List ℕ) → at + n ≤ m → take n (drop at (take m xs)) ≡ take n (drop at xs)
part_of_front at n m xs h =
    let z : m ≡ at + (m - at) = omega arith in
    ap (λ (k : ℕ). take n (drop at (take k xs))) z ∙ ap (take n) (drop-take at (m - at) xs) ∙ take-take n (m - at) (drop at xs) (omega arith)

-- one of the chunks that octets are cut into
chunk_at : (n k i : ℕ) (xs d : List ℕ) → i < k → get_or (first_chunks n k xs) i d ≡ take n (drop (n * i) xs)
chunk_at n zero i xs d h = absurd (omega arith)
chunk_at n (suc k) zero xs d h = let z : n * 0 ≡ 0 = omega arith in rw z
chunk_at n (suc k) (suc i) xs d h =
    let z : n + n * i ≡ n * suc i = omega arith in
    chunk_at n k i (drop n xs) d (omega arith) ∙ ap (take n) (drop-drop (n * i) n xs ∙ ap (λ (m : ℕ). drop m xs) z)

pub chunk_of_part : (n k i at m : ℕ) (xs d : List ℕ) → i < k → n * i + n ≤ m → get_or (first_chunks n k (take m (drop at xs))) i d ≡ take n (drop (at + n * i) xs)
chunk_of_part n k i at m xs d h l =
    chunk_at n k i (take m (drop at xs)) d h ∙ part_of_front (n * i) n m (drop at xs) l ∙ ap (take n) (drop-drop (n * i) at xs)

-- what stands at the front, and the rest
pub rest_of : (at n : ℕ) (x rest ys : List ℕ) → drop at ys ≡ x ++ rest → length x ≡ n → drop (at + n) ys ≡ rest
rest_of at n x rest ys e l = sym (drop-drop n at ys) ∙ ap (drop n) e ∙ drop_at x rest n l

pub field_read : (at n v : ℕ) (rest ys : List ℕ) → drop at ys ≡ be n v ++ rest → v < 256 ^ n → field at n ys ≡ v
field_read at n v rest ys e h = ap (number_from_digits 256) (ap (take n) e ∙ take_at (be n v) rest n (length_be n v)) ∙ number_be n v h

pub field_written : (xs : List ℕ) → Octets xs → (at n : ℕ) → at + n ≤ length xs → be n (field at n xs) ≡ take n (drop at xs)
field_written xs h at n l =
    ap (λ (k : ℕ). be k (field at n xs)) (sym (part_length xs at n l)) ∙ be_number (take n (drop at xs)) (part_octets xs h at n)

-- ---- points and records
leg_same : {P : Type 0} (K : Kind P) (l l' : Leg P) → l.stretch.from ≡ l'.stretch.from → l.stretch.ticks ≡ l'.stretch.ticks → l.stretch.cell.depth ≡ l'.stretch.cell.depth → l.degree ≡ l'.degree
    → l.stretch.cell.index ≡ l'.stretch.cell.index → l.start ≡ l'.start → l.middle ≡ l'.middle → l.end ≡ l'.end → l ≡ l'
leg_same {P} K l l' a b c d e f g h =
    let made : ℕ → ℕ → ℕ → ℕ → ℕ → P → P → P → Leg P = (λ S L d k m s q z. record { stretch = record { from = S; ticks = L; cell = record { depth = d; index = k } }; degree = m; start = s; middle = q; end = z }) in
    ap₂ (λ (x y : ℕ). made x y l.stretch.cell.depth l.stretch.cell.index l.degree l.start l.middle l.end) a b
    ∙ ap₂ (λ (x y : ℕ). made l'.stretch.from l'.stretch.ticks x y l.degree l.start l.middle l.end) c e
    ∙ ap₂ (λ (x : ℕ) (y : P). made l'.stretch.from l'.stretch.ticks l'.stretch.cell.depth l'.stretch.cell.index x y l.middle l.end) d f
    ∙ ap₂ (λ (x y : P). made l'.stretch.from l'.stretch.ticks l'.stretch.cell.depth l'.stretch.cell.index l'.degree l'.start x y) g h

module _ {P : Type 0} (K : Kind P) where
  abbrev w : ℕ
  w = 8 * K.dimension

  pub point_length : (p : P) → length (point_octets K p) ≡ w
  point_length p = length_coordinates K.dimension (K.coordinate p)

  -- a record as its nine fields
  abbrev fields : Leg P → List (List ℕ)
  fields l =
      be 4 l.stretch.from
      ∷ be 2 l.stretch.ticks
      ∷ be 1 l.stretch.cell.depth
      ∷ be 1 l.degree
      ∷ be 2 l.stretch.cell.index
      ∷ be 2 0
      ∷ point_octets K l.start
      ∷ point_octets K l.middle
      ∷ point_octets K l.end
      ∷ []

  pub as_fields : (l : Leg P) → record_octets K l ≡ parts (fields l)
  as_fields l = simp append_assoc

  pub record_length_is : (l : Leg P) → length (record_octets K l) ≡ record_length K
  record_length_is l =
      ap length (as_fields l)
      ∙ simp length-append
      (omega (arith, length_be 4 l.stretch.from, length_be 2 l.stretch.ticks, length_be 1 l.stretch.cell.depth, length_be 1 l.degree, length_be 2 l.stretch.cell.index, length_be 2 0, point_length l.start, point_length l.middle, point_length l.end))

  module _ (law : Lawful K) where
    -- ---- a leg is the data in its record
    point_read : (p : P) → InRange K p → (at : ℕ) (rest ys : List ℕ) → drop at ys ≡ point_octets K p ++ rest → point_at K at ys ≡ p
    point_read p h at rest ys e =
        let pts = point_octets K p in
        let len = point_length p in
        law.same (point_at K at ys) p
        (λ i lt.
        let a : 8 * i ≤ length pts = omega arith in
        let b : 8 ≤ length (drop (8 * i) pts) = omega (arith, length-drop (8 * i) pts) in
        law.remade _ i lt
        ∙ ap coordinate_of
        (ap (take 8) (sym (drop-drop (8 * i) at ys) ∙ ap (drop (8 * i)) e ∙ drop-append-le (8 * i) pts rest a) ∙ take-append-le 8 (drop (8 * i) pts) rest b
        ∙ coordinates_at K.dimension i (K.coordinate p) lt)
        ∙ coordinate_written (K.coordinate p i) (admitted_fits K law (K.coordinate p i) (h i lt)))

    spare_at : (l : Leg P) → drop 10 (record_octets K l) ≡ parts (be 2 0 ∷ point_octets K l.start ∷ point_octets K l.middle ∷ point_octets K l.end ∷ [])
    spare_at l =
        let xs = record_octets K l in
        let d₄ = rest_of 0 4 _ _ xs (as_fields l) (length_be 4 l.stretch.from) in
        let d₆ = rest_of 4 2 _ _ xs d₄ (length_be 2 l.stretch.ticks) in
        let d₇ = rest_of 6 1 _ _ xs d₆ (length_be 1 l.stretch.cell.depth) in
        let d₈ = rest_of 7 1 _ _ xs d₇ (length_be 1 l.degree) in
        rest_of 8 2 _ _ xs d₈ (length_be 2 l.stretch.cell.index)

    pub spare_read : (l : Leg P) → field 10 2 (record_octets K l) ≡ 0
    spare_read l = field_read 10 2 0 _ (record_octets K l) (spare_at l) (omega arith)

    pub leg_read : (l : Leg P) → IsLeg K l → leg_of K (record_octets K l) ≡ l
    leg_read l i =
        let xs = record_octets K l in
        let n = i.place in
        let p : 2 ^ l.stretch.cell.depth ≤ 1024 = pow-le-pow_right {n = 2} (omega arith) {i = l.stretch.cell.depth} {j = 10} n.shallow in
        let m : l.degree < 256 = elim i.one_or_two [ inl e ↦ omega arith | inr e ↦ omega arith ] in
        let d₄ = rest_of 0 4 _ _ xs (as_fields l) (length_be 4 l.stretch.from) in
        let d₆ = rest_of 4 2 _ _ xs d₄ (length_be 2 l.stretch.ticks) in
        let d₇ = rest_of 6 1 _ _ xs d₆ (length_be 1 l.stretch.cell.depth) in
        let d₈ = rest_of 7 1 _ _ xs d₇ (length_be 1 l.degree) in
        let d₁₂ = rest_of 10 2 _ _ xs (spare_at l) (length_be 2 0) in
        let dm = rest_of 12 w _ _ xs d₁₂ (point_length l.start) in
        let at : 12 + w + w ≡ 12 + 2 * w = omega arith in
        let de = ap (λ (k : ℕ). drop k xs) (sym at) ∙ rest_of (12 + w) w _ _ xs dm (point_length l.middle) in
        let e₁ : field 0 4 xs ≡ l.stretch.from = field_read 0 4 l.stretch.from _ xs (as_fields l) (omega arith) in
        let e₂ : field 4 2 xs ≡ l.stretch.ticks = field_read 4 2 l.stretch.ticks _ xs d₄ (omega arith) in
        let e₃ : field 6 1 xs ≡ l.stretch.cell.depth = field_read 6 1 l.stretch.cell.depth _ xs d₆ (omega arith) in
        let e₄ : field 7 1 xs ≡ l.degree = field_read 7 1 l.degree _ xs d₇ (omega arith) in
        let e₅ : field 8 2 xs ≡ l.stretch.cell.index = field_read 8 2 l.stretch.cell.index _ xs d₈ (omega arith) in
        let e₆ : point_at K 12 xs ≡ l.start = point_read l.start i.start_in 12 _ xs d₁₂ in
        let e₇ : point_at K (12 + w) xs ≡ l.middle = point_read l.middle i.middle_in (12 + w) _ xs dm in
        let e₈ : point_at K (12 + 2 * w) xs ≡ l.end = point_read l.end i.end_in (12 + 2 * w) _ xs de in
        leg_same K (leg_of K xs) l e₁ e₂ e₃ e₄ e₅ e₆ e₇ e₈

    -- Two legs with the same octets are the same.
    pub record_told : (l l' : Leg P) → IsLeg K l → IsLeg K l' → record_octets K l ≡ record_octets K l' → l ≡ l'
    record_told l l' i i' e = sym (leg_read l i) ∙ ap (leg_of K) e ∙ leg_read l' i'

    -- ---- the data in a record whose spare octets are zero has the octets of the record
    coordinates_written : (xs : List ℕ) → Octets xs → (at n : ℕ) → at + 8 * n ≤ length xs → coordinates n (λ i. coordinate_of (take 8 (drop (at + 8 * i) xs))) ≡ take (8 * n) (drop at xs)
    coordinates_written xs h at zero l = coordinates_none _
    coordinates_written xs h at (suc n) l =
        let f : ℕ → ℤ = (λ i. coordinate_of (take 8 (drop (at + 8 * i) xs))) in
        let z : 8 * n + 8 ≡ 8 * suc n = omega arith in
        rw (sym (add-one n)) (coordinates_more n f)
        ∙ ap₂ (λ (us vs : List ℕ). us ++ vs) (coordinates_written xs h at n (omega arith))
        (octets_written (take 8 (drop (at + 8 * n) xs)) (part_length xs (at + 8 * n) 8 (omega arith)) (part_octets xs h (at + 8 * n) 8) ∙ ap (take 8) (sym (drop-drop (8 * n) at xs)))
        ∙ sym (take-add (8 * n) 8 (drop at xs)) ∙ ap (λ (k : ℕ). take k (drop at xs)) z

    point_written : (xs : List ℕ) → Octets xs → (at : ℕ) → at + w ≤ length xs → point_octets K (point_at K at xs) ≡ take w (drop at xs)
    point_written xs h at l = coordinates_same K.dimension _ _ (λ j lt. law.remade _ j lt) ∙ coordinates_written xs h at K.dimension l

    pub leg_written : (xs : List ℕ) → Octets xs → length xs ≡ record_length K → field 10 2 xs ≡ 0 → record_octets K (leg_of K xs) ≡ xs
    leg_written xs h len spare =
        let at : 12 + w + w ≡ 12 + 2 * w = omega arith in
        let f₁ = field_written xs h 0 4 (omega arith) in
        let f₂ = field_written xs h 4 2 (omega arith) in
        let f₃ = field_written xs h 6 1 (omega arith) in
        let f₄ = field_written xs h 7 1 (omega arith) in
        let f₅ = field_written xs h 8 2 (omega arith) in
        let f₆ = ap (be 2) (sym spare) ∙ field_written xs h 10 2 (omega arith) in
        let f₇ = point_written xs h 12 (omega arith) in
        let f₈ = point_written xs h (12 + w) (omega arith) in
        let f₉ = point_written xs h (12 + 2 * w) (omega arith) in
        let o₁ = part_off xs 0 4 in
        let o₂ = part_off xs 4 2 in
        let o₃ = part_off xs 6 1 in
        let o₄ = part_off xs 7 1 in
        let o₅ = part_off xs 8 2 in
        let o₆ = part_off xs 10 2 in
        let o₇ = part_off xs 12 w in
        let o₈ = part_off xs (12 + w) w ∙ ap (λ (k : ℕ). take w (drop (12 + w) xs) ++ drop k xs) at in
        let o₉ = part_off xs (12 + 2 * w) w ∙ ap (λ (ys : List ℕ). take w (drop (12 + 2 * w) xs) ++ ys) (drop_all (12 + 2 * w + w) xs (omega arith)) in
        as_fields (leg_of K xs) ∙ cc
