-- The header: what its octets tell, and the room for its records.
use Rattle.std.proofs.Common.{◌≡◌, ℕ, ◌+◌, ◌-◌, ◌*◌, ◌/◌, ◌%◌, ◌<◌, ◌≤◌, ◌↔◌, List, [], ◌∷◌, ◌++◌, length, take, drop, sym, refl, ap, ◌∙◌, ap₂, arith, take-add}
use Rattle.std.proofs.Math.Nat.{mod-eq_of_lt}
use Rattle.std.proofs.Math.Seq.{paste}
use Rattle.std.proofs.lemmas.Nat.{mul-le, div-add-mod'}
use Rattle.std.proofs.lemmas.List.{append-nil, append_assoc, take-append-drop, drop-drop}
use Rattle.ordinate.specs.Octets.{be}
use Rattle.ordinate.specs.Kinds.{Kind, Lawful}
use Rattle.ordinate.specs.Laws.Octets.{length_be}
use Rattle.card.specs.Records.{parts, field, record_length}
use Rattle.card.specs.Cards.{front, capacity}
use Rattle.card.proofs.Codec.{Octets, rest_of, field_read, field_written}
use Rattle.card.proofs.Writing.{begun_none, begun_more, begun_front}

-- ---- the room for records
pub capacity_room : {P : Type 0} (K : Kind P) (n L : ℕ) → 8 ≤ L → n ≤ capacity K L → 8 + record_length K * n ≤ L
capacity_room K n L h m =
    let w = record_length K in
    let q = (L - 8) / w in
    let d = div-add-mod' (L - 8) w in
    let l : n ≤ q = omega arith in
    let p = mul-le n w q w l (omega arith) in
    omega arith

pub capacity_limit : {P : Type 0} (K : Kind P) (n L : ℕ) → n ≤ capacity K L → n ≤ 67108864
capacity_limit K n L h = omega arith

-- places of records
pub place_below : (w n m L : ℕ) → n ≤ m → 8 + w * m ≤ L → 8 + w * n ≤ L
place_below w n m L h l = let p = mul-le n w m w h (omega arith) in omega arith

pub places_between : (w n m : ℕ) → n ≤ m → 8 + w * m - (8 + w * n) ≡ w * (m - n)
places_between w n m h =
    let z : n + (m - n) ≡ m = omega arith in
    let e : w * m ≡ w * n + w * (m - n) = ap (λ (k : ℕ). w * k) (sym z) ∙ omega arith in
    omega arith

-- ---- kind, edition and record length
pub front_is : {P : Type 0} (K : Kind P) → K.code < 256 → front K ≡ K.code ∷ 1 ∷ (record_length K / 256 % 256) ∷ (record_length K % 256) ∷ []
unfolding be
front_is K h = ap (λ (k : ℕ). k ∷ 1 ∷ (record_length K / 256 % 256) ∷ (record_length K % 256) ∷ []) (mod-eq_of_lt h)

module _ {P : Type 0} (K : Kind P) (law : Lawful K) (xs : List ℕ) where
  front_read : take 4 xs ≡ front K → (field 0 1 xs ≡ K.code) × (field 1 1 xs ≡ 1) × (field 2 2 xs ≡ record_length K)
  front_read e =
      let few = law.few in
      let d₀ : xs ≡ parts (be 1 K.code ∷ be 1 1 ∷ be 2 (record_length K) ∷ drop 4 xs ∷ []) =
      sym (take-append-drop 4 xs) ∙ ap (λ (ys : List ℕ). ys ++ drop 4 xs) e ∙ simp (append_assoc, append-nil) in
      let d₁ = rest_of 0 1 _ _ xs d₀ (length_be 1 K.code) in
      let d₂ = rest_of 1 1 _ _ xs d₁ (length_be 1 1) in
      (field_read 0 1 K.code _ xs d₀ law.octet, field_read 1 1 1 _ xs d₁ (omega arith), field_read 2 2 (record_length K) _ xs d₂ (omega arith))

  front_written : Octets xs → 4 ≤ length xs → (field 0 1 xs ≡ K.code) × (field 1 1 xs ≡ 1) × (field 2 2 xs ≡ record_length K) → take 4 xs ≡ front K
  front_written h len t =
      let a = sym (field_written xs h 0 1 (omega arith)) ∙ ap (be 1) t.0 in
      let b = sym (field_written xs h 1 1 (omega arith)) ∙ ap (be 1) t.1 in
      let c = sym (field_written xs h 2 2 (omega arith)) ∙ ap (be 2) t.2 in
      take-add 1 3 xs ∙ ap₂ (λ (us vs : List ℕ). us ++ vs) a
      (take-add 1 2 (drop 1 xs) ∙ ap₂ (λ (us vs : List ℕ). us ++ vs) b (ap (take 2) (drop-drop 1 1 xs) ∙ c ∙ sym (append-nil (be 2 (record_length K)))))

  -- three fields tell the same as the octets
  pub front_told : Octets xs → 4 ≤ length xs → take 4 xs ≡ front K ↔ ((field 0 1 xs ≡ K.code) × (field 1 1 xs ≡ 1) × (field 2 2 xs ≡ record_length K))
  front_told h len = (front_read, front_written h len)

-- ---- writing kind, edition and record length, field by field
pub front_pasted : {P : Type 0} (K : Kind P) (xs : List ℕ) → paste (paste (paste xs 0 (be 1 K.code) 1) 1 (be 1 1) 1) 2 (be 2 (record_length K)) 2 ≡ front K ++ drop 4 xs
front_pasted K xs =
    let b₁ = begun_more xs [] 0 xs (be 1 K.code) 1 0 _ (begun_none xs) (length_be 1 K.code) refl refl in
    let b₂ = begun_more xs _ 1 _ (be 1 1) 1 1 _ b₁ (length_be 1 1) refl refl in
    let b₃ = begun_more xs _ 2 _ (be 2 (record_length K)) 2 2 _ b₂ (length_be 2 (record_length K)) refl refl in
    begun_front xs _ 4 _ b₃ ∙ simp (append_assoc, append-nil)
