-- A started card: its octets, and that it holds no legs.
use Rattle.std.proofs.Common.{◌≡◌, ℕ, ◌+◌, ◌-◌, ◌*◌, ◌/◌, ◌<◌, ◌≤◌, min, List, [], ◌++◌, length, take, drop, replicate, sym, refl, ap, ◌∙◌, inl, inr, arith, length-drop, length-take, le-ltb, lt-ltb}
use native.Mathlib.Nat.{zero-div}
use Rattle.std.specs.Int.Digits.{number_from_digits}
use Rattle.std.proofs.lemmas.List.{append_assoc, take_at, drop_at, drop-replicate, replicate-append-replicate, length-append, length-replicate}
use Rattle.std.proofs.lemmas.Bool.{cases_lt}
use Rattle.ordinate.specs.Octets.{be}
use Rattle.ordinate.specs.Kinds.{Kind}
use Rattle.ordinate.specs.Laws.Octets.{length-be, number-be}
use Rattle.leg.specs.declared.leg.Leg.{Leg}
use Rattle.card.specs.Records.{record-length}
use Rattle.card.specs.Cards.{front, records, card-of, capacity, count_of, listed, record-at}
use Rattle.card_writer.specs.Outlet.{first-legs, on-card, Carded, written, started}
use Rattle.card.proofs.Carried.{front_length, records-length}
use Rattle.card.proofs.Headers.{capacity-room}

four-zeros : be 4 0 ≡ replicate 4 0
unfolding be
four-zeros = refl

module _ {P : Type 0} (K : Kind P) where
  -- the front of a header before zeros
  pub front-on-zeros : (n : ℕ) → 8 ≤ n → front K ++ drop 4 (replicate n 0) ≡ card-of K [] n
  front-on-zeros n h =
      let rest : List ℕ = replicate (n - (8 + record-length K * 0)) 0 in
      let z : n - 4 ≡ 4 + (n - (8 + record-length K * 0)) = omega arith in
      let tail : drop 4 (replicate n 0) ≡ be 4 0 ++ rest =
      drop-replicate 4 n 0 ∙ ap (λ (k : ℕ). replicate k 0) z ∙ sym (replicate-append-replicate 4 (n - (8 + record-length K * 0)) 0) ∙ ap (λ (us : List ℕ). us ++ rest) (sym four-zeros) in
      ap (λ (us : List ℕ). front K ++ us) tail ∙ sym (append_assoc (front K) (be 4 0) rest)

  pub written-long : (ls : List (Leg P)) (n : ℕ) → 8 ≤ n → written K ls n ≡ card-of K ls n
  written-long ls n h = rw (le-ltb n 8 h)

  pub written-short : (ls : List (Leg P)) (n : ℕ) → n < 8 → written K ls n ≡ replicate n 0
  written-short ls n h = rw (lt-ltb n 8 h)

  pub card-length : (ls : List (Leg P)) (n : ℕ) → 8 + record-length K * length ls ≤ n → length (card-of K ls n) ≡ n
  card-length ls n h =
      let m : ℕ = n - (8 + record-length K * length ls) in
      let zeros : length (replicate {A = ℕ} m 0) ≡ m = length-replicate m 0 in
      let head : length (front K ++ be 4 (length ls)) ≡ 8 = length-append (front K) _ ∙ omega (arith, front_length K, length-be 4 (length ls)) in
      let body : length (records K ls ++ replicate m 0) ≡ record-length K * length ls + m = length-append (records K ls) _ ∙ omega (arith, records-length K ls, zeros) in
      length-append (front K ++ be 4 (length ls)) _ ∙ omega (arith, head, body)

  pub started-length : (n : ℕ) → length (started K n) ≡ n
  started-length n =
      elim (cases_lt n 8) [
        | inl short ↦ ap length (written-short [] n short) ∙ length-replicate n 0
        | inr long ↦ ap length (written-long [] n long) ∙ card-length [] n (omega arith)
      ]

  pub no-capacity : (n : ℕ) → n < 8 → capacity K n ≡ 0
  no-capacity n h =
      let z : n - 8 ≡ 0 = omega arith in
      ap (λ (k : ℕ). min (k / record-length K) 67108864) z ∙ ap (λ (k : ℕ). min k 67108864) (zero-div (record-length K))

  empty-at : (xs : List ℕ) → listed K xs ≡ 0 → on-card K xs ≡ record { legs = []; capacity = capacity K (length xs) }
  unfolding first-legs
  empty-at xs e = ap (λ (k : ℕ). record { legs = first-legs K k xs; capacity = capacity K (length xs) }) e

  pub record Begun (n : ℕ) (xs : List ℕ) : Type 0 where
    pub empty : on-card K xs ≡ record { legs = []; capacity = capacity K n }
    pub carded : Carded K xs

  begun-with : (n : ℕ) (xs : List ℕ) → length xs ≡ n → listed K xs ≡ 0 → (8 ≤ length xs → xs ≡ card-of K [] (length xs)) → (length xs < 8 → xs ≡ replicate (length xs) 0) → Begun n xs
  unfolding first-legs
  begun-with n xs len none c s =
      record {
        empty = empty-at xs none ∙ ap (λ (k : ℕ). record { legs = []; capacity = capacity K k }) len;
        carded = record { card = λ h. c h ∙ ap (λ (k : ℕ). card-of K (first-legs K k xs) (length xs)) (sym none); short = s };
      }

  -- A started card holds no legs, and is the card of no legs.
  pub begun : (n : ℕ) (xs : List ℕ) → xs ≡ started K n → Begun n xs
  begun n xs e =
      elim (cases_lt n 8) [
        | inl short ↦
            let z = e ∙ written-short [] n short in
            let len : length xs ≡ n = ap length e ∙ started-length n in
            let cap : capacity K (length xs) ≡ 0 = ap (capacity K) len ∙ no-capacity n short in
            begun-with n xs len (omega (arith, cap)) (λ h. absurd (omega arith)) (λ h. z ∙ ap (λ (k : ℕ). replicate k 0) (sym len))
        | inr long ↦
            let z = e ∙ written-long [] n long in
            let len : length xs ≡ n = ap length e ∙ started-length n in
            let four = ap (drop 4) (z ∙ append_assoc (front K) (be 4 0) _) ∙ drop_at (front K) _ 4 (front_length K) in
            let none : count_of K xs ≡ 0 = ap (number_from_digits 256) (ap (take 4) four ∙ take_at (be 4 0) _ 4 (length-be 4 0)) ∙ number-be 4 0 (omega arith) in
            begun-with n xs len (omega (arith, none)) (λ h. z ∙ ap (card-of K []) (sym len)) (λ h. absurd (omega arith))
      ]

  -- where there is room for a record, there is one for the header
  pub capacity-long : (n k : ℕ) → k < capacity K n → 8 ≤ n
  capacity-long n k h = elim (cases_lt n 8) [ inl short ↦ absurd (omega (arith, no-capacity n short)) | inr long ↦ long ]

  pub room_for : (n k : ℕ) → k < capacity K n → 8 + record-length K * (k + 1) ≤ n
  room_for n k h = capacity-room K (k + 1) n (capacity-long n k h) (omega arith)

  pub room_of : (n k : ℕ) → 0 < k → k ≤ capacity K n → 8 + record-length K * k ≤ n
  room_of n k p h = capacity-room K k n (capacity-long n 0 (omega arith)) h

  pub record-at-length : (xs : List ℕ) (i : ℕ) → 8 + record-length K * (i + 1) ≤ length xs → length (record-at K xs i) ≡ record-length K
  record-at-length xs i h = omega (arith, length-take (record-length K) (drop (8 + record-length K * i) xs), length-drop (8 + record-length K * i) xs)
