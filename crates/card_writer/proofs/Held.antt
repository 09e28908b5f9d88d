-- What the octets of a card hold, after a record is added and after records are dropped.
use Rattle.std.proofs.Common.{◌≡◌, ℕ, zero, suc, ◌+◌, ◌-◌, ◌*◌, ◌^◌, ◌<◌, ◌≤◌, min, List, [], ◌∷◌, ◌++◌, length, get_or, take, drop, replicate, Some, None, Option, sym, refl, ap, ◌∙◌, subst, ap₂, inl, inr, add-one, arith, length-drop, length-take, take_all, take-add, MatchOption}
use lib.Seq.{paste, take-append-le, drop-append-le}
use Rattle.std.specs.Int.Digits.{number_from_digits}
use Rattle.std.proofs.lemmas.Nat.{mul-le}
use Rattle.std.proofs.lemmas.List.{append_assoc, append-nil, take_at, drop_at, take-take, drop-drop, length-append, length_push, length-replicate, replicate-append-replicate, drop-replicate, take-append-drop, get_or_append_left, get_or-append_right}
use Rattle.std.proofs.lemmas.List.Edits.{paste_all}
use Rattle.std.proofs.lemmas.Bool.{cases_lt}
use Rattle.ordinate.specs.Octets.{be}
use Rattle.ordinate.specs.Kinds.{Kind, Lawful}
use Rattle.ordinate.specs.Laws.Octets.{length_be, number_be}
use Rattle.leg.specs.Legs.{IsLeg}
use Rattle.outlet.specs.Outlets.{Contents, with_legs, kept}
use Rattle.leg.specs.declared.leg.Leg.{Leg}
use Rattle.card.specs.Records.{leg_of, record_octets, record_length}
use Rattle.card.specs.Cards.{front, records, card_of, capacity, count_of, listed, record_at}
use Rattle.card_writer.specs.Outlet.{first_legs, legs_on, on_card, Carded, with_record, without_records}
use Rattle.card_writer.specs.Laws.Held.{length_first}
use Rattle.card.proofs.Codec.{leg_read, part_of_front, record_length_is}
use Rattle.card.proofs.Carried.{front_length, records_length}
use Rattle.card_writer.proofs.Started.{room_for, room_of}

places_less : (m w n : ℕ) → m - (8 + w * n) - w ≡ m - (8 + w * (n + 1))
places_less m w n = omega arith

-- Two parts written over: one past the first eight octets, and then four in front of it.
pasted_twice : (xs r b : List ℕ) (s n : ℕ) → length r ≡ n → length b ≡ 4 → 8 + s + n ≤ length xs
    → paste (paste xs (8 + s) r n) 4 b 4 ≡ take 4 xs ++ (b ++ (take s (drop 8 xs) ++ (r ++ drop (8 + s + n) xs)))
pasted_twice xs r b s n lr lb h =
    let rest = r ++ drop (8 + s + n) xs in
    let ys = paste xs (8 + s) r n in
    let y : ys ≡ take 8 xs ++ (take s (drop 8 xs) ++ rest) =
    paste_all xs (8 + s) r n (sym lr) ∙ ap (λ (us : List ℕ). us ++ rest) (take-add 8 s xs) ∙ append_assoc (take 8 xs) (take s (drop 8 xs)) rest in
    let l₈ : length (take 8 xs) ≡ 8 = omega (arith, length-take 8 xs) in
    let l₄ : length (take 4 xs) ≡ 4 = omega (arith, length-take 4 xs) in
    let t₄ : take 4 ys ≡ take 4 xs = ap (take 4) y ∙ take-append-le 4 (take 8 xs) _ (omega arith) ∙ take-take 4 8 xs (omega arith) in
    let d₈ : drop 8 ys ≡ take s (drop 8 xs) ++ rest = ap (drop 8) y ∙ drop_at (take 8 xs) _ 8 l₈ in
    paste_all ys 4 b 4 (sym lb) ∙ ap₂ (λ (us vs : List ℕ). us ++ (b ++ vs)) t₄ d₈

module _ {P : Type 0} (K : Kind P) where
  abbrev w : ℕ
  w = record_length K

  -- ---- the data in the first records
  first_same : (n : ℕ) (xs ys : List ℕ) → ((i : ℕ) → i < n → record_at K ys i ≡ record_at K xs i) → first_legs K n ys ≡ first_legs K n xs
  unfolding first_legs
  first_same zero xs ys h = refl
  first_same (suc n) xs ys h = ap₂ (λ (ls : List (Leg P)) (o : List ℕ). ls ++ (leg_of K o ∷ [])) (first_same n xs ys (λ i l. h i (omega arith))) (h n (omega arith))

  first_more : (n : ℕ) (xs : List ℕ) → first_legs K (n + 1) xs ≡ first_legs K n xs ++ (leg_of K (record_at K xs n) ∷ [])
  unfolding first_legs
  first_more n xs = rw add-one

  take_first : (k n : ℕ) (xs : List ℕ) → k ≤ n → take k (first_legs K n xs) ≡ first_legs K k xs
  unfolding first_legs
  take_first zero zero xs h = refl
  take_first (suc k) zero xs h = absurd (omega arith)
  take_first k (suc n) xs h =
      elim (cases_lt k (suc n)) [
        | inl lt ↦ take-append-le k (first_legs K n xs) _ (omega (arith, length_first K n xs)) ∙ take_first k n xs (omega arith)
        | inr ge ↦
            let e : suc n ≡ k = omega arith in
            take_all k (first_legs K (suc n) xs) (omega (arith, length_first K (suc n) xs)) ∙ ap (λ (j : ℕ). first_legs K j xs) e
      ]

  got_first : (n i : ℕ) (xs : List ℕ) (d : Leg P) → i < n → get_or (first_legs K n xs) i d ≡ leg_of K (record_at K xs i)
  unfolding first_legs
  got_first zero i xs d h = absurd (omega arith)
  got_first (suc n) i xs d h =
      let len = length_first K n xs in
      elim (cases_lt i n) [
        | inl lt ↦ get_or_append_left (first_legs K n xs) _ d i (omega arith) ∙ got_first n i xs d lt
        | inr ge ↦
            let e : i ≡ n = omega arith in
            let z : i - n ≡ 0 = omega arith in
            get_or-append_right (first_legs K n xs) (leg_of K (record_at K xs n) ∷ []) n i d len ge ∙ ap (λ (j : ℕ). get_or (leg_of K (record_at K xs n) ∷ []) j d) z ∙ ap (λ (j : ℕ). leg_of K (record_at K xs j)) (sym e)
      ]

  -- what is read from record i
  pub got_on : (xs : List ℕ) (i : ℕ) (octets : List ℕ) (r : Option (Leg P)) → i < listed K xs → length (record_at K xs i) ≡ w → octets ≡ record_at K xs i
      → MatchOption r (length octets ≡ w → ⊥) (λ l. (length octets ≡ w) × (l ≡ leg_of K octets))
      → MatchOption r (length (legs_on K xs) ≤ i) (λ l. (i < length (legs_on K xs)) × (l ≡ get_or (legs_on K xs) i l))
  got_on xs i octets None lt whole e h = absurd (h (ap length e ∙ whole))
  got_on xs i octets (Some l) lt whole e h =
      (omega (arith, length_first K (listed K xs) xs), h.1 ∙ ap (leg_of K) e ∙ sym (got_first (listed K xs) i xs l lt))

  -- ---- octets with a part written over, past so many records, and a new count
  abbrev Rewritten : List ℕ → ℕ → List ℕ → ℕ → List ℕ → Type 0
  Rewritten xs n r c ys = ys ≡ take 4 xs ++ (be 4 c ++ (take (w * n) (drop 8 xs) ++ (r ++ drop (8 + w * n + length r) xs)))

  module _ (xs : List ℕ) (n : ℕ) (r : List ℕ) (c : ℕ) (ys : List ℕ) (room : 8 + w * n + length r ≤ length xs) (small : c < 256 ^ 4) (e : Rewritten xs n r c ys) where
    front_is : length (take 4 xs) ≡ 4
    front_is = omega (arith, length-take 4 xs)

    body_is : length (take (w * n) (drop 8 xs)) ≡ w * n
    body_is = omega (arith, length-take (w * n) (drop 8 xs), length-drop 8 xs)

    past_four : drop 4 ys ≡ be 4 c ++ (take (w * n) (drop 8 xs) ++ (r ++ drop (8 + w * n + length r) xs))
    past_four = ap (drop 4) e ∙ drop_at (take 4 xs) _ 4 front_is

    past_eight : drop 8 ys ≡ take (w * n) (drop 8 xs) ++ (r ++ drop (8 + w * n + length r) xs)
    past_eight = sym (drop-drop 4 4 ys) ∙ ap (drop 4) past_four ∙ drop_at (be 4 c) _ 4 (length_be 4 c)

    past_body : drop (8 + w * n) ys ≡ r ++ drop (8 + w * n + length r) xs
    past_body = sym (drop-drop (w * n) 8 ys) ∙ ap (drop (w * n)) past_eight ∙ drop_at (take (w * n) (drop 8 xs)) _ (w * n) body_is

    pub rewritten_length : length ys ≡ length xs
    rewritten_length =
        let a = ap length e ∙ length-append (take 4 xs) _ in
        let b = length-append (be 4 c) (take (w * n) (drop 8 xs) ++ (r ++ drop (8 + w * n + length r) xs)) in
        let d = length-append (take (w * n) (drop 8 xs)) (r ++ drop (8 + w * n + length r) xs) in
        let f = length-append r (drop (8 + w * n + length r) xs) in
        omega (arith, a, b, d, f, front_is, length_be 4 c, body_is, length-drop (8 + w * n + length r) xs)

    rewritten_count : count_of K ys ≡ c
    rewritten_count = ap (number_from_digits 256) (ap (take 4) past_four ∙ take_at (be 4 c) _ 4 (length_be 4 c)) ∙ number_be 4 c small

    rewritten_before : (i : ℕ) → i < n → record_at K ys i ≡ record_at K xs i
    rewritten_before i h =
        let m = mul-le (i + 1) w n w (omega arith) (omega arith) in
        let body = take (w * n) (drop 8 xs) in
        let l₁ : w * i ≤ length body = omega (arith, body_is) in
        let l₂ : w ≤ length (drop (w * i) body) = omega (arith, length-drop (w * i) body, body_is) in
        ap (take w) (sym (drop-drop (w * i) 8 ys) ∙ ap (drop (w * i)) past_eight ∙ drop-append-le (w * i) body _ l₁) ∙ take-append-le w (drop (w * i) body) _ l₂
        ∙ part_of_front (w * i) w (w * n) (drop 8 xs) (omega arith) ∙ ap (take w) (drop-drop (w * i) 8 xs)

    rewritten_listed : c ≤ capacity K (length xs) → listed K ys ≡ c
    rewritten_listed h = ap₂ min rewritten_count (ap (capacity K) rewritten_length) ∙ omega arith

  -- ---- a card of legs, cut at its header
  module _ (xs : List ℕ) (ls : List (Leg P)) (e : xs ≡ card_of K ls (length xs)) where
    abbrev zeros : List ℕ
    zeros = replicate (length xs - (8 + w * length ls)) 0

    card_front : take 4 xs ≡ front K
    card_front = ap (take 4) (e ∙ append_assoc (front K) (be 4 (length ls)) (records K ls ++ zeros)) ∙ take_at (front K) _ 4 (front_length K)

    card_body : drop 8 xs ≡ records K ls ++ zeros
    card_body =
        sym (drop-drop 4 4 xs) ∙ ap (drop 4) (ap (drop 4) (e ∙ append_assoc (front K) (be 4 (length ls)) (records K ls ++ zeros)) ∙ drop_at (front K) _ 4 (front_length K))
        ∙ drop_at (be 4 (length ls)) _ 4 (length_be 4 (length ls))

  carded_from : (xs : List ℕ) (n : ℕ) (r : List ℕ) (c : ℕ) (ys : List ℕ) → 8 + w * n + length r ≤ length xs → c < 256 ^ 4 → Rewritten xs n r c ys → (ms : List (Leg P)) → c ≡ length ms → take 4 xs ≡ front K
      → take (w * n) (drop 8 xs) ++ (r ++ drop (8 + w * n + length r) xs) ≡ records K ms ++ replicate (length xs - (8 + w * length ms)) 0
      → ys ≡ card_of K ms (length ys)
  carded_from xs n r c ys room small form ms ec f b =
      let len = rewritten_length xs n r c ys room small form in
      form ∙ ap₂ (λ (us vs : List ℕ). us ++ (be 4 c ++ vs)) f b ∙ ap (λ (k : ℕ). front K ++ (be 4 k ++ (records K ms ++ replicate (length xs - (8 + w * length ms)) 0))) ec
      ∙ sym (append_assoc (front K) (be 4 (length ms)) _) ∙ ap (λ (k : ℕ). (front K ++ be 4 (length ms)) ++ (records K ms ++ replicate (k - (8 + w * length ms)) 0)) (sym len)

  records_append : (ls ms : List (Leg P)) → records K (ls ++ ms) ≡ records K ls ++ records K ms
  records_append [] ms = refl
  records_append (l ∷ ls) ms = ap (λ (zs : List ℕ). record_octets K l ++ zs) (records_append ls ms) ∙ sym (append_assoc (record_octets K l) (records K ls) (records K ms))

  -- ---- putting
  module _ (law : Lawful K) (xs : List ℕ) (l : Leg P) (il : IsLeg K l) (room : listed K xs < capacity K (length xs)) (long : 8 + w * (listed K xs + 1) ≤ length xs) where
    abbrev n : ℕ
    n = listed K xs

    abbrev ys : List ℕ
    ys = with_record K xs n l

    put_room : 8 + w * n + length (record_octets K l) ≤ length xs
    put_room = omega (arith, record_length_is K l)

    put_small : n + 1 < 256 ^ 4
    put_small = omega arith

    put_form : Rewritten xs n (record_octets K l) (n + 1) ys
    put_form =
        let len = record_length_is K l in
        pasted_twice xs (record_octets K l) (be 4 (n + 1)) (w * n) w len (length_be 4 (n + 1)) (omega arith)
        ∙ ap (λ (k : ℕ). take 4 xs ++ (be 4 (n + 1) ++ (take (w * n) (drop 8 xs) ++ (record_octets K l ++ drop (8 + w * n + k) xs)))) (sym len)

    pub put_legs : legs_on K ys ≡ legs_on K xs ++ (l ∷ [])
    put_legs =
        let here : record_at K ys n ≡ record_octets K l =
        ap (take w) (past_body xs n (record_octets K l) (n + 1) ys put_room put_small put_form) ∙ take_at (record_octets K l) _ w (record_length_is K l) in
        ap (λ (k : ℕ). first_legs K k ys) (rewritten_listed xs n (record_octets K l) (n + 1) ys put_room put_small put_form (omega arith))
        ∙ first_more n ys
        ∙ ap₂ (λ (ms : List (Leg P)) (o : List ℕ). ms ++ (leg_of K o ∷ [])) (first_same n xs ys (rewritten_before xs n (record_octets K l) (n + 1) ys put_room put_small put_form)) here
        ∙ ap (λ (m : Leg P). legs_on K xs ++ (m ∷ [])) (leg_read K law l il)

    pub put_held : on_card K ys ≡ with_legs (on_card K xs) (l ∷ [])
    put_held =
        ap₂ (λ (ms : List (Leg P)) (c : ℕ). record { legs = ms; capacity = c }) put_legs (ap (capacity K) (rewritten_length xs n (record_octets K l) (n + 1) ys put_room put_small put_form))

    put_card : Carded K xs → ys ≡ card_of K (legs_on K xs ++ (l ∷ [])) (length ys)
    put_card h =
        let r = record_octets K l in
        let len = record_length_is K l in
        let ls = legs_on K xs in
        let cnt = length_first K n xs in
        let e = h.card (omega arith) in
        let wn : w * length ls ≡ w * n = ap (λ (k : ℕ). w * k) cnt in
        let body = ap (take (w * n)) (card_body xs ls e) ∙ take_at (records K ls) _ (w * n) (records_length K ls ∙ wn) in
        let more : length (ls ++ (l ∷ [])) ≡ n + 1 = length_push ls l ∙ ap (λ (k : ℕ). k + 1) cnt in
        let z : length xs - (8 + w * length ls) - w ≡ length xs - (8 + w * length (ls ++ (l ∷ []))) = ap (λ (k : ℕ). length xs - (8 + k) - w) wn ∙ places_less (length xs) w n ∙ ap (λ (k : ℕ). length xs - (8 + w * k)) (sym more) in
        let rest : drop (8 + w * n + length r) xs ≡ replicate (length xs - (8 + w * length (ls ++ (l ∷ [])))) 0 =
        ap (λ (k : ℕ). drop (8 + w * n + k) xs) len ∙ sym (drop-drop w (8 + w * n) xs) ∙ ap (drop w) (sym (drop-drop (w * n) 8 xs) ∙ ap (drop (w * n)) (card_body xs ls e) ∙ drop_at (records K ls) _ (w * n) (records_length K ls ∙ wn))
        ∙ drop-replicate w (length xs - (8 + w * length ls)) 0 ∙ ap (λ (k : ℕ). replicate k 0) z in
        carded_from xs n r (n + 1) ys put_room put_small put_form (ls ++ (l ∷ [])) (sym more) (card_front xs ls e)
        (ap₂ (λ (us vs : List ℕ). us ++ (r ++ vs)) body rest ∙ sym (append_assoc (records K ls) r _)
        ∙ ap (λ (us : List ℕ). us ++ replicate (length xs - (8 + w * length (ls ++ (l ∷ [])))) 0) (ap (λ (us : List ℕ). records K ls ++ us) (sym (append-nil r)) ∙ sym (records_append ls (l ∷ []))))

    pub put_length : length ys ≡ length xs
    put_length = rewritten_length xs n (record_octets K l) (n + 1) ys put_room put_small put_form

    pub put_carded : Carded K xs → Carded K ys
    put_carded h =
        let len = rewritten_length xs n (record_octets K l) (n + 1) ys put_room put_small put_form in
        record { card = λ _. put_card h ∙ ap (λ (ms : List (Leg P)). card_of K ms (length ys)) (sym put_legs); short = λ s. absurd (omega arith) }

  -- ---- keeping
  module _ (xs : List ℕ) (k : ℕ) (fewer : k < listed K xs) (long : 8 + w * listed K xs ≤ length xs) where
    abbrev m : ℕ
    m = listed K xs

    abbrev zs : List ℕ
    zs = without_records K xs k m

    abbrev blanks : List ℕ
    blanks = replicate (w * (m - k)) 0

    blanks_length : length blanks ≡ w * (m - k)
    blanks_length = length-replicate (w * (m - k)) 0

    keep_places : 8 + w * k + w * (m - k) ≡ 8 + w * m
    keep_places = let z : k + (m - k) ≡ m = omega arith in let e : w * (k + (m - k)) ≡ w * m = ap (λ (j : ℕ). w * j) z in omega arith

    keep_room : 8 + w * k + length blanks ≤ length xs
    keep_room = omega (arith, blanks_length, keep_places)

    keep_small : k < 256 ^ 4
    keep_small = omega arith

    keep_form : Rewritten xs k blanks k zs
    keep_form =
        pasted_twice xs blanks (be 4 k) (w * k) (w * (m - k)) blanks_length (length_be 4 k) (omega (arith, keep_places))
        ∙ ap (λ (j : ℕ). take 4 xs ++ (be 4 k ++ (take (w * k) (drop 8 xs) ++ (blanks ++ drop (8 + w * k + j) xs)))) (sym blanks_length)

    keep_legs : legs_on K zs ≡ take k (legs_on K xs)
    keep_legs =
        ap (λ (j : ℕ). first_legs K j zs) (rewritten_listed xs k blanks k zs keep_room keep_small keep_form (omega arith))
        ∙ first_same k xs zs (rewritten_before xs k blanks k zs keep_room keep_small keep_form) ∙ sym (take_first k m xs (omega arith))

    pub keep_held : on_card K zs ≡ kept k (on_card K xs)
    keep_held =
        ap₂ (λ (ms : List (Leg P)) (c : ℕ). record { legs = ms; capacity = c }) keep_legs (ap (capacity K) (rewritten_length xs k blanks k zs keep_room keep_small keep_form))

    keep_card : Carded K xs → zs ≡ card_of K (take k (legs_on K xs)) (length zs)
    keep_card h =
        let ls = legs_on K xs in
        let cnt = length_first K m xs in
        let e = h.card (omega arith) in
        let tk : length (take k ls) ≡ k = omega (arith, length-take k ls) in
        let wk : w * length (take k ls) ≡ w * k = ap (λ (j : ℕ). w * j) tk in
        let wm : w * length ls ≡ w * m = ap (λ (j : ℕ). w * j) cnt in
        let cut : records K ls ≡ records K (take k ls) ++ records K (drop k ls) = ap (records K) (sym (take-append-drop k ls)) ∙ records_append (take k ls) (drop k ls) in
        let body = ap (take (w * k)) (card_body xs ls e ∙ ap (λ (us : List ℕ). us ++ replicate (length xs - (8 + w * length ls)) 0) cut ∙ append_assoc (records K (take k ls)) (records K (drop k ls)) _)
        ∙ take_at (records K (take k ls)) _ (w * k) (records_length K (take k ls) ∙ wk) in
        let rest : drop (8 + w * k + length blanks) xs ≡ replicate (length xs - (8 + w * m)) 0 =
        ap (λ (j : ℕ). drop j xs) (ap (λ (j : ℕ). 8 + w * k + j) blanks_length ∙ keep_places) ∙ sym (drop-drop (w * m) 8 xs) ∙ ap (drop (w * m)) (card_body xs ls e) ∙ drop_at (records K ls) _ (w * m) (records_length K ls ∙ wm)
        ∙ ap (λ (j : ℕ). replicate (length xs - (8 + j)) 0) wm in
        let sum : w * (m - k) + (length xs - (8 + w * m)) ≡ length xs - (8 + w * length (take k ls)) = omega (arith, keep_places, wk) in
        carded_from xs k blanks k zs keep_room keep_small keep_form (take k ls) (sym tk) (card_front xs ls e)
        (ap₂ (λ (us vs : List ℕ). us ++ (blanks ++ vs)) body rest ∙ ap (λ (us : List ℕ). records K (take k ls) ++ us) (replicate-append-replicate (w * (m - k)) (length xs - (8 + w * m)) 0 ∙ ap (λ (j : ℕ). replicate j 0) sum))

    pub keep_carded : Carded K xs → Carded K zs
    keep_carded h =
        let len = rewritten_length xs k blanks k zs keep_room keep_small keep_form in
        record { card = λ _. keep_card h ∙ ap (λ (ms : List (Leg P)). card_of K ms (length zs)) (sym keep_legs); short = λ s. absurd (omega arith) }

  pub keep_all : (xs : List ℕ) (k : ℕ) → listed K xs ≤ k → on_card K xs ≡ kept k (on_card K xs)
  keep_all xs k h =
      ap (λ (ls : List (Leg P)). record { legs = ls; capacity = capacity K (length xs) }) (sym (take_all k (legs_on K xs) (omega (arith, length_first K (listed K xs) xs))))

  -- ---- what a change leaves
  pub record Changed (xs ys : List ℕ) (after : Contents P) : Type 0 where
    pub holds : on_card K ys ≡ after
    pub carded : Carded K xs → Carded K ys

  pub put_done : Lawful K → (xs : List ℕ) (l : Leg P) → IsLeg K l → (n : ℕ) (ys : List ℕ) → n ≡ listed K xs → n < capacity K (length xs) → ys ≡ with_record K xs n l
      → Changed xs ys (with_legs (on_card K xs) (l ∷ []))
  put_done law xs l il n ys same below e =
      let room : listed K xs < capacity K (length xs) = omega arith in
      let long = room_for K (length xs) (listed K xs) room in
      let e' = e ∙ ap (λ (k : ℕ). with_record K xs k l) same in
      record { holds = ap (on_card K) e' ∙ put_held law xs l il room long; carded = λ h. subst (Carded K) (sym e') (put_carded law xs l il room long h) }

  pub keep_done : (xs : List ℕ) (n m : ℕ) (ys : List ℕ) → m ≡ listed K xs → n < m → ys ≡ without_records K xs n m → Changed xs ys (kept n (on_card K xs))
  keep_done xs n m ys same below e =
      let fewer : n < listed K xs = omega arith in
      let long = room_of K (length xs) (listed K xs) (omega arith) (omega arith) in
      let e' = e ∙ ap (without_records K xs n) same in
      record { holds = ap (on_card K) e' ∙ keep_held xs n fewer long; carded = λ h. subst (Carded K) (sym e') (keep_carded xs n fewer long h) }
