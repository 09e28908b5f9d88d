-- A card is accepted exactly where it carries a chained list of legs, and then it carries no other.
use Rattle.std.proofs.Common.{◌≡◌, ℕ, zero, suc, ◌+◌, ◌-◌, ◌*◌, ◌/◌, ◌<◌, ◌≤◌, List, [], ◌∷◌, ◌++◌, length, get_or, take, drop, replicate, Some, None, Option, sym, refl, ap, ◌∙◌, subst, ap₂, inl, inr, arith, take-add}
use Rattle.std.specs.Int.Digits.{number_from_digits}
use Rattle.std.proofs.lemmas.Nat.{le-div}
use Rattle.std.proofs.lemmas.List.{append_assoc, take_at, drop_at, drop-drop, take-append-drop, ext_get_or, get_or_past, length-append, length-drop, length-replicate, get_or-drop, get_or-replicate}
use Rattle.std.proofs.lemmas.Bool.{cases_lt}
use Rattle.ordinate.specs.Octets.{be}
use Rattle.ordinate.specs.Kinds.{Kind, Lawful}
use Rattle.ordinate.specs.Laws.Octets.{length_be, number_be}
use Rattle.leg.specs.Legs.{IsLeg}
use Rattle.leg.specs.Chains.{Each, RunsOn, Joined, Closed, ClosedAfter, last_or, stretches, stretch_of}
use Rattle.leg.specs.declared.leg.Leg.{Leg}
use Rattle.leg.proofs.Seams.{last_stretch}
use Rattle.leg.specs.Reasons.{First}
use Rattle.card.specs.Records.{record_octets, record_length}
use Rattle.card.specs.Cards.{front, header, records, Reads, Counts, Carries, reasons}
use Rattle.card.specs.declared.refusal.Refusal.{Refusal}
use Rattle.card.proofs.Codec.{record_length_is}
use Rattle.card.proofs.Headers.{capacity_room, capacity_limit}
use Rattle.card.proofs.Reading.{reads_same, reasons_one, answer_none}

-- ---- zeros to the end
zeros_are : (xs : List ℕ) (m : ℕ) → ((k : ℕ) → m ≤ k → get_or xs k 0 ≡ 0) → drop m xs ≡ replicate (length xs - m) 0
zeros_are xs m z =
    ext_get_or 0 (drop m xs) (replicate (length xs - m) 0) (length-drop m xs ∙ sym (length-replicate (length xs - m) 0))
    (λ i h. let l : i < length xs - m = omega (arith, length-drop m xs) in get_or-drop m xs i 0 ∙ z (m + i) (omega arith) ∙ sym (get_or-replicate (length xs - m) i 0 0 l))

are_zeros : (xs : List ℕ) (m n : ℕ) → drop m xs ≡ replicate n 0 → (k : ℕ) → m ≤ k → get_or xs k 0 ≡ 0
are_zeros xs m n e k h =
    let z : m + (k - m) ≡ k = omega arith in
    ap (λ (i : ℕ). get_or xs i 0) (sym z) ∙ sym (get_or-drop m xs (k - m) 0) ∙ ap (λ (ys : List ℕ). get_or ys (k - m) 0) e
    ∙ elim (cases_lt (k - m) n) [ inl l ↦ get_or-replicate n (k - m) 0 0 l | inr l ↦ get_or_past (replicate n 0) (k - m) 0 (omega (arith, length-replicate n (zero))) ]

next_at : (w i : ℕ) → 8 + w * i + w ≡ 8 + w * suc i
next_at w i = omega arith

module _ {P : Type 0} (K : Kind P) where
  pub front_length : length (front K) ≡ 4
  front_length = simp length-append (omega (arith, length_be 1 K.code, length_be 1 1, length_be 2 (record_length K)))

  pub records_length : (ls : List (Leg P)) → length (records K ls) ≡ record_length K * length ls
  records_length [] = omega arith
  records_length (l ∷ ls) = length-append (record_octets K l) (records K ls) ∙ omega (arith, record_length_is K l, records_length ls)

  module _ (xs : List ℕ) where
    -- ---- the records that are read, and the legs that the card carries
    reads_legs : (i : ℕ) (o : Option (Leg P)) (ls : List (Leg P)) → Reads K xs i o ls → Each (IsLeg K) ls
    reads_legs i o [] r = tt
    reads_legs i o (l ∷ ls) r = (r.0, reads_legs (suc i) (Some l) ls r.3)

    reads_runs : (i : ℕ) (o : Option (Leg P)) (ls : List (Leg P)) → Reads K xs i o ls → RunsOn (stretch_of o) (stretches ls)
    reads_runs i o [] r = tt
    reads_runs i o (l ∷ ls) r = (r.2.0, reads_runs (suc i) (Some l) ls r.3)

    reads_joined : (i : ℕ) (o : Option (Leg P)) (ls : List (Leg P)) → Reads K xs i o ls → Joined o ls
    reads_joined i o [] r = tt
    reads_joined i o (l ∷ ls) r = (r.2.1, reads_joined (suc i) (Some l) ls r.3)

    reads_records : (i : ℕ) (o : Option (Leg P)) (ls : List (Leg P)) → Reads K xs i o ls → take (record_length K * length ls) (drop (8 + record_length K * i) xs) ≡ records K ls
    reads_records i o [] r = let z : record_length K * 0 ≡ 0 = omega arith in ap (λ (k : ℕ). take k (drop (8 + record_length K * i) xs)) z
    reads_records i o (l ∷ ls) r =
        let w = record_length K in
        let a = 8 + w * i in
        let z : w * suc (length ls) ≡ w + w * length ls = omega arith in
        ap (λ (k : ℕ). take k (drop a xs)) z ∙ take-add w (w * length ls) (drop a xs)
        ∙ ap₂ (λ (s t : List ℕ). s ++ t) (sym r.1) (ap (take (w * length ls)) (drop-drop w a xs ∙ ap (λ (k : ℕ). drop k xs) (next_at w i)) ∙ reads_records (suc i) (Some l) ls r.3)

    records_read : (i : ℕ) (o : Option (Leg P)) (ls : List (Leg P)) (rest : List ℕ) → Each (IsLeg K) ls → RunsOn (stretch_of o) (stretches ls) → Joined o ls
        → drop (8 + record_length K * i) xs ≡ records K ls ++ rest → Reads K xs i o ls
    records_read i o [] rest e t j d = tt
    records_read i o (l ∷ ls) rest e t j d =
        let w = record_length K in
        let a = 8 + w * i in
        let d' = d ∙ append_assoc (record_octets K l) (records K ls) rest in (
          e.0,
          sym (ap (take w) d' ∙ take_at (record_octets K l) (records K ls ++ rest) w (record_length_is K l)),
          (t.0, j.0),
          records_read (suc i) (Some l) ls rest e.1 t.1 j.1
              (ap (λ (k : ℕ). drop k xs) (sym (next_at w i)) ∙ sym (drop-drop w a xs) ∙ ap (drop w) d' ∙ drop_at (record_octets K l) (records K ls ++ rest) w (record_length_is K l)),
        )

    -- What reading finds in a card that carries the legs ls.
    pub record Found (n : ℕ) (ls : List (Leg P)) : Type 0 where
      pub head : Counts K xs n
      pub many : length ls ≡ n
      pub read : Reads K xs 0 None ls
      pub closed : ClosedAfter (last_or None ls)
      pub zeros : (k : ℕ) → 8 + record_length K * n ≤ k → get_or xs k 0 ≡ 0

    pub carried : (n : ℕ) (ls : List (Leg P)) → Found n ls → Carries K xs ls
    carried n ls f =
        let w = record_length K in
        let m = 8 + w * length ls in
        let l = f.many in
        let L : 8 + w * n ≡ m = ap (λ (k : ℕ). 8 + w * k) (sym l) in
        let s : 8 + w * 0 ≡ 8 = omega arith in
        let head : take 8 xs ≡ header K (length ls) = take-add 4 4 xs ∙ ap₂ (λ (p q : List ℕ). p ++ q) f.head.fronted (sym f.head.written ∙ ap (be 4) (sym l)) in
        let body : take (w * length ls) (drop 8 xs) ≡ records K ls = ap (λ (k : ℕ). take (w * length ls) (drop k xs)) (sym s) ∙ reads_records 0 None ls f.read in
        let tail : drop (w * length ls) (drop 8 xs) ≡ replicate (length xs - m) 0 = drop-drop (w * length ls) 8 xs ∙ zeros_are xs m (λ k h. f.zeros k (subst (λ (j : ℕ). j ≤ k) (sym L) h)) in
        record {
          legs = reads_legs 0 None ls f.read;
          chained = record { ticks = reads_runs 0 None ls f.read; closed = subst Closed (sym (last_stretch None ls)) f.closed; points = reads_joined 0 None ls f.read };
          room = subst (λ (j : ℕ). j ≤ length xs) L (capacity_room K n (length xs) f.head.long f.head.fits);
          limit = subst (λ (j : ℕ). j ≤ 67108864) (sym l) (capacity_limit K n (length xs) f.head.fits);
          octets = sym (take-append-drop 8 xs) ∙ ap₂ (λ (p q : List ℕ). p ++ q) head (sym (take-append-drop (w * length ls) (drop 8 xs)) ∙ ap₂ (λ (p q : List ℕ). p ++ q) body tail);
        }

    pub found : (ls : List (Leg P)) → Carries K xs ls → Found (length ls) ls
    found ls h =
        let w = record_length K in
        let n = length ls in
        let zs : List ℕ = replicate (length xs - (8 + w * n)) 0 in
        let room = h.room in
        let limit = h.limit in
        let e₁ : xs ≡ front K ++ (be 4 n ++ (records K ls ++ zs)) = h.octets ∙ append_assoc (front K) (be 4 n) (records K ls ++ zs) in
        let d₄ : drop 4 xs ≡ be 4 n ++ (records K ls ++ zs) = ap (drop 4) e₁ ∙ drop_at (front K) _ 4 front_length in
        let d₈ : drop 8 xs ≡ records K ls ++ zs = sym (drop-drop 4 4 xs) ∙ ap (drop 4) d₄ ∙ drop_at (be 4 n) _ 4 (length_be 4 n) in
        let t₄ : take 4 (drop 4 xs) ≡ be 4 n = ap (take 4) d₄ ∙ take_at (be 4 n) _ 4 (length_be 4 n) in
        let s : 8 + w * 0 ≡ 8 = omega arith in
        let z : drop (8 + w * n) xs ≡ zs = sym (drop-drop (w * n) 8 xs) ∙ ap (drop (w * n)) d₈ ∙ drop_at (records K ls) zs (w * n) (records_length ls) in
        let q : n ≤ (length xs - 8) / w = le-div n (length xs - 8) w (omega arith) (omega arith) in
        record {
          head = record {
            long = omega arith;
            fronted = ap (take 4) e₁ ∙ take_at (front K) _ 4 front_length;
            count = sym (ap (number_from_digits 256) t₄ ∙ number_be 4 n (omega arith));
            written = sym t₄;
            fits = omega arith;
          };
          many = refl;
          read = records_read 0 None ls zs h.legs h.chained.ticks h.chained.points (ap (λ (k : ℕ). drop k xs) s ∙ d₈);
          closed = subst Closed (last_stretch None ls) h.chained.closed;
          zeros = are_zeros xs (8 + w * n) _ z;
        }

    pub found_accepted : Lawful K → (n : ℕ) (ls : List (Leg P)) → Found n ls → First (reasons K xs) None
    found_accepted law n ls f = answer_none K xs law n f.head ls f.read f.many f.closed f.zeros

    -- A card that carries legs is not refused.
    pub carried_accepted : Lawful K → (ls : List (Leg P)) → Carries K xs ls → First (reasons K xs) None
    carried_accepted law ls h = found_accepted law (length ls) ls (found ls h)

    pub carried_unrefused : Lawful K → (f : Refusal) → First (reasons K xs) (Some f) → (ls : List (Leg P)) → Carries K xs ls → ⊥
    carried_unrefused law f a ls h =
        let e = reasons_one K xs law None (Some f) (carried_accepted law ls h) a in
        let z : ◌≡◌ {A = ℕ} 0 1 = cc in
        omega arith

    -- A card carries one list of legs at most.
    pub carried_one : Lawful K → (ls ms : List (Leg P)) → Carries K xs ls → Carries K xs ms → ls ≡ ms
    carried_one law ls ms h k =
        let a = found ls h in
        let b = found ms k in
        reads_same K xs law 0 None ls ms (a.head.count ∙ sym b.head.count) a.read b.read
