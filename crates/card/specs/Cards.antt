-- The card that carries a list of legs, and why a card is refused.
use Rattle.std.specs.Prelude.{◌≡◌, ℕ, suc, ◌+◌, ◌-◌, ◌*◌, ◌/◌, ◌<◌, ◌≤◌, min, ◌⊎◌, List, [], ◌∷◌, ◌++◌, length, take, drop, replicate, Some, None, Option, ◌≢◌, slice_index}
use Rattle.std.specs.Int.Digits.{number_from_digits}
use Rattle.ordinate.specs.Octets.{be}
use Rattle.ordinate.specs.Kinds.{Kind}
use Rattle.leg.specs.Legs.{IsLeg}
use Rattle.leg.specs.Chains.{Each, Follows, ClosedAfter, Chained, last_or}
use Rattle.leg.specs.declared.leg.Leg.{Leg}
use Rattle.card.specs.Records.{parts, record_octets, record_length}
use Rattle.leg.specs.Reasons.{Reason, because}
use Rattle.card.specs.declared.refusal.Refusal.{Refusal}
use Rattle.card.specs.declared.refusal.Refusal.TheVariants.{ShortCard, WrongHeader, CountAboveCapacity, NoLeg, BrokenChain, TrailingOctet}

module _ {P : Type 0} (K : Kind P) where
  -- ---- the format

  -- kind, edition 1, record length
  abbrev pub front : List ℕ
  front = parts (be 1 K.code ∷ be 1 1 ∷ be 2 (record_length K) ∷ [])

  abbrev pub header : ℕ → List ℕ
  header count = front ++ be 4 count

  abbrev pub records : List (Leg P) → List ℕ
  records [] = []
  records (l ∷ ls) = record_octets K l ++ records ls

  -- The card of n octets with these legs: header, records, zeros.
  abbrev pub card_of : List (Leg P) → ℕ → List ℕ
  card_of ls n = header (length ls) ++ (records ls ++ replicate (n - (8 + record_length K * length ls)) 0)

  -- The octets xs are a card that carries the legs ls.
  pub record Carries (xs : List ℕ) (ls : List (Leg P)) : Type 0 where
    pub legs : Each (IsLeg K) ls
    pub chained : Chained ls
    pub room : 8 + record_length K * length ls ≤ length xs
    pub limit : length ls ≤ 67108864
    pub octets : xs ≡ card_of ls (length xs)

  -- ---- why the octets xs are refused

  -- the whole records that fit after the header, with a cap
  abbrev pub capacity : ℕ → ℕ
  capacity n = min ((n - 8) / record_length K) 67108864

  module _ (xs : List ℕ) where
    abbrev pub count_of : ℕ
    count_of = number_from_digits 256 (take 4 (drop 4 xs))

    -- the records that the octets have, whatever the rest of the header says
    abbrev pub listed : ℕ
    listed = min count_of (capacity (length xs))

    abbrev pub record_at : ℕ → List ℕ
    record_at i = take (record_length K) (drop (8 + record_length K * i) xs)

    -- The records from i on are those of the legs ls, which go on the chain from the leg before.
    abbrev pub Reads : ℕ → Option (Leg P) → List (Leg P) → Type 0
    Reads i before [] = Unit {0}
    Reads i before (l ∷ ls) = IsLeg K l × (record_octets K l ≡ record_at i) × Follows before l × Reads (suc i) (Some l) ls

    -- No leg has the octets of record i.
    abbrev pub Unread : ℕ → Type 0
    Unread i = (l : Leg P) → IsLeg K l → record_octets K l ≢ record_at i

    -- A leg has them, but it does not go on the chain from the leg before.
    abbrev pub Unchained : ℕ → Option (Leg P) → Type 0
    Unchained i before = (l : Leg P) × IsLeg K l × (record_octets K l ≡ record_at i) × (Follows before l → ⊥)

    -- After some legs that read well, the next record, one below the count, does not.
    abbrev pub Stops : ℕ → Reason Refusal
    Stops count f =
        (ls : List (Leg P)) × Reads 0 None ls × (length ls < count)
        × ((Unread (length ls) × (f ≡ NoLeg (length ls))) ⊎ (Unchained (length ls) (last_or None ls) × (f ≡ BrokenChain (length ls))))

    -- All records read well, but the last span is left open.
    abbrev pub Open : ℕ → Type 0
    Open count = (ls : List (Leg P)) × Reads 0 None ls × (length ls ≡ count) × (ClosedAfter (last_or None ls) → ⊥)

    abbrev pub header_reasons : List (Reason Refusal)
    header_reasons =
        because (length xs < 8) ShortCard
        ∷ because (take 4 xs ≢ front) WrongHeader
        ∷ because (capacity (length xs) < count_of) CountAboveCapacity
        ∷ []

    -- The header is that of a card with n records, which has room for them.
    pub record Counts (n : ℕ) : Type 0 where
      pub long : 8 ≤ length xs
      pub fronted : take 4 xs ≡ front
      pub count : n ≡ count_of
      pub written : be 4 n ≡ take 4 (drop 4 xs)
      pub fits : n ≤ capacity (length xs)

    abbrev pub record_reasons : List (Reason Refusal)
    record_reasons =
        Stops count_of
        ∷ because (Open count_of) (BrokenChain count_of)
        ∷ because ((k : ℕ) × (8 + record_length K * count_of ≤ k) × (slice_index xs k ≢ 0)) TrailingOctet
        ∷ []

    abbrev pub reasons : List (Reason Refusal)
    reasons = header_reasons ++ record_reasons
