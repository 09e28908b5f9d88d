-- A card as an outlet: what its octets hold.
use Rattle.std.specs.Prelude.{◌≡◌, ℕ, zero, suc, ◌+◌, ◌-◌, ◌*◌, ◌<◌, ◌≤◌, cond, List, [], ◌∷◌, ◌++◌, length, take, drop, replicate, Err, nat_lt}
use Rattle.std.proofs.Math.Seq.{paste}
use Rattle.ordinate.specs.Octets.{be}
use Rattle.ordinate.specs.Kinds.{Kind}
use Rattle.leg.specs.Legs.{IsLeg}
use Rattle.leg.specs.Chains.{Each}
use Rattle.outlet.specs.Outlets.{Contents, Put}
use Rattle.leg.specs.declared.leg.Leg.{Leg}
use Rattle.outlet.specs.declared.put_refusal.PutRefusal.{PutRefusal}
use Rattle.card.specs.Records.{leg_of, record_octets, record_length}
use Rattle.card.specs.Cards.{card_of, capacity, listed, record_at}

module _ {P : Type 0} (K : Kind P) where
  -- the data in the first n records
  unfoldable pub first_legs : ℕ → List ℕ → List (Leg P)
  first_legs zero xs = []
  first_legs (suc n) xs = first_legs n xs ++ (leg_of K (record_at K xs n) ∷ [])

  abbrev pub legs_on : List ℕ → List (Leg P)
  legs_on xs = first_legs (listed K xs) xs

  -- Any octets hold something; a card of legs holds those legs.
  abbrev pub on_card : List ℕ → Contents P
  on_card xs = record { legs = legs_on xs; capacity = capacity K (length xs) }

  -- The octets are the card of the legs that they hold: header with their count, records, zeros. Fewer than eight are zeros alone.
  pub record Carded (xs : List ℕ) : Type 0 where
    pub card : 8 ≤ length xs → xs ≡ card_of K (legs_on xs) (length xs)
    pub short : length xs < 8 → xs ≡ replicate (length xs) 0

  -- The octets with record n and a count of n + 1 written over them.
  abbrev pub with_record : List ℕ → ℕ → Leg P → List ℕ
  with_record xs n l = paste (paste xs (8 + record_length K * n) (record_octets K l) (record_length K)) 4 (be 4 (n + 1)) 4

  -- The octets with the records from n to m cleared, m not included, and a count of n.
  abbrev pub without_records : List ℕ → ℕ → ℕ → List ℕ
  without_records xs n m = paste (paste xs (8 + record_length K * n) (replicate (record_length K * (m - n)) 0) (record_length K * (m - n))) 4 (be 4 n) 4

  -- What n octets are when the legs are written on them; fewer than eight are zeros alone.
  abbrev pub written : List (Leg P) → ℕ → List ℕ
  written ls n = cond (nat_lt n 8) (replicate n 0) (card_of K ls n)

  -- A started card: its header, and zeros.
  abbrev pub started : ℕ → List ℕ
  started n = written [] n

  abbrev pub kept_octets : ℕ → List ℕ → List ℕ
  kept_octets n xs = cond (nat_lt n (listed K xs)) (without_records xs n (listed K xs)) xs

  -- ---- a whole list of legs, put one after another

  -- Each of the legs can be put, for there is room for them all.
  pub record Fit (room : ℕ) (ls : List (Leg P)) : Type 0 where
    pub legs : Each (IsLeg K) ls
    pub fits : length ls ≤ room

  -- The legs before leg i can be put, and that one after them is refused.
  pub record Refuses (room : ℕ) (ls : List (Leg P)) (i : ℕ) (why : PutRefusal) : Type 0 where
    pub before : Fit room (take i ls)
    pub leg : Leg P
    pub here : ls ≡ take i ls ++ (leg ∷ drop (i + 1) ls)
    pub refused : Put K (record { legs = take i ls; capacity = room }) leg (Err why) (record { legs = take i ls; capacity = room })
