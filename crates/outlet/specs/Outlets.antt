-- What an outlet holds, and what putting and keeping do to it.
use Rattle.std.specs.Prelude.{◌≡◌, ℕ, ◌+◌, ◌-◌, ◌≤◌, List, [], ◌∷◌, ◌++◌, length, take, drop, replicate, Ok, Err, Result, codes, decimal}
use denote.RawPtr.{Ptr}
use Rattle.std.specs.Global.{Global}
use Rattle.ordinate.specs.Kinds.{Kind, blank}
use Rattle.leg.specs.Legs.{IsLeg}
use Rattle.leg.specs.declared.leg.Leg.{Leg}
use Rattle.outlet.specs.declared.put_refusal.PutRefusal.{PutRefusal}
use Rattle.outlet.specs.declared.put_refusal.PutRefusal.TheVariants.{NoLeg, Full}

-- the numbers by which the refusals go
abbrev pub put_number : PutRefusal → ℕ
put_number NoLeg = 24
put_number Full = 31

-- How they are printed.
abbrev pub put_text : PutRefusal → List ℕ
put_text NoLeg = codes "refused " ++ (decimal (put_number NoLeg) ++ codes ": a field that no leg has")
put_text Full = codes "refused " ++ (decimal (put_number Full) ++ codes ": the outlet is full")

-- A list of legs, and how many there is room for in all.
pub record Contents (P : Type 0) : Type 0 where
  pub legs : List (Leg P)
  pub capacity : ℕ

module _ {P : Type 0} where
  abbrev pub room : Contents P → ℕ
  room c = c.capacity - length c.legs

  abbrev pub with_legs : Contents P → List (Leg P) → Contents P
  with_legs c ls = record { legs = c.legs ++ ls; capacity = c.capacity }

  -- the first n legs, or all if there are fewer
  abbrev pub kept : ℕ → Contents P → Contents P
  kept n c = record { legs = take n c.legs; capacity = c.capacity }

  -- Putting a leg: refused for fields that no leg has, and then exactly where there is no room; refused, it changes nothing.
  abbrev pub Put : Kind P → Contents P → Leg P → Result (Unit {0}) PutRefusal → Contents P → Type 0
  Put K c l (Ok _) c' = IsLeg K l × (1 ≤ room c) × (c' ≡ with_legs c (l ∷ []))
  Put K c l (Err NoLeg) c' = (IsLeg K l → ⊥) × (c' ≡ c)
  Put K c l (Err Full) c' = IsLeg K l × (room c ≡ 0) × (c' ≡ c)

-- ---- the record table

-- A table of records as it is seen: the legs in its first records, and how many records come after them, all of which are the blank one.
pub record Table (P : Type 0) : Type 0 where
  pub legs : List (Leg P)
  pub blanks : ℕ
  pub blank : Leg P

-- The memory that the records stand in: where it begins, how many records it is for, and where it came from.
pub record Block : Type 0 where
  pub start : Ptr
  pub capacity : ℕ
  pub allocator : Global

-- All that a table is: its records, and the memory that they stand in.
pub record Placed (P : Type 0) : Type 0 where
  pub records : Table P
  pub block : Block

module _ {P : Type 0} where
  -- What it holds, as an outlet.
  abbrev pub held : Table P → Contents P
  held t = record { legs = t.legs; capacity = length t.legs + t.blanks }

  -- All records: the legs, then blanks.
  abbrev pub records_of : Table P → List (Leg P)
  records_of t = t.legs ++ replicate t.blanks t.blank

  -- From record n on, all records are the blank one.
  abbrev pub BlankFrom : ℕ → List (Leg P) → Leg P → Type 0
  BlankFrom n records blank = (n ≤ length records) × (drop n records ≡ replicate (length records - n) blank)

  -- The leg that stands in unused records; its points are zero.
  abbrev pub blank_leg : Kind P → Leg P
  blank_leg K = record { stretch = record { from = 0; ticks = 1; cell = record { depth = 0; index = 0 } }; degree = 1; start = blank K; middle = blank K; end = blank K }
