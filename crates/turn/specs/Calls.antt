-- The calls that alter a draft, what they answer, and the spans that stand after a list of them.
use Rattle.std.specs.Prelude.{ℕ, ◌+◌, List, [], ◌∷◌, map, ℤ, pos, negsuc, Some, None, Option, Ok, Err, Result}
use Rattle.leg.specs.Chains.{last_or}
use Rattle.leg.specs.declared.leg.Leg.{Leg}
use Rattle.turn.specs.declared.call.Call.{Call as CodeCall}
use Rattle.turn.specs.declared.call.Call.TheVariants.{Lay, Strike, Seal}
use Rattle.turn.specs.declared.refusal.Refusal.{Refusal}

-- ---- calls and answers

-- A draft is a turn that is still being made, beside the outlet that holds its legs. To lay is to add a span at its end, to strike is to take its last span off again, to seal is to end the making.
pub data Call (P : Type 0) : Type 0 where
  lay : List P → ℤ → ℕ → Call P  -- the points of the curve, the ticks that it is drawn over, how many work points it may use
  strike : Call P
  seal : Call P

-- the call that the program's data stands for
abbrev pub call_of : {P : Type 0} → CodeCall P → Call P
call_of (Lay points ticks work) = lay points.now ticks work
call_of Strike = strike
call_of Seal = seal

abbrev pub calls_of : {P : Type 0} → List (CodeCall P) → List (Call P)
calls_of calls = map call_of calls

-- What a call answers: that it is accepted, or why it is refused.
abbrev pub Answer : Type 0
Answer = Result (Unit {0}) Refusal

abbrev pub answer_of : Option Refusal → Answer
answer_of None = Ok tt
answer_of (Some f) = Err f

-- The call is a seal, and was accepted.
abbrev pub Seals : {P : Type 0} → Call P → Answer → Type 0
Seals (lay ps l work) a = ⊥
Seals strike a = ⊥
Seals seal (Ok _) = Unit {0}
Seals seal (Err f) = ⊥

-- ---- histories

-- Calls made one after another, refused ones counted, each with its answer. The newest stands first.
abbrev pub History : Type 0 → Type 0
History P = List (Call P × Answer)

-- ---- standing spans

pub record Span (P : Type 0) : Type 0 where
  pub points : List P
  pub ticks : ℕ

-- The ticks of a span. Whatever is laid lasts at least one.
abbrev pub whole_ticks : ℤ → ℕ
whole_ticks (pos n) = n
whole_ticks (negsuc n) = 0

abbrev pub span_of : {P : Type 0} → List P → ℤ → Span P
span_of ps l = record { points = ps; ticks = whole_ticks l }

abbrev pub without_newest : {P : Type 0} → List (Span P) → List (Span P)
without_newest [] = []
without_newest (s ∷ ss) = ss

-- The spans that stand after one more call, the newest first: an accepted lay adds its span, an accepted strike takes the newest off, and nothing else changes them.
abbrev pub after_call : {P : Type 0} → Call P → Answer → List (Span P) → List (Span P)
after_call (lay ps l work) (Ok _) ss = span_of ps l ∷ ss
after_call (lay ps l work) (Err f) ss = ss
after_call strike (Ok _) ss = without_newest ss
after_call strike (Err f) ss = ss
after_call seal a ss = ss

abbrev pub standing : {P : Type 0} → History P → List (Span P)
standing [] = []
standing (x ∷ h) = after_call x.0 x.1 (standing h)

-- The tick at which the spans end, where the next one starts: each starts where the one before ends, the first at tick 0.
abbrev pub end_tick : {P : Type 0} → List (Span P) → ℕ
end_tick [] = 0
end_tick (s ∷ ss) = end_tick ss + s.ticks

-- ---- drafts

-- How far a draft has come.
pub record Progress (P : Type 0) : Type 0 where
  pub count : ℕ  -- how many legs it has put
  pub laid : ℕ  -- its laid ticks: up to which tick its spans go
  pub end_value : Option P  -- its end value: the point that ends its last leg

abbrev pub begun : {P : Type 0} → Progress P
begun = record { count = 0; laid = 0; end_value = None }

abbrev pub end_of : {P : Type 0} → Option (Leg P) → Option P
end_of None = None
end_of (Some l) = Some l.end

abbrev pub last_leg : {P : Type 0} → List (Leg P) → Option (Leg P)
last_leg ls = last_or None ls
