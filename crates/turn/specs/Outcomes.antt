-- What each call does, to any draft and any outlet.
use Rattle.std.specs.Prelude.{◌≡◌, ℕ, ◌+◌, ◌≤◌, List, ◌++◌, map, length, Some, Ok, Err}
use Rattle.leg.specs.Chains.{Each}
use Rattle.leg.specs.Reasons.{First, refusal}
use Rattle.leg.specs.declared.leg.Cell.{Cell}
use Rattle.leg.specs.declared.leg.Leg.{Leg}
use Rattle.outlet.specs.Outlets.{Contents, with_legs}
use Rattle.curve.specs.Legs.{Fitted, leg_of}
use Rattle.turn.specs.Calls.{Answer, Call, lay, strike, seal, Progress, whole_ticks, last_leg, end_of}
use Rattle.turn.specs.Reasons.{facing, last_point, reasons}
use Rattle.turn.specs.Settings.{Setting}

module _ {P : Type 0} (A : Setting P) where
  -- The legs of a span that starts at the tick S, one for each of these cells of its curve.
  abbrev pub legs_for : ℕ → List P → ℕ → List Cell → List (Leg P)
  legs_for S ps ticks cs = map (leg_of A.kind A.measure A.rule S ticks ps) cs

  -- An accepted lay: the legs of the curve are put, in order, from the laid ticks on.
  pub record Laid (ps : List P) (ticks : ℕ) (g : Progress P) (c : Contents P) (g' : Progress P) (c' : Contents P) : Type 0 where
    pub cells : List Cell
    pub fitted : Fitted A.kind A.measure A.rule A.tolerance A.depth ps cells
    pub put : c' ≡ with_legs c (legs_for g.laid ps ticks cells)
    pub count : g'.count ≡ g.count + length cells
    pub laid : g'.laid ≡ g.laid + ticks
    pub end_value : g'.end_value ≡ Some (last_point A ps)

  -- An accepted strike: the last legs that share one start tick are off, all of them, and no other leg.
  pub record Struck (c : Contents P) (g' : Progress P) (c' : Contents P) : Type 0 where
    pub start : ℕ
    pub off : List (Leg P)
    pub some : 1 ≤ length off
    pub shared : Each (λ l. l.stretch.from ≡ start) off
    pub all : (l : Leg P) → last_leg c'.legs ≡ Some l → ¬ (l.stretch.from ≡ start)
    pub left : c.legs ≡ c'.legs ++ off
    pub capacity : c'.capacity ≡ c.capacity
    pub count : g'.count ≡ length c'.legs
    pub laid : g'.laid ≡ start
    pub end_value : g'.end_value ≡ end_of (last_leg c'.legs)

  -- Nothing changes where a call is refused, nor where a turn is sealed.
  abbrev pub Effect : Call P → Answer → Progress P → Contents P → Progress P → Contents P → Type 0
  Effect (lay ps l work) (Ok _) g c g' c' = Laid ps (whole_ticks l) g c g' c'
  Effect (lay ps l work) (Err f) g c g' c' = (g' ≡ g) × (c' ≡ c)
  Effect strike (Ok _) g c g' c' = Struck c g' c'
  Effect strike (Err f) g c g' c' = (g' ≡ g) × (c' ≡ c)
  Effect seal a g c g' c' = (g' ≡ g) × (c' ≡ c)

  -- The outcome of a call: it is answered by the first of its reasons that holds, and accepted where none holds; and it has that effect.
  pub record Outcome (call : Call P) (g : Progress P) (c : Contents P) (a : Answer) (g' : Progress P) (c' : Contents P) : Type 0 where
    pub answer : First (reasons A (facing A g c) call) (refusal a)
    pub effect : Effect call a g c g' c'
