-- The printed lines, and where they are printed.
use Rattle.std.specs.Prelude.{◌≡◌, ℕ, ◌<◌, ◌≤◌, List, [], ◌∷◌, ◌++◌, length, drop, pos, Some, None, Ok, Err, Option, Result, codes}
use Rattle.ordinate.specs.Kinds.{Kind}
use Rattle.leg.specs.Legs.{IsLeg}
use Rattle.leg.specs.declared.leg.Leg.{Leg}
use Rattle.decimal.specs.Numbers.{text_of}
use Rattle.plan_text.specs.declared.form.At.{At}
use Rattle.plan_text.specs.declared.refusal.TextRefusal.{TextRefusal}
use Rattle.plan_text.specs.declared.refusal.TextRefusal.TheVariants.{ShortBuffer}
use Rattle.plan_text.specs.Texts.{listed, field}
use Rattle.plan_text.specs.Forms.{at_text}

abbrev pub natural_text : ℕ → List ℕ
natural_text n = text_of (pos n)

abbrev pub natural_field : List ℕ → ℕ → List ℕ
natural_field name n = field name (natural_text n)

-- `(leg (from S) (ticks L) (cell d k) (degree m) (at ..) (at ..) (at ..))` and a line feed, the octet 10
unfoldable pub leg_line : {P : Type 0} → (P → At) → Leg P → List ℕ
leg_line at l =
    listed (codes "leg")
    (natural_field (codes "from") l.stretch.from
    ∷ natural_field (codes "ticks") l.stretch.ticks
    ∷ listed (codes "cell") (natural_text l.stretch.cell.depth ∷ natural_text l.stretch.cell.index ∷ [])
    ∷ natural_field (codes "degree") l.degree
    ∷ at_text (at l.start)
    ∷ at_text (at l.middle)
    ∷ at_text (at l.end)
    ∷ [])
    ++ (10 ∷ [])

-- `(sealed (legs N) (ticks T))`
unfoldable pub sealed_line : ℕ → ℕ → List ℕ
sealed_line legs ticks = listed (codes "sealed") (natural_field (codes "legs") legs ∷ natural_field (codes "ticks") ticks ∷ []) ++ (10 ∷ [])

-- `(refused N (line M))`
unfoldable pub refused_line : ℕ → ℕ → List ℕ
refused_line number line = listed (codes "refused") (natural_text number ∷ natural_field (codes "line") line ∷ []) ++ (10 ∷ [])

-- The line stands at the start of the buffer, and the rest of it as it was.
abbrev pub StandsIn : List ℕ → List ℕ → List ℕ → Type 0
StandsIn line old new = (160 ≤ length old) × (new ≡ line ++ drop (length line) old)

-- A buffer of fewer than 160 octets is refused, and stays as it was.
abbrev pub RefusesShort : List ℕ → TextRefusal → List ℕ → Type 0
RefusesShort old f new = (f ≡ ShortBuffer) × (length old < 160) × (new ≡ old)

-- The line was printed, and its length is answered.
abbrev pub Prints : List ℕ → List ℕ → Result ℕ TextRefusal → List ℕ → Type 0
Prints line old (Ok n) new = (n ≡ length line) × StandsIn line old new
Prints line old (Err f) new = RefusesShort old f new

-- The same for a leg's line; data that is no leg prints nothing.
abbrev pub PrintsLeg : {P : Type 0} → Kind P → (P → At) → Leg P → List ℕ → Result (Option ℕ) TextRefusal → List ℕ → Type 0
PrintsLeg K at l old (Ok (Some n)) new = IsLeg K l × (n ≡ length (leg_line at l)) × StandsIn (leg_line at l) old new
PrintsLeg K at l old (Ok None) new = (IsLeg K l → ⊥) × (160 ≤ length old) × (new ≡ old)
PrintsLeg K at l old (Err f) new = RefusesShort old f new
