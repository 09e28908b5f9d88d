-- Text written among the octets of a buffer.
use Rattle.std.specs.Prelude.{◌≡◌, ℕ, ◌+◌, ◌<◌, ◌≤◌, List, ◌++◌, length, take, drop, Option, MatchOption}

-- The buffer with the text over it, from the place on.
abbrev pub over : List ℕ → ℕ → List ℕ → List ℕ
over buffer place text = take place buffer ++ (text ++ drop (place + length text) buffer)

-- Where there is room, the text was written and its length is answered; else nothing was.
abbrev pub Written : List ℕ → ℕ → List ℕ → Option ℕ → List ℕ → Type 0
Written text place old answer new =
    MatchOption answer
    ((length old < place + length text) × (new ≡ old))
    (λ n. (place + length text ≤ length old) × (n ≡ length text) × (new ≡ over old place text))
